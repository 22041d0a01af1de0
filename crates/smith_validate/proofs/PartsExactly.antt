-- The sections of a component, if what is kept is exact.
use Rattle.std.proofs.Common.{◌≡◌, inl, inr, ℕ, zero, suc, ◌+◌, ◌<◌, ◌≤◌, Bool, true, false, List, [], ◌∷◌, ◌++◌, length, map, reverse}
use Rattle.std.proofs.Common.{refl, sym, ap, ◌∙◌, subst, arith, append-nil, length-append}
use Rattle.std.proofs.lemmas.Bool.{ltb-false, ltb-true}
use Rattle.std.specs.Prelude.{ltb}
use Rattle.smith_input.specs.NewNames.{is_among}
use Rattle.smith_syntax.specs.Scope.{empty_scope}
use Rattle.smith_tree.specs.Bodies.{Body, empty_body}
use Rattle.smith_tree.specs.Counts.{Counts, ValidCounts}
use Rattle.smith_validate.specs.declared.body.Role.{Role}
use Rattle.smith_validate.specs.declared.body.Role.TheVariants.{Exporting, Names}
use Rattle.smith_tree.specs.Facts.{Extern, FactScope, Id, id_at}
use Rattle.smith_tree.specs.Validates.{names_of}
use Rattle.smith_validate.specs.Exact.{AreKnown, IsBodyExactly, IsBodyExactlyNow, IsRoleExactly}
use Rattle.smith_validate.specs.Instances.{Surface, no_surface, place_of}
use Rattle.smith_validate.specs.Kept.{own_in, types_in}
use Rattle.smith_validate.specs.Places.{IsBefore}
use Rattle.smith_validate.specs.Steps.{At, Later}
use Rattle.smith_validate.specs.Tables.{AreAdded, AreExact, IsGrown, IsLive, names_in}
use Rattle.smith_validate.specs.Bodies.{IsBody, IsIn}
use Rattle.smith_validate.specs.Parts.{IsNew, IsOpen, IsOpenBoth}
use Rattle.smith_validate.specs.declared.open.Open.{Open}
use Rattle.smith_tree.specs.Spaces.{no_spaces}
use Rattle.smith_validate.proofs.Declaring.{empty_exactly, entered_known}
use Rattle.smith_validate.specs.Counted.{counted}
use Rattle.smith_validate.specs.declared.body.Body.{Body as KeptBody}
use Rattle.smith_validate.specs.declared.counts.Counts.{Counts as Counted}
use Rattle.smith_validate.specs.declared.known.Known.{Known}
use Rattle.smith_validate.specs.declared.known.Scope.{Scope}
use Rattle.smith_validate.proofs.Closing.{exact_less, exact_more}
use Rattle.smith_validate.proofs.DeclSteps.{empty_is, in_entered}
use Rattle.smith_validate.proofs.Ids.{moves_same}
use Rattle.smith_validate.proofs.Knowing.{grown_live, grown_names, grown_place, known_as, names_grown, names_in_append, types_move}
use Rattle.smith_validate.proofs.BodySteps.{role_moves}
use Rattle.smith_validate.proofs.Roles.{role_of}
use Rattle.smith_validate.proofs.Tables.{place_more}

pub now_after : (asks : Bool) (k : Known) (o : KeptBody) (b : Body) (outer : List FactScope) (named : List Id) (place : Id) (table : List Surface)
    → IsBodyExactlyNow asks k o b outer named place table → Later (IsBodyExactly asks k o) b outer named table
now_after asks k o b outer named place table n = (n.grown.more, subst (λ t. IsBodyExactly asks k o b outer named t) n.grown.is n.is)

-- Types of instances that can no longer be referred to.

abbrev pub forgotten : List Surface → List Surface
forgotten more = map (λ e. no_surface) more

forgotten_long : (more : List Surface) → length (forgotten more) ≡ length more
forgotten_long [] = refl
forgotten_long (e ∷ more) = let h = forgotten_long more in omega (arith, h)

forgotten_names : (more : List Surface) → names_in (forgotten more) ≡ []
forgotten_names [] = refl
forgotten_names (e ∷ more) = forgotten_names more

past_table : (table more : List Surface) (n : ℕ) → length table ≤ n → place_of (table ++ forgotten more) n ≡ []
past_table [] [] n h = refl
past_table [] (e ∷ more) zero h = refl
past_table [] (e ∷ more) (suc n) h = past_table [] more n (omega arith)
past_table (e ∷ table) more zero h = absurd (omega (arith, h))
past_table (e ∷ table) more (suc n) h = past_table table more n (omega (arith, h))

module _ (place : Id) (table more : List Surface) where
  abbrev padded : List Surface
  padded = table ++ forgotten more

  padded_live : (n : ℕ) → IsLive padded n → n < length table
  padded_live n l = by_length (ltb n (length table)) refl
    where
      by_length : (t : Bool) → ltb n (length table) ≡ t → n < length table
      by_length true e = ltb-true n (length table) e
      by_length false e = absurd (l (past_table table more n (ltb-false n (length table) e)))

  names_padded : names_in padded ≡ names_in table
  names_padded = names_in_append table (forgotten more) ∙ (ap (λ ids. names_in table ++ ids) (forgotten_names more) ∙ append-nil (names_in table))

  pub padded_grown : IsGrown place table padded
  padded_grown = grind (arith, names_padded, padded_live)

  pub padded_added : AreAdded place table → AreAdded place padded
  padded_added a = record {
    before = λ n l. subst (λ p. IsBefore 0 place p) (sym (grown_place place table padded padded_grown n (padded_live n l)))
        (a.before n (grown_live place table padded padded_grown n (padded_live n l) l));
    distinct = λ m n l k e.
        a.distinct m n (grown_live place table padded padded_grown m (padded_live m l) l) (grown_live place table padded padded_grown n (padded_live n k) k)
        (sym (grown_place place table padded padded_grown m (padded_live m l)) ∙ (e ∙ grown_place place table padded padded_grown n (padded_live n k)));
    closed = λ id h. a.closed id (subst (λ ids. is_among ids id ≡ true) names_padded h);
  }

-- A component within is judged.
module _ (asks : Bool) (k : Known) (o : KeptBody) (b : Body) (outer : List FactScope) (named : List Id) (table : List Surface)
    (h : IsBodyExactly asks k o b outer named table) where
  pub body_after_component : (new : Known) (p : KeptBody) (c : Body) (more : List Surface) → new.scopes.own ≡ k.scopes.own
      → new.scopes.outer.items ≡ k.scopes.outer.items
      → AreExact new.instances.items (table ++ more) → length new.instances.items ≡ length (table ++ more) → p.role ≡ o.role → c.own ≡ b.own
      → c.imports ≡ b.imports → c.exports ≡ b.exports → Later (IsBodyExactly asks new p) c outer named table
  body_after_component new p c more owns outers exact long role own imports exports =
      let here = id_at (b.own ∷ outer) in
      let all = table ++ forgotten more in
      let N = names_of b.exports ++ named in
      let g = padded_grown here table more in
      let kept = reverse (map (λ (s : Scope). s.types.items) k.scopes.outer.items) in
      let F : FactScope → List Extern → List Extern → Type 0 = λ s is es. IsBodyExactly asks new p
      (record { own = s; imports = is; exports = es; size = c.size; counts = c.counts }) outer named all in
      let known : AreKnown (types_in k) new.instances.items (b.own ∷ outer) N all = record {
        types_are = types_move here here (N ++ names_in table) (N ++ names_in all) table all (moves_same here) (names_grown here N table all g) g
            (k.scopes.own.types.items ∷ kept) (b.own ∷ outer) h.known.types_are;
        instances_are = λ n l.
            let m = padded_live here table more n l in
            exact_more new.instances.items new.instances.items table (forgotten more) n m refl
            (exact_less new.instances.items table more n m
            (exact n (λ e. grown_live here table all g n m l (sym (place_more table more n m) ∙ e))));
        added = padded_added here table more h.known.added;
        long = long ∙ (length-append table more ∙ (ap (λ n. length table + n) (sym (forgotten_long more)) ∙ sym (length-append table (forgotten more))));
        named_before = h.known.named_before;
      } in
      let at : F b.own b.imports b.exports = record {
        known = known_as k new k.scopes.own.types.items new.instances.items (b.own ∷ outer) N all (ap (λ (s : Scope). s.types.items) owns) outers refl known;
        depth_is = h.depth_is ∙ ap (λ (os : List Scope). length os) (sym outers);
        exports_are = λ id a. elim (h.exports_are id a) [ inl y ↦ inl (grown_names here table all g id y) | inr y ↦ inr y ];
        imports_are = λ id a. grown_names here table all g id (h.imports_are id a);
        role_is = subst (λ r. IsRoleExactly all outer named asks r (record {
          own = b.own;
          imports = b.imports;
          exports = b.exports;
          size = c.size;
          counts = c.counts;
        })) (sym role)
            (role_moves asks k o b outer named table h all here (moves_same here) g o.role h.role_is b.own refl (record {
              own = b.own;
              imports = b.imports;
              exports = b.exports;
              size = c.size;
              counts = c.counts;
            }) refl refl refl);
      } in (
        forgotten more,
        subst (λ es. F c.own c.imports es) (sym exports)
            (subst (λ is. F c.own is b.exports) (sym imports) (subst (λ s. F s b.imports b.exports) (sym own) at)),
      )

-- nothing is known before a component
pub start_known : (k : Known) → k.scopes.own.types.items ≡ [] → k.scopes.outer.items ≡ [] → k.instances.items ≡ []
    → AreKnown (types_in k) k.instances.items (empty_scope ∷ []) [] []
start_known k types outers instances = grind arith

-- one more is counted
pub body_counted : (k : Known) (o : KeptBody) (b : Body) (outer : List FactScope) (names : List (List Id)) (table : List Surface)
    → IsBody true k o b outer names table → (new : Counted) (after : Counts → Counts) → counted new ≡ after (counted o.counts)
    → ValidCounts (after b.counts) → IsBody true k (record o { counts = new }) (record b { counts = after b.counts }) outer names table
body_counted k o b outer names table h new after added valid = grind (arith, role_of)

abbrev pub with_counts : KeptBody → Counted → KeptBody
with_counts o n = record o { counts = n }

abbrev pub recounted : Body → Counts → Body
recounted b n = record b { counts = n }

role_recounted : (table : List Surface) (outer : List FactScope) (named : List Id) (r : Role) (b : Body) (n : Counts)
    → IsRoleExactly table outer named true r b → IsRoleExactly table outer named true r (recounted b n)
role_recounted table outer named (Names s) b n h = h
role_recounted table outer named (Exporting e) b n h = h

pub exactly_counted : (k : Known) (o : KeptBody) (b : Body) (outer : List FactScope) (named : List Id) (table : List Surface) (m : Counted) (n : Counts)
    → IsBodyExactly true k o b outer named table → IsBodyExactly true k (with_counts o m) (recounted b n) outer named table
exactly_counted k o b outer named table m n h = record {
  known = h.known;
  depth_is = h.depth_is;
  exports_are = h.exports_are;
  imports_are = h.imports_are;
  role_is = role_recounted table outer named o.role b n h.role_is;
}

-- A component begins in these scopes. What is kept is of them, and exact.
pub record IsBegun (k : Known) (outer : List FactScope) (named : List Id) (table : List Surface) : Type 0 where
  pub names : List (List Id)
  pub covered : List Surface
  pub is : IsIn k empty_scope outer [] names covered
  pub known : AreKnown (types_in k) k.instances.items (empty_scope ∷ outer) named table
  pub depth_is : length outer ≡ length k.scopes.outer.items

-- a component that begins

pub open_begin : (k : Known) (o : Open) (outer : List FactScope) (names : List (List Id)) (table : List Surface) → IsIn k empty_scope outer [] names table
    → IsNew o → IsOpen k o (no_spaces, empty_body) outer names table
open_begin k o outer names table s n = record { body = empty_is true k o.body outer names table s n.empty n.fresh; functions_are = n.functions_are }

pub begun_both : (k : Known) (o : Open) (outer : List FactScope) (named : List Id) (table : List Surface) → IsBegun k outer named table
    → IsNew o → IsOpenBoth k o (no_spaces, empty_body) outer named table
begun_both k o outer named table h n = grind (arith, open_begin, empty_exactly)

-- a component within another
pub entered_begun : (k new : Known) (o : Open) (at : At) (outer : List FactScope) (named : List Id) (table : List Surface)
    → IsOpenBoth k o at outer named table → own_in new ≡ empty_scope → new.scopes.own.types.items ≡ []
    → new.scopes.outer.items ≡ k.scopes.outer.items ++ k.scopes.own ∷ []
    → new.instances.items ≡ k.instances.items → IsBegun new (at.1.own ∷ outer) (names_of at.1.exports ++ named) table
entered_begun k new o at outer named table h sizes types outers instances =
    let here = names_of at.1.exports in
    let d = h.exact.depth_is in
    record {
      names = here ∷ h.names;
      covered = h.covered;
      is = in_entered k new at.1.own outer here h.names h.covered h.open_is.body.scopes sizes types outers instances;
      known = entered_known k new at.1.own outer (here ++ named) table h.exact.known types outers instances;
      depth_is = omega (arith, d, ap (λ (os : List Scope). length os) outers, length-append k.scopes.outer.items (k.scopes.own ∷ []));
    }
