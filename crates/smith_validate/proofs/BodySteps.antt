-- What is kept of a body is exact, when types are added.
use Rattle.std.proofs.Common.{◌≡◌, inl, inr, ℕ, ◌+◌, ◌<◌, ◌≤◌, Bool, true, false, List, [], ◌∷◌, ◌++◌, length, map, reverse}
use Rattle.std.proofs.Common.{refl, sym, ap, ◌∙◌, subst, arith, length-append}
use Rattle.std.proofs.lemmas.Bool.{ltb-false, ltb-true}
use Rattle.std.specs.List.{AllByRecursion}
use Rattle.std.specs.Prelude.{ltb}
use Rattle.smith_input.specs.NewNames.{is_among}
use Rattle.smith_syntax.specs.Scope.{with_types}
use Rattle.smith_tree.specs.Bodies.{Body, with_facts}
use Rattle.smith_tree.specs.Facts.{Extern, FactScope, Facts, Id, id_at}
use Rattle.smith_tree.specs.Validates.{exported, imported, names_of}
use Rattle.smith_validate.specs.Deferring.{IsExposure, IsListed}
use Rattle.smith_validate.specs.Exact.{AreExportsExactly, IsBodyExactly, IsBodyExactlyNow, IsKeptExactly, IsRoleExactly}
use Rattle.smith_validate.specs.Instances.{Surface, externs_in, externs_of, place_of}
use Rattle.smith_validate.specs.Places.{IsBefore, IsInside, IsOpen, IsUnder}
use Rattle.smith_validate.specs.Tables.{AreAdded, AreExact, Fits, IsGrown, IsLive, names_in}
use Rattle.smith_validate.specs.declared.body.Body.{Body as KeptBody}
use Rattle.smith_validate.specs.declared.body.Exported.{Exported}
use Rattle.smith_validate.specs.declared.body.Role.{Role}
use Rattle.smith_validate.specs.declared.body.Role.TheVariants.{Names as Naming, Exporting}
use Rattle.smith_validate.specs.declared.facts.Facts.{Facts as KeptFacts}
use Rattle.smith_validate.specs.declared.exposure.Exposure.{Exposure}
use Rattle.smith_validate.specs.declared.known.Known.{Known}
use Rattle.smith_validate.specs.declared.known.Scope.{Scope}
use Rattle.smith_validate.proofs.Attaining.{Names, attains_moves}
use Rattle.smith_validate.proofs.Closing.{externs_fit, fit_more, fit_wider}
use Rattle.smith_validate.proofs.Ids.{Moves, closed_before, inside_under, moves_next, not_under, under_then}
use Rattle.smith_validate.proofs.Knowing.{grown_externs, grown_live, grown_long, grown_names, grown_place, grown_same}
use Rattle.smith_validate.proofs.Knowing.{known_as, known_push, names_grown, next_at, next_is}
use Rattle.smith_validate.proofs.Names.{among_cases, sub_left}
use Rattle.smith_validate.proofs.Opened.{live_known}

module _ (place : Id) (table new : List Surface) (e : Exposure) (ids : List Id) (added : AreAdded place table) (g : IsGrown place table new)
    (before : (id : Id) → is_among ids id ≡ true → IsBefore 0 place id) (x : IsExposure table e ids) where
  -- it is one of those before, of which that holds
  was_before : {P : Type 0} (n : ℕ) → IsLive new n → (n < length table → P) → (IsUnder (place_of new n) place → P) → P
  was_before {P} n l earlier later = by_length (ltb n (length table)) refl
    where
      by_length : (t : Bool) → ltb n (length table) ≡ t → P
      by_length true e = earlier (ltb-true n (length table) e)
      by_length false e = let h = ltb-false n (length table) e in later (g.places n (omega (arith, h)) l)

  not_within : {P : Type 0} (n : ℕ) (id : Id) → is_among ids id ≡ true → IsInside id (place_of new n) → IsUnder (place_of new n) place → P
  not_within n id a i u = absurd (not_under 0 place id (before id a) (under_then id (place_of new n) place (inside_under id (place_of new n) i) u))

  -- what it names, and where it was added
  named_was : (n : ℕ) (id : Id) → n < length table → is_among (names_of (externs_of new n)) id ≡ true → is_among (names_of (externs_of table n)) id ≡ true
  named_was n id h a = subst (λ xs. is_among (names_of xs) id ≡ true) (grown_externs place table new g n h) a

  named_is : (n : ℕ) (id : Id) → n < length table → is_among (names_of (externs_of table n)) id ≡ true → is_among (names_of (externs_of new n)) id ≡ true
  named_is n id h a = subst (λ xs. is_among (names_of xs) id ≡ true) (sym (grown_externs place table new g n h)) a

  inside_was : (n : ℕ) (id : Id) → n < length table → IsInside id (place_of new n) → IsInside id (place_of table n)
  inside_was n id h i = subst (λ p. IsInside id p) (grown_place place table new g n h) i

  listed_short : (m : ℕ) → IsListed e.later.items m → m < length table
  listed_short m l = live_known table m (x.live m l)

  pub exposure_grown : IsExposure new e ids
  exposure_grown = record {
    opened = λ n id l a i.
        was_before n l
        (λ h. elim (x.opened n id (grown_live place table new g n h l) a (inside_was n id h i)) [
          | inl y ↦ inl y
          | inr y ↦ inr (record { by = y.by; exposed = y.exposed; names = named_is y.by id (x.names y.by y.exposed).0 y.names })
        ])
        (not_within n id a i);
    within = λ m n id s l a i.
        let k = x.names m s in
        let was = named_was m id k.0 a in
        was_before n l
        (λ h. elim (x.within m n id s (grown_live place table new g n h l) was (inside_was n id h i)) [
          | inl y ↦ inl y
          | inr y ↦ inr (record { by = y.by; listed = y.listed; before = y.before; names = named_is y.by id (listed_short y.by y.listed) y.names })
        ])
        (not_within n id (k.1 id was) i);
    reached = λ m n s l u.
        let was = subst (λ p. IsUnder p (place_of new n)) (grown_place place table new g m (listed_short m s)) u in
        was_before n l
        (λ h. x.reached m n s (grown_live place table new g n h l) (subst (λ p. IsUnder (place_of table m) p) (grown_place place table new g n h) was))
        (λ v. absurd (not_under 0 place (place_of table m) (added.before m (x.live m s)) (under_then (place_of table m) (place_of new n) place was v)));
    live = λ m s. subst (λ p. ¬ (p ≡ [])) (sym (grown_place place table new g m (listed_short m s))) (x.live m s);
    names = λ n s. let k = x.names n s in (grown_long place table new g n k.0, λ id a. k.1 id (named_was n id k.0 a));
  }

module _ (table new : List Surface) (old place around : Id) (named more : List Id) (m : Moves old place)
    (n : Names old named more) (g : IsGrown old table new) where
  pub exports_move : (e : Exported) (xs : List Extern) → AreExportsExactly table old around named e xs → AreExportsExactly new place around more e xs
  exports_move e xs a =
      let F : List Surface → Type 0 = λ t. (xs ≡ externs_in t a.pieces) × AllByRecursion (Fits t (length table) around) a.pieces in
      let f : F new = subst F (sym g.is) (
        a.externs_are ∙ sym (externs_fit table g.more (length table) around (omega arith) a.pieces a.fit),
        fit_more table g.more (length table) around (omega arith) a.pieces a.fit,
      ) in
      let long : length table ≤ length new =
      let k : length new ≡ length table + length g.more = ap (λ (t : List Surface). length t) g.is ∙ length-append table g.more in omega (arith, k) in
      record {
        pieces = a.pieces;
        externs_are = f.0;
        uses_are = a.uses_are;
        fit = fit_wider new (length table) (length new) around long a.pieces f.1;
        before = λ id h. m.before 0 id (a.before id h);
        refers_are = attains_moves old place named more m n e.refers _ a.refers_are;
        some = a.some;
        none = a.none;
      }

-- what is imported or exported was added before
module _ (asks : Bool) (k : Known) (o : KeptBody) (b : Body) (outer : List FactScope) (named : List Id) (table : List Surface)
    (h : IsBodyExactly asks k o b outer named table) where
  abbrev place : Id
  place = id_at (b.own ∷ outer)

  pub exports_before : (id : Id) → is_among (names_of b.exports) id ≡ true → IsBefore 0 place id
  exports_before id a = h.known.named_before id (sub_left (names_of b.exports) named id a)

  pub imports_before : (id : Id) → is_among (names_of b.imports) id ≡ true → IsBefore 0 place id
  imports_before id a = closed_before place id (h.known.added.closed id (h.imports_are id a))

  pub exported_before : (id : Id) → is_among (exported b) id ≡ true → IsBefore 0 place id
  exported_before id a = elim (among_cases (names_of b.imports) (names_of b.exports) id a) [ inl x ↦ imports_before id x | inr y ↦ exports_before id y ]

  -- when there are more types of instances, and perhaps one more type
  pub role_moves : (new : List Surface) (next : Id) → Moves place next → IsGrown place table new → (r : Role) → IsRoleExactly table outer named asks r b
      → (own : FactScope) → id_at (own ∷ outer) ≡ next → (c : Body) → c.imports ≡ b.imports → c.exports ≡ b.exports → c.own ≡ own
      → IsRoleExactly new outer named asks r c
  role_moves new next m g (Naming s) r own at c i e w = (
    r.0,
    (
      subst (λ xs. IsExposure new s.imported (names_of xs)) (sym i)
          (exposure_grown place table new s.imported (imported b) h.known.added g imports_before r.1.0),
      subst (λ xs. IsExposure new s.exported (names_of xs ++ names_of c.exports)) (sym i)
          (subst (λ xs. IsExposure new s.exported (names_of b.imports ++ names_of xs)) (sym e)
          (exposure_grown place table new s.exported (exported b) h.known.added g exported_before r.1.1)),
    ),
  )
  role_moves new next m g (Exporting x) r own at c i e w = (
    r.0,
    subst (λ xs. AreExportsExactly new (id_at (c.own ∷ outer)) (id_at outer) ((names_of xs ++ named) ++ names_in new) x xs) (sym e)
        (subst (λ p. AreExportsExactly new p (id_at outer) ((names_of b.exports ++ named) ++ names_in new) x b.exports)
        (sym (ap (λ (s : FactScope). id_at (s ∷ outer)) w ∙ at))
        (exports_move table new place next (id_at outer) ((names_of b.exports ++ named) ++ names_in table) ((names_of b.exports ++ named) ++ names_in new)
        m (names_grown place (names_of b.exports ++ named) table new g) g x b.exports r.1)),
  )

  module _ (new : Known) (p : KeptBody) (outers : new.scopes.outer.items ≡ k.scopes.outer.items) (role : p.role ≡ o.role) where
    -- a type is added
    pub body_push : (kept : KeptFacts) (f : Facts) (table2 : List Surface) → new.scopes.own.types.items ≡ k.scopes.own.types.items ++ kept ∷ []
        → IsGrown place table table2 → AreExact new.instances.items table2 → AreAdded (next_at b.own outer) table2 → length new.instances.items ≡ length table2
        → IsKeptExactly table2 (next_at b.own outer) ((names_of b.exports ++ named) ++ names_in table2) kept f
        → IsBodyExactlyNow asks new p (with_facts b (f ∷ [])) outer named place table
    body_push kept f table2 types g exact added long is =
        let m = moves_next (length b.own.types) (id_at outer) in
        let N = names_of b.exports ++ named in
        let pushed = known_push k.scopes.own.types.items (reverse (map (λ s. s.types.items) k.scopes.outer.items)) k.instances.items b.own outer N table h.known
        new.instances.items N table2 kept f g exact added long (names_grown place N table table2 g) (λ id a. m.before 0 id (h.known.named_before id a)) is in
        let at = next_is b.own outer f in
        record {
          new = table2;
          grown = g;
          is = record {
            known = known_as k new (k.scopes.own.types.items ++ kept ∷ []) new.instances.items (with_types b.own (f ∷ []) ∷ outer) N table2 types outers refl
                pushed;
            depth_is = h.depth_is ∙ ap (λ (os : List Scope). length os) (sym outers);
            exports_are = λ id a.
                elim (h.exports_are id a) [
                  | inl y ↦ inl (grown_names place table table2 g id y)
                  | inr y ↦ inr (subst (λ q. IsOpen q id) (sym at) (m.open_still id y.0), y.1)
                ];
            imports_are = λ id a. grown_names place table table2 g id (h.imports_are id a);
            role_is = subst (λ r. IsRoleExactly table2 outer named asks r (with_facts b (f ∷ []))) (sym role)
                (role_moves table2 (next_at b.own outer) m g o.role h.role_is (with_types b.own (f ∷ [])) at (with_facts b (f ∷ [])) refl refl refl);
          };
        }

    -- nothing is
    pub body_as : (c : Body) → new.scopes.own.types.items ≡ k.scopes.own.types.items → new.instances.items ≡ k.instances.items → c.own.types ≡ b.own.types
        → c.imports ≡ b.imports → c.exports ≡ b.exports → IsBodyExactlyNow asks new p c outer named place table
    body_as c types instances own imports exports =
        let P : List Facts → List Extern → List Extern → Type 0 = λ ts is es. IsBodyExactly asks new p
        (record { own = record { types = ts; core_types = c.own.core_types }; imports = is; exports = es; size = c.size; counts = c.counts })
        outer named table in
        let known = known_as k new k.scopes.own.types.items k.instances.items (b.own ∷ outer) (names_of b.exports ++ named) table types outers instances
        h.known in
        let it : P b.own.types b.imports b.exports = record {
          known = record {
            types_are = known.types_are;
            instances_are = known.instances_are;
            added = known.added;
            long = known.long;
            named_before = known.named_before;
          };
          depth_is = h.depth_is ∙ ap (λ (os : List Scope). length os) (sym outers);
          exports_are = h.exports_are;
          imports_are = h.imports_are;
          role_is = subst (λ r. IsRoleExactly table outer named asks r (record {
            own = record { types = b.own.types; core_types = c.own.core_types };
            imports = b.imports;
            exports = b.exports;
            size = c.size;
            counts = c.counts;
          })) (sym role) (role_same o.role h.role_is);
        } in
        record {
          new = table;
          grown = grown_same place table;
          is = subst (λ es. P c.own.types c.imports es) (sym exports)
              (subst (λ is. P c.own.types is b.exports) (sym imports) (subst (λ ts. P ts b.imports b.exports) (sym own) it));
        }
      where
        role_same : (r : Role) → IsRoleExactly table outer named asks r b → IsRoleExactly table outer named asks r (record {
          own = record { types = b.own.types; core_types = c.own.core_types };
          imports = b.imports;
          exports = b.exports;
          size = c.size;
          counts = c.counts;
        })
        role_same (Naming s) r = r
        role_same (Exporting x) r = r
