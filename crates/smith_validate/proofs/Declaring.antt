-- What is kept is exact after a declaration.
use Rattle.std.proofs.Common.{◌≡◌, ℕ, ◌+◌, Bool, true, false, List, [], ◌∷◌, ◌++◌, length, map, reverse}
use Rattle.std.proofs.Common.{refl, sym, ap, ◌∙◌, subst, arith, append-nil, length-append, Option, None, Some}
use Rattle.std.specs.List.{AllByRecursion, AllZip, flat_map}
use Rattle.std.specs.Option.{option_to_list}
use Rattle.smith_input.specs.NewNames.{is_among}
use Rattle.smith_syntax.specs.Scope.{empty_scope}
use Rattle.smith_syntax.specs.declared.types.ComponentValType.{ComponentValType}
use Rattle.smith_tree.specs.Bodies.{Body, empty_body, with_facts}
use Rattle.smith_tree.specs.Facts.{FactScope, Facts, Id, id_at, value_needs}
use Rattle.smith_tree.specs.Validates.{names_of}
use Rattle.smith_validate.specs.Attained.{Attains}
use Rattle.smith_validate.specs.Bodies.{IsFresh}
use Rattle.smith_validate.specs.Exact.{AreKnown, IsBodyExactly, IsBodyExactlyNow, IsDeclaredExactly, IsJudgedExactly, IsKeptExactly, IsRoleExactly}
use Rattle.smith_validate.specs.Instances.{Surface}
use Rattle.smith_validate.specs.Kept.{types_in}
use Rattle.smith_validate.specs.Marks.{no_needs, plain_facts}
use Rattle.smith_validate.specs.Tables.{AreExact, names_in}
use Rattle.smith_validate.specs.Usual.{IsOfValues}
use Rattle.smith_validate.specs.Values.{HasMarks, marks_from}
use Rattle.smith_validate.specs.declared.body.Body.{Body as KeptBody}
use Rattle.smith_validate.specs.declared.body.Role.{Role}
use Rattle.smith_validate.specs.declared.body.Role.TheVariants.{Names as Naming, Exporting}
use Rattle.smith_validate.specs.declared.facts.Facts.{Facts as KeptFacts}
use Rattle.smith_validate.specs.declared.known.Known.{Known}
use Rattle.smith_validate.specs.declared.known.Scope.{Scope}
use Rattle.smith_validate.proofs.Attaining.{attains_moves, attains_nothing, is_false}
use Rattle.smith_validate.proofs.DeclSteps.{outer_kept}
use Rattle.smith_validate.proofs.Ids.{moves_next, not_under, under_same}
use Rattle.smith_validate.proofs.Knowing.{added_leave, added_moves, all_before, grown_out, grown_same, grown_then, kept_moves, known_entered, next_at}
use Rattle.smith_validate.proofs.BodySteps.{body_as, body_push}
use Rattle.smith_validate.proofs.Typing.{fact_exact, marks_attained, members_before}
use Rattle.smith_validate.proofs.Valued.{plain_marks}

pub exactly_now : (asks : Bool) (k : Known) (o : KeptBody) (b : Body) (outer : List FactScope) (named : List Id) (place : Id) (table : List Surface)
    → IsBodyExactly asks k o b outer named table → IsBodyExactlyNow asks k o b outer named place table
exactly_now asks k o b outer named place table h = record { new = table; grown = grown_same place table; is = h }

-- a type that names nothing, when there are more types of instances
pub named_nothing : (table : List Surface) (own : FactScope) (outer : List FactScope) (full : List Id) (size : ℕ) (f : Facts) → f.nominal ≡ false
    → f.id ≡ id_at (own ∷ outer) → f.exports ≡ [] → f.refers ≡ [] → IsKeptExactly table (next_at own outer) full (plain_facts no_needs size) f
named_nothing table own outer full size f plain id none nothing =
    fact_exact table (length own.types) (id_at outer) full (plain_facts no_needs size) f no_needs
    (subst (λ b. HasMarks (plain_facts no_needs size) b no_needs) (sym plain) (plain_marks no_needs size no_needs refl)) id none
    (λ x h. absurd (let z : is_among [] x ≡ true = subst (λ ids. is_among ids x ≡ true) nothing h in let y : false ≡ true = z in cc))
    (attains_nothing (next_at own outer) full f.refers) (λ h. absurd (let z : true ≡ false = sym h ∙ plain in cc))

module _ (k : Known) (own : FactScope) (outer : List FactScope) (named : List Id) (table : List Surface)
    (h : AreKnown (types_in k) k.instances.items (own ∷ outer) named table) where
  abbrev place : Id
  place = id_at (own ∷ outer)

  abbrev full : List Id
  full = named ++ names_in table

  -- a type of values or of functions
  pub declared_values : (g : KeptFacts) (f : Facts) (vs : List ComponentValType) → AllByRecursion (IsOfValues own.types) vs
      → HasMarks g f.nominal (marks_from k.scopes.own.types.items no_needs vs) → f.id ≡ place → f.exports ≡ []
      → f.refers ≡ flat_map (value_needs own.types) vs → IsDeclaredExactly own outer named table k g f
  declared_values g f vs usual marks id none refers =
      let m = moves_next (length own.types) (id_at outer) in
      let next = next_at own outer in
      let found = marks_attained table place full k.scopes.own.types.items own.types h.types_are.0 vs no_needs [] usual (attains_nothing place full []) in
      let moved = attains_moves place next full full m (λ x y z. y) (marks_from k.scopes.own.types.items no_needs vs) (flat_map (value_needs own.types) vs)
      found in
      record {
        new = table;
        grown = grown_same place table;
        instances_are = h.instances_are;
        added = added_moves place next table m h.added;
        long = h.long;
        is = fact_exact table (length own.types) (id_at outer) full g f (marks_from k.scopes.own.types.items no_needs vs) marks id none
            (λ x a. m.before 0 x (members_before table place full k.scopes.own.types.items own.types h.types_are.0 vs x
            (subst (λ ids. is_among ids x ≡ true) refers a)))
            (subst (λ ids. Attains next full (marks_from k.scopes.own.types.items no_needs vs) ids) (sym refers) moved)
            (λ e. is_false (is_among full place) (λ a. not_under 0 place place
            (all_before k.scopes.own.types.items (reverse (map (λ (s : Scope). s.types.items) k.scopes.outer.items)) k.instances.items own outer named table h
            place a)
            (under_same place)));
      }

-- a type of components is closed
pub declared_component : (asks : Bool) (k : Known) (o : KeptBody) (b : Body) (own : FactScope) (outer : List FactScope) (named : List Id)
    (table : List Surface) (size : ℕ) (f : Facts) → IsJudgedExactly asks k o b (own ∷ outer) named table → f.nominal ≡ false → f.id ≡ id_at (own ∷ outer)
    → f.exports ≡ [] → f.refers ≡ [] → IsDeclaredExactly own outer named table k (plain_facts no_needs size) f
declared_component asks k o b own outer named table size f j plain id none nothing = record {
  new = j.new;
  grown = j.grown;
  instances_are = j.instances_are;
  added = added_leave (length b.own.types) (length own.types) (id_at outer) j.new j.added;
  long = j.long;
  is = named_nothing j.new own outer (named ++ names_in j.new) size f plain id none nothing;
}

-- an alias
module _ (asks : Bool) (k : Known) (o : KeptBody) (b : Body) (outer : List FactScope) (named : List Id) (table : List Surface)
    (h : IsBodyExactly asks k o b outer named table) (new : Known) (p : KeptBody) (outers : new.scopes.outer.items ≡ k.scopes.outer.items)
    (instances : new.instances.items ≡ k.instances.items) (role : p.role ≡ o.role) where
  abbrev here : Id
  here = id_at (b.own ∷ outer)

  abbrev all : List Id
  all = (names_of b.exports ++ named) ++ names_in table

  pub body_alias : (x : Option KeptFacts) (y : Option Facts) → AllZip (IsKeptExactly table here all) (option_to_list x) (option_to_list y)
      → new.scopes.own.types.items ≡ k.scopes.own.types.items ++ option_to_list x
      → IsBodyExactlyNow asks new p (with_facts b (option_to_list y)) outer named here table
  body_alias None None a types = grind (arith, body_as, append-nil)
  body_alias None (Some f) a types = absurd a
  body_alias (Some g) None a types = absurd a
  body_alias (Some g) (Some f) a types =
      let m = moves_next (length b.own.types) (id_at outer) in
      body_push asks k o b outer named table h new p outers role g f table types (grown_same here table)
      (subst (λ is. AreExact is table) (sym instances) h.known.instances_are) (added_moves here (next_at b.own outer) table m h.known.added)
      (ap (λ is. length is) instances ∙ h.known.long)
      (kept_moves here (next_at b.own outer) all all table table m (λ id x y. x) (grown_same here table) g f a.0)

-- a type that was declared
pub body_declared_exactly : (asks : Bool) (k : Known) (o : KeptBody) (b : Body) (outer : List FactScope) (named : List Id) (table : List Surface)
    → IsBodyExactly asks k o b outer named table → (mid new : Known) (p : KeptBody) (g : KeptFacts) (f : Facts)
    → IsDeclaredExactly b.own outer (names_of b.exports ++ named) table mid g f
    → mid.scopes.own ≡ k.scopes.own → mid.scopes.outer.items ≡ k.scopes.outer.items → new.scopes.own.types.items ≡ mid.scopes.own.types.items ++ g ∷ []
    → new.scopes.outer.items ≡ mid.scopes.outer.items
    → new.instances.items ≡ mid.instances.items → p.role ≡ o.role
    → IsBodyExactlyNow asks new p (with_facts b (f ∷ [])) outer named (id_at (b.own ∷ outer)) table
body_declared_exactly asks k o b outer named table h mid new p g f d own out types outers instances role =
    body_push asks k o b outer named table h new p (outers ∙ out) role g f d.new (types ∙ ap (λ (s : Scope). s.types.items ++ g ∷ []) own) d.grown
    (subst (λ is. AreExact is d.new) (sym instances) d.instances_are) d.added (ap (λ is. length is) instances ∙ d.long) d.is

pub role_fresh_exactly : (table : List Surface) (outer : List FactScope) (named : List Id) (asks : Bool) (r : Role) → IsFresh asks r
    → IsRoleExactly table outer named asks r empty_body
role_fresh_exactly table outer named asks (Naming s) f = (f.0, f.2 table)
role_fresh_exactly table outer named asks (Exporting e) f = grind (arith, attains_nothing)

-- an empty scope within

pub entered_known : (k new : Known) (own : FactScope) (outer : List FactScope) (named : List Id) (table : List Surface)
    → AreKnown (types_in k) k.instances.items (own ∷ outer) named table
    → new.scopes.own.types.items ≡ [] → new.scopes.outer.items ≡ k.scopes.outer.items ++ k.scopes.own ∷ [] → new.instances.items ≡ k.instances.items
    → AreKnown (types_in new) new.instances.items (empty_scope ∷ own ∷ outer) named table
entered_known k new own outer named table h types outers instances =
    let kept = reverse (map (λ (s : Scope). s.types.items) k.scopes.outer.items) in
    let entered = known_entered k.scopes.own.types.items kept k.instances.items own outer named table h in
    let scopes : reverse (map (λ (s : Scope). s.types.items) new.scopes.outer.items) ≡ types_in k = outer_kept k new.scopes.outer.items outers in
    subst (λ is. AreKnown (types_in new) is (empty_scope ∷ own ∷ outer) named table) (sym instances)
    (subst (λ ts. AreKnown (ts ∷ reverse (map (λ (s : Scope). s.types.items) new.scopes.outer.items)) k.instances.items (empty_scope ∷ own ∷ outer) named table)
    (sym types) (subst (λ tss. AreKnown ([] ∷ tss) k.instances.items (empty_scope ∷ own ∷ outer) named table) (sym scopes) entered))

pub empty_exactly : (asks : Bool) (k : Known) (o : KeptBody) (outer : List FactScope) (named : List Id) (table : List Surface)
    → AreKnown (types_in k) k.instances.items (empty_scope ∷ outer) named table → length outer ≡ length k.scopes.outer.items → IsFresh asks o.role
    → IsBodyExactly asks k o empty_body outer named table
empty_exactly asks k o outer named table h d fresh = grind (arith, role_fresh_exactly)

-- declarations within a scope

pub exactly_begin : (asks : Bool) (own : FactScope) (outer : List FactScope) (named : List Id) (table : List Surface) (k new : Known) (o : KeptBody)
    → AreKnown (types_in k) k.instances.items (own ∷ outer) named table → length outer ≡ length k.scopes.outer.items → IsFresh asks o.role
    → new.scopes.own.types.items ≡ [] → new.scopes.outer.items ≡ k.scopes.outer.items ++ k.scopes.own ∷ [] → new.instances.items ≡ k.instances.items
    → IsBodyExactlyNow asks new o empty_body (own ∷ outer) named (id_at (own ∷ outer)) table
exactly_begin asks own outer named table k new o h d fresh types outers instances = grind (arith, exactly_now, empty_exactly, entered_known, length-append)

pub exactly_then : (asks : Bool) (k new : Known) (o p : KeptBody) (b c : Body) (outer : List FactScope) (named : List Id) (table : List Surface)
    → (n : IsBodyExactlyNow asks k o b outer named (id_at outer) table) → IsBodyExactlyNow asks new p c outer named (id_at (b.own ∷ outer)) n.new
    → IsBodyExactlyNow asks new p c outer named (id_at outer) table
exactly_then asks k new o p b c outer named table n m = grind (arith, grown_then, grown_out)

pub exactly_judged : (asks : Bool) (k new : Known) (o : KeptBody) (b : Body) (outer : List FactScope) (named : List Id) (table : List Surface)
    → IsBodyExactlyNow asks k o b outer named (id_at outer) table → new.instances.items ≡ k.instances.items
    → IsJudgedExactly asks new o b outer named table
exactly_judged asks k new o b outer named table n i = grind arith
