-- What is kept of a body is exact after an import or an export.
use Rattle.std.proofs.Common.{◌≡◌, ◌⊎◌, inl, inr, ℕ, zero, suc, Bool, true, false, List, [], ◌∷◌, ◌++◌, length, map, reverse}
use Rattle.std.proofs.Common.{refl, sym, ap, ◌∙◌, subst, arith, append-nil, Option, None, Some}
use Rattle.std.specs.List.{AllZip, flat_map}
use Rattle.std.specs.Option.{option_to_list}
use Rattle.std.specs.Prelude.{slice_get}
use Rattle.smith_input.specs.NewNames.{is_among}
use Rattle.smith_syntax.specs.Scope.{with_types}
use Rattle.smith_syntax.specs.WellFormed.{is_type_eq}
use Rattle.smith_syntax.specs.declared.deftype.ComponentTypeRef.{ComponentTypeRef}
use Rattle.smith_syntax.specs.declared.deftype.ComponentTypeRef.TheVariants as to
use Rattle.smith_tree.specs.Bodies.{Body, after_export, after_import, equal_extern, equal_facts, exported_facts, externs_at, function_extern}
use Rattle.smith_tree.specs.Facts.{Extern, FactScope, Facts, Id, id_at}
use Rattle.smith_tree.specs.Validates.{names_of}
use Rattle.smith_validate.specs.Deferring.{IsExposure}
use Rattle.smith_validate.specs.Exact.{AreExportsExactly, AreKnown, IsKeptExactly, IsNumberOf, IsRoleExactly}
use Rattle.smith_validate.specs.Exact.{IsRoleExported, IsKeptBody}
use Rattle.smith_validate.specs.Externs.{exported_of}
use Rattle.smith_validate.specs.Instances.{Surface}
use Rattle.smith_validate.specs.Kept.{types_in}
use Rattle.smith_validate.specs.Marks.{named_facts}
use Rattle.smith_validate.specs.Places.{IsBefore, IsOpen, IsUnder}
use Rattle.smith_validate.specs.Tables.{names_in}
use Rattle.smith_validate.specs.declared.body.Role.{Role}
use Rattle.smith_validate.specs.declared.body.Role.TheVariants.{Names as Naming, Exporting}
use Rattle.smith_validate.specs.declared.facts.Facts.{Facts as KeptFacts}
use Rattle.smith_validate.specs.declared.known.Known.{Known}
use Rattle.smith_validate.specs.declared.known.Scope.{Scope}
use Rattle.smith_validate.proofs.Attaining.{Names}
use Rattle.smith_validate.proofs.Closing.{scope_long}
use Rattle.smith_validate.proofs.Ids.{Moves, added_open, closed_before, moves_next, moves_same, not_under, open_before, under_same}
use Rattle.smith_validate.proofs.Knowing.{grown_same, kept_moves, known_as, known_named, known_push, next_at, next_is, added_moves}
use Rattle.smith_validate.proofs.Names.{Sub, among_cases, among_one, sub_left, sub_right}
use Rattle.smith_validate.proofs.Piecing.{names_of_one}
use Rattle.smith_validate.proofs.BodySteps.{exports_move}
use Rattle.smith_validate.proofs.Typing.{equal_exact}
use Rattle.smith_validate.proofs.Zips.{beside, none_beside}
use Rattle.smith_tree.proofs.Named.{names_of_both as names_append}

module _ (table : List Surface) (place : Id) (named : List Id) where
  -- an instance names what its type does
  number_names : (i : Option ℕ) (f : Facts) → IsNumberOf table place i f → Sub (names_of f.exports) (names_in table)
  number_names None f n = λ id h. absurd (let z : is_among (names_of []) id ≡ true = subst (λ xs. is_among (names_of xs) id ≡ true) n h in
      let y : false ≡ true = z in cc)
  number_names (Some k) f n = λ id h. names_of_one table k id (subst (λ xs. is_among (names_of xs) id ≡ true) n.2 h)

  instance_names : (ks : List KeptFacts) (fs : List Facts) → AllZip (IsKeptExactly table place named) ks fs → (i : ℕ)
      → Sub (names_of (flat_map (λ f. f.exports) (option_to_list (slice_get fs i)))) (names_in table)
  instance_names [] [] a i = λ id h. absurd (let z : false ≡ true = h in cc)
  instance_names [] (f ∷ fs) a i = absurd a
  instance_names (k ∷ ks) [] a i = absurd a
  instance_names (k ∷ ks) (f ∷ fs) a zero = λ id h.
      number_names k.instance f a.0.number_is id (subst (λ xs. is_among (names_of xs) id ≡ true) (append-nil f.exports) h)
  instance_names (k ∷ ks) (f ∷ fs) a (suc i) = instance_names ks fs a.1 i

  function_names : (o : Option Facts) → Sub (names_of (map function_extern (option_to_list o))) (names_in table)
  function_names None = λ id h. absurd (let z : false ≡ true = h in cc)
  function_names (Some f) = λ id h. absurd (let z : false ≡ true = h in cc)

-- what is named if no type is added
pub other_names : (table : List Surface) (named : List Id) (own : FactScope) (outer : List FactScope) (ks : List KeptFacts)
    → AllZip (IsKeptExactly table (id_at (own ∷ outer)) named) ks own.types → (r : ComponentTypeRef) → is_type_eq r ≡ false
    → Sub (names_of (externs_at own outer r)) (names_in table)
other_names table named own outer ks a (to.Module i) e = λ id h. absurd (let z : false ≡ true = h in cc)
other_names table named own outer ks a (to.Func i) e = function_names table (id_at (own ∷ outer)) named (slice_get own.types i)
other_names table named own outer ks a (to.TypeEq i) e = absurd (let z : true ≡ false = e in cc)
other_names table named own outer ks a (to.Component i) e = λ id h. absurd (let z : false ≡ true = h in cc)
other_names table named own outer ks a (to.Instance i) e = instance_names table (id_at (own ∷ outer)) named ks own.types a i

module _ (asks : Bool) (k : Known) (r : Role) (b : Body) (outer : List FactScope) (named : List Id) (table : List Surface)
    (h : IsKeptBody asks k r b outer named table) where
  abbrev place : Id
  place = id_at (b.own ∷ outer)

  abbrev around : List Id
  around = names_of b.exports ++ named

  -- an import
  pub import_exactly : (new : Role) (to : ComponentTypeRef) → is_type_eq to ≡ false → IsRoleExactly table outer named asks new (after_import outer b to)
      → IsKeptBody asks k new (after_import outer b to) outer named table
  import_exactly new to e role = record {
    known = h.known;
    depth_is = h.depth_is;
    exports_are = h.exports_are;
    imports_are = λ id a.
        elim (among_cases (names_of b.imports) (names_of (externs_at b.own outer to)) id
        (subst (λ ids. is_among ids id ≡ true) (names_append b.imports (externs_at b.own outer to)) a)) [
          | inl x ↦ h.imports_are id x
          | inr y ↦ other_names table (around ++ names_in table) b.own outer k.scopes.own.types.items h.known.types_are.0 to e id y
        ];
    role_is = role;
  }

  module _ (xs : List Extern) where
    abbrev more : List Id
    more = names_of (b.exports ++ xs) ++ named

    more_cases : (id : Id) → is_among more id ≡ true → (is_among around id ≡ true) ⊎ (is_among (names_of xs) id ≡ true)
    more_cases id a =
        let N = names_of b.exports in
        elim (among_cases (names_of (b.exports ++ xs)) named id a) [
          | inl x ↦ elim (among_cases N (names_of xs) id (subst (λ ids. is_among ids id ≡ true) (names_append b.exports xs) x)) [
            | inl y ↦ inl (sub_left N named id y)
            | inr y ↦ inr y
          ]
          | inr x ↦ inl (sub_right N named id x)
        ]

    -- what is kept of exports, at the same place or the next
    role_after : (next : Id) → Moves place next → Names place (around ++ names_in table) (more ++ names_in table) → (new : Role) → (c : Body)
        → c.imports ≡ b.imports → c.exports ≡ b.exports ++ xs → id_at (c.own ∷ outer) ≡ next → IsRoleExported table outer named asks new b xs
        → IsRoleExactly table outer named asks new c
    role_after next m n (Naming s) c i e at w = (
      w.0,
      (
        subst (λ ys. IsExposure table s.imported (names_of ys)) (sym i) w.1.0,
        subst (λ ys. IsExposure table s.exported (names_of ys ++ names_of c.exports)) (sym i)
            (subst (λ ys. IsExposure table s.exported (names_of b.imports ++ names_of ys)) (sym e) w.1.1),
      ),
    )
    role_after next m n (Exporting x) c i e at w = (
      w.0,
      subst (λ ys. AreExportsExactly table (id_at (c.own ∷ outer)) (id_at outer) ((names_of ys ++ named) ++ names_in table) x ys) (sym e)
          (subst (λ p. AreExportsExactly table p (id_at outer) (more ++ names_in table) x (b.exports ++ xs)) (sym at)
          (exports_move table table place next (id_at outer) (around ++ names_in table) (more ++ names_in table) m n (grown_same place table) x
          (b.exports ++ xs) w.1)),
    )

  module _ (new : Known) (role : Role) (to : ComponentTypeRef) (outers : new.scopes.outer.items ≡ k.scopes.outer.items)
      (instances : new.instances.items ≡ k.instances.items)
      (types : new.scopes.own.types.items ≡ k.scopes.own.types.items ++ exported_of k.scopes.own.types.items (length k.scopes.outer.items) to)
      (exports : IsRoleExported table outer named asks role b (externs_at b.own outer to)) where
    abbrev xs : List Extern
    xs = externs_at b.own outer to

    abbrev fs : List Facts
    fs = exported_facts b.own outer to

    abbrev kept : List (List KeptFacts)
    kept = reverse (map (λ (s : Scope). s.types.items) k.scopes.outer.items)

    -- no type is added
    export_none : fs ≡ [] → exported_of k.scopes.own.types.items (length k.scopes.outer.items) to ≡ [] → Sub (names_of xs) (names_in table)
        → IsKeptBody asks new role (after_export outer b to) outer named table
    export_none none nothing table_names =
        let names : Names place (around ++ names_in table) (more xs ++ names_in table) = λ id a before.
        elim (among_cases (more xs) (names_in table) id a) [
          | inl x ↦ elim (more_cases xs id x)
              [ inl y ↦ sub_left around (names_in table) id y | inr y ↦ sub_right around (names_in table) id (table_names id y) ]
          | inr x ↦ sub_right around (names_in table) id x
        ] in
        let known = known_named k.scopes.own.types.items kept k.instances.items b.own outer around table h.known (more xs) names
        (λ id a. elim (more_cases xs id a)
        [ inl y ↦ h.known.named_before id y | inr y ↦ closed_before place id (h.known.added.closed id (table_names id y)) ]) in
        let same : b.own.types ++ fs ≡ b.own.types = ap (λ gs. b.own.types ++ gs) none ∙ append-nil b.own.types in
        let own : new.scopes.own.types.items ≡ k.scopes.own.types.items = types ∙
        (ap (λ ks. k.scopes.own.types.items ++ ks) nothing ∙ append-nil k.scopes.own.types.items) in
        let at : id_at (with_types b.own fs ∷ outer) ≡ place = ap (λ ts. length ts ∷ id_at outer) same in
        record {
          known = subst (λ ts. AreKnown (types_in new) new.instances.items (record { types = ts; core_types = b.own.core_types } ∷ outer) (more xs) table)
              (sym same) (known_as k new k.scopes.own.types.items k.instances.items (b.own ∷ outer) (more xs) table own outers instances known);
          depth_is = h.depth_is ∙ ap (λ (os : List Scope). length os) (sym outers);
          exports_are = λ id a.
              elim (among_cases (names_of b.exports) (names_of xs) id (subst (λ ids. is_among ids id ≡ true) (names_append b.exports xs) a)) [
                | inl y ↦ elim (h.exports_are id y) [ inl z ↦ inl z | inr z ↦ inr (subst (λ p. IsOpen p id) (sym at) z.0, z.1) ]
                | inr y ↦ inl (table_names id y)
              ];
          imports_are = h.imports_are;
          role_is = role_after xs place (moves_same place) names role (after_export outer b to) refl refl at exports;
        }

    -- a type that is equal to that one is
    export_one : (g : KeptFacts) (f : Facts) → IsKeptExactly table place (around ++ names_in table) g f → fs ≡ equal_facts place f ∷ []
        → exported_of k.scopes.own.types.items (length k.scopes.outer.items) to ≡ named_facts g (length k.scopes.outer.items) ∷ [] → names_of xs ≡ place ∷ []
        → IsKeptBody asks new role (after_export outer b to) outer named table
    export_one g f is one added named_is =
        let count = length b.own.types in
        let m = moves_next count (id_at outer) in
        let next = next_at b.own outer in
        let open_here = added_open count (id_at outer) in
        let at_place : (id : Id) → is_among (names_of xs) id ≡ true → place ≡ id =
        λ id a. among_one place id (subst (λ ids. is_among ids id ≡ true) named_is a) in
        let names : Names place (around ++ names_in table) (more xs ++ names_in table) = λ id a before.
        elim (among_cases (more xs) (names_in table) id a) [
          | inl x ↦ elim (more_cases xs id x) [
            | inl y ↦ sub_left around (names_in table) id y
            | inr y ↦ absurd (not_under 0 place id before (subst (λ p. IsUnder p place) (at_place id y) (under_same place)))
          ]
          | inr x ↦ sub_right around (names_in table) id x
        ] in
        let depth = sym h.depth_is ∙ sym (scope_long (λ (s : FactScope). length s.types) outer) in
        let moved = kept_moves place next (around ++ names_in table) (more xs ++ names_in table) table table m names (grown_same place table) g f is in
        let equal = equal_exact table count (id_at outer) (around ++ names_in table) (more xs ++ names_in table) names (length k.scopes.outer.items) depth g f
        moved in
        let known = known_push k.scopes.own.types.items kept k.instances.items b.own outer around table h.known k.instances.items (more xs) table
        (named_facts g (length k.scopes.outer.items)) (equal_facts place f) (grown_same place table) h.known.instances_are
        (added_moves place next table m h.known.added) h.known.long names
        (λ id a. elim (more_cases xs id a) [
          | inl y ↦ m.before 0 id (h.known.named_before id y)
          | inr y ↦ subst (λ p. IsBefore 0 next p) (at_place id y) (open_before 0 next place open_here (omega arith))
        ]) equal in
        let same : b.own.types ++ fs ≡ b.own.types ++ equal_facts place f ∷ [] = ap (λ gs. b.own.types ++ gs) one in
        let own : new.scopes.own.types.items ≡ k.scopes.own.types.items ++ named_facts g (length k.scopes.outer.items) ∷ [] = types ∙ ap
        (λ ks. k.scopes.own.types.items ++ ks) added in
        let at : id_at (with_types b.own fs ∷ outer) ≡ next =
        ap (λ ts. length ts ∷ id_at outer) same ∙ next_is b.own outer (equal_facts place f) in
        record {
          known = subst (λ ts. AreKnown (types_in new) new.instances.items (record { types = ts; core_types = b.own.core_types } ∷ outer) (more xs) table)
              (sym same) (known_as k new (k.scopes.own.types.items ++ named_facts g (length k.scopes.outer.items) ∷ []) k.instances.items
              (with_types b.own (equal_facts place f ∷ []) ∷ outer) (more xs) table own outers instances known);
          depth_is = h.depth_is ∙ ap (λ (os : List Scope). length os) (sym outers);
          exports_are = λ id a.
              elim (among_cases (names_of b.exports) (names_of xs) id (subst (λ ids. is_among ids id ≡ true) (names_append b.exports xs) a)) [
                | inl y ↦ elim (h.exports_are id y)
                    [ inl z ↦ inl z | inr z ↦ inr (subst (λ p. IsOpen p id) (sym at) (m.open_still id z.0), z.1) ]
                | inr y ↦ inr (
                  subst (λ p. IsOpen p id) (sym at) (subst (λ q. IsOpen next q) (at_place id y) open_here),
                  (let l = scope_long (λ (s : FactScope). length s.types) outer in
                      let e : length place ≡ length id = ap (λ (q : Id). length q) (at_place id y) in
                      omega (arith, l, e)),
                )
              ];
          imports_are = h.imports_are;
          role_is = role_after xs next m names role (after_export outer b to) refl refl at exports;
        }

  pub export_exactly : (new : Known) (role : Role) (r : ComponentTypeRef) → new.scopes.outer.items ≡ k.scopes.outer.items
      → new.instances.items ≡ k.instances.items
      → new.scopes.own.types.items ≡ k.scopes.own.types.items ++ exported_of k.scopes.own.types.items (length k.scopes.outer.items) r
      → IsRoleExported table outer named asks role b (externs_at b.own outer r)
      → IsKeptBody asks new role (after_export outer b r) outer named table
  export_exactly new role (to.Module i) o n t e = export_none new role (to.Module i) o n t e refl refl
      (other_names table (around ++ names_in table) b.own outer k.scopes.own.types.items h.known.types_are.0 (to.Module i) refl)
  export_exactly new role (to.Func i) o n t e = export_none new role (to.Func i) o n t e refl refl
      (other_names table (around ++ names_in table) b.own outer k.scopes.own.types.items h.known.types_are.0 (to.Func i) refl)
  export_exactly new role (to.Component i) o n t e = export_none new role (to.Component i) o n t e refl refl
      (other_names table (around ++ names_in table) b.own outer k.scopes.own.types.items h.known.types_are.0 (to.Component i) refl)
  export_exactly new role (to.Instance i) o n t e = export_none new role (to.Instance i) o n t e refl refl
      (other_names table (around ++ names_in table) b.own outer k.scopes.own.types.items h.known.types_are.0 (to.Instance i) refl)
  export_exactly new role (to.TypeEq i) o n t e = by_kept (slice_get k.scopes.own.types.items i) refl
    where
      depth : ℕ
      depth = length k.scopes.outer.items

      R : KeptFacts → Facts → Type 0
      R g f = IsKeptExactly table place (around ++ names_in table) g f

      by_kept : (x : Option KeptFacts) → x ≡ slice_get k.scopes.own.types.items i
          → IsKeptBody asks new role (after_export outer b (to.TypeEq i)) outer named table
      by_kept None s =
          let none = none_beside R k.scopes.own.types.items b.own.types i h.known.types_are.0 s in
          export_none new role (to.TypeEq i) o n t e (ap (λ y. map (equal_facts place) (option_to_list y)) none)
          (ap (λ y. map (λ g. named_facts g depth) (option_to_list y)) (sym s))
          (subst (λ y. Sub (names_of (map (equal_extern place) (option_to_list y))) (names_in table)) (sym none)
          (λ id a. absurd (let z : false ≡ true = a in cc)))
      by_kept (Some g) s =
          let at = beside R k.scopes.own.types.items b.own.types i g h.known.types_are.0 s in
          export_one new role (to.TypeEq i) o n t e g at.item at.is (ap (λ y. map (equal_facts place) (option_to_list y)) at.at)
          (ap (λ y. map (λ f. named_facts f depth) (option_to_list y)) (sym s))
          (ap (λ y. names_of (map (equal_extern place) (option_to_list y))) at.at)
