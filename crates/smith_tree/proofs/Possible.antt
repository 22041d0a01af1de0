-- A component that is well formed is possible.
use Rattle.std.proofs.Common.{◌≡◌, ℕ, Bool, true, false, ◌&&◌, ◌||◌, not, List, [], ◌∷◌, ◌++◌, map, Option, Some, None, refl, sym, ap, ◌∙◌, subst}
use Rattle.std.proofs.Common.{fold, append-nil, length, arith}
use Rattle.std.proofs.lemmas.List.Folds.{list_any-append}
use Rattle.std.specs.List.{AllByRecursion, list_all, list_any}
use Rattle.std.specs.Option.{is_some, option_to_list}
use Rattle.std.specs.Prelude.{slice_get}
use Rattle.smith_format.specs.declared.types.ValType.{ValType}
use Rattle.smith_syntax.specs.Entries.{Entry, Field, ImportEntry, Signature}
use Rattle.smith_syntax.specs.Flat.{Flat, Flattens, flat_primitive, flat_value, is_scalar, is_scalar_result}
use Rattle.smith_syntax.specs.Scope.{Scope}
use Rattle.smith_syntax.specs.declared.types.ComponentValType.{ComponentValType}
use Rattle.smith_syntax.specs.declared.types.ComponentValType.TheVariants.{Indexed, Primitive}
use Rattle.smith_syntax.proofs.Possible.{adds_none, cores_possible, named_possible, own_same, types_possible}
use Rattle.smith_tree.specs.Possible.{NeedsMemory, Possible, PossibleCanon, PossibleCanons, PossibleImports, PossiblePart, PossibleParts, SameFlat}
use Rattle.smith_tree.specs.Possible.{after_possible_import, after_possible_part, needs_memory, scope_in, values_of}
use Rattle.smith_tree.specs.Spaces.{Spaces, after_canon, after_import, after_part, spaces_of}
use Rattle.smith_tree.specs.Tree.{Canon, Part, Tree, add, canons, component, core_module, core_types, custom, ends, exports, exports_of, first}
use Rattle.smith_tree.specs.Tree.{imports, imports_of}
use Rattle.smith_tree.specs.Tree.{lift, lower, types}
use Rattle.smith_tree.specs.WellFormed.{Formed, FormedCanon, FormedCanons, FormedImport, FormedPart, WellFormed, export_names, import_names, scope_of}
use Rattle.smith_tree.proofs.Components.{spaces_added}

-- ---- canonical functions

both : (a b : Bool) → (a && b) ≡ true → (a ≡ true) × (b ≡ true)
both true b e = (refl, e)
both false b e = absurd (let z : false ≡ true = e in cc)

neither : (a b : Bool) → a ≡ false → b ≡ false → (a || b) ≡ false
neither true b e f = e
neither false b e f = f

module _ (around : List Entry) where
  scalar_passes : (v : ComponentValType) → is_some (flat_value v) ≡ true → needs_memory around v ≡ false
  scalar_passes (Primitive p) e = ap not e
  scalar_passes (Indexed i) e = absurd (let z : false ≡ true = e in cc)

  params_pass : (ps : List Field) → list_all (λ p. is_some (flat_value p.1)) ps ≡ true → list_any (needs_memory around) (map (λ p. p.1) ps) ≡ false
  params_pass [] e = refl
  params_pass (p ∷ ps) e =
      let h = both (is_some (flat_value p.1)) (list_all (λ q. is_some (flat_value q.1)) ps) e in
      neither (needs_memory around p.1) (list_any (needs_memory around) (map (λ q. q.1) ps)) (scalar_passes p.1 h.0) (params_pass ps h.1)

  result_passes : (r : Option ComponentValType) → is_scalar_result r ≡ true → list_any (needs_memory around) (option_to_list r) ≡ false
  result_passes None e = refl
  result_passes (Some v) e = neither (needs_memory around v) false (scalar_passes v e) refl

  -- what is scalar passes nothing by memory
  pub scalars_pass : (s : Signature) → is_scalar s ≡ true → ¬ NeedsMemory around s
  scalars_pass s e n =
      let h = both (list_all (λ p. is_some (flat_value p.1)) s.params) (is_scalar_result s.result) e in
      let none : list_any (needs_memory around) (values_of s) ≡ false =
      list_any-append (needs_memory around) (map (λ p. p.1) s.params) (option_to_list s.result)
      ∙ neither (list_any (needs_memory around) (map (λ p. p.1) s.params)) (list_any (needs_memory around) (option_to_list s.result))
      (params_pass s.params h.0) (result_passes s.result h.1) in
      let z : false ≡ true = sym none ∙ n in absurd cc

pub all_some : (ps : List Field) (vs : List ValType) → map (λ p. flat_value p.1) ps ≡ map Some vs → list_all (λ p. is_some (flat_value p.1)) ps ≡ true
all_some [] vs e = refl
all_some (p ∷ ps) [] e = absurd (let z : flat_value p.1 ∷ map (λ q. flat_value q.1) ps ≡ [] = e in cc)
all_some (p ∷ ps) (v ∷ vs) e =
    let first : flat_value p.1 ≡ Some v = ap (λ xs. elim xs [ [] ↦ None | x ∷ ys ↦ x ]) e in
    let rest : map (λ q. flat_value q.1) ps ≡ map Some vs = ap (λ xs. elim xs [ [] ↦ [] | x ∷ ys ↦ ys ]) e in
    rw first (all_some ps vs rest)

result_some : (r : Option ComponentValType) (v : ValType) → map flat_value (option_to_list r) ≡ Some v ∷ [] → is_scalar_result r ≡ true
result_some None v e = absurd (let z : [] ≡ Some v ∷ [] = e in cc)
result_some (Some w) v e = let first : flat_value w ≡ Some v = ap (λ xs. elim xs [ [] ↦ None | x ∷ ys ↦ x ]) e in rw first refl

pub one_result : (r : Option ComponentValType) (vs : List ValType) → map flat_value (option_to_list r) ≡ map Some vs → length vs ≡ 1 → is_scalar_result r ≡ true
one_result r [] e o = absurd (let z : 0 ≡ 1 = o in cc)
one_result r (v ∷ []) e o = result_some r v e
one_result r (v ∷ w ∷ vs) e o = absurd (omega (arith, o))

pub flattens_scalar : (s : Signature) (f : List ValType × List ValType) → Flattens s f → is_scalar s ≡ true
flattens_scalar s f h = rw (all_some s.params f.0 h.params) (one_result s.result f.1 h.result h.one)

pub flat_same : (s t : Signature) → Flat s t → SameFlat s t
flat_same s t f = record { params = f.1.params ∙ sym f.2.params; result = f.1.result ∙ sym f.2.result }

pub canon_possible : (s : Spaces) (c : Canon) → FormedCanon s c → PossibleCanon s c
canon_possible s (lower f) h = (h.0, h.1, scalars_pass s.types h.0 h.2)
canon_possible s (lift c t) h =
    let flat = h.6 in
    (h.0, h.1, h.2, h.3, h.4, h.5, scalars_pass s.types h.0 (flattens_scalar h.0 flat.0 flat.1), λ a b. flat_same h.0 h.1 flat)

canons_possible : (cs : List Canon) (s : Spaces) → FormedCanons cs s → PossibleCanons cs s
canons_possible [] s f = tt
canons_possible (c ∷ cs) s f = (canon_possible s c f.0, canons_possible cs (after_canon s c) f.1)

-- ---- imports

-- An import that is well formed adds no type.
pub import_same : (s : Spaces) (i : ImportEntry) → FormedImport (scope_in s) i → after_possible_import s i ≡ after_import s i
import_same s i f =
    ap (λ t. record (after_import s i) { types = s.types ++ option_to_list t }) (adds_none (scope_in s) i.to f.1)
    ∙ ap (λ ts. record (after_import s i) { types = ts }) (append-nil s.types)

imports_possible : (is : List ImportEntry) (s : Spaces) → AllByRecursion (FormedImport (scope_in s)) is → PossibleImports is s
imports_possible [] s f = tt
imports_possible (i ∷ is) s f =
    (f.0.0, subst (PossibleImports is) (sym (import_same s i f.0)) (imports_possible is (after_import s i) f.1))

pub imports_same : (is : List ImportEntry) (s : Spaces) → AllByRecursion (FormedImport (scope_in s)) is
    → fold after_possible_import s is ≡ fold after_import s is
imports_same [] s f = refl
imports_same (i ∷ is) s f = ap (λ z. fold after_possible_import z is) (import_same s i f.0) ∙ imports_same is (after_import s i) f.1

-- ---- parts

-- what there is after a part that is well formed
pub part_same : (p : Part) (outer : List Scope) (before : Tree) → FormedPart p outer before
    → after_possible_part (spaces_of before) p ≡ after_part (spaces_of before) p
part_same (imports is) outer before f = imports_same is (spaces_of before) f.0
part_same (custom name contents) outer before f = refl
part_same (core_module text) outer before f = refl
part_same (core_types ts) outer before f = refl
part_same (component t) outer before f = refl
part_same (types ts) outer before f = refl
part_same (canons fs) outer before f = refl
part_same (exports es) outer before f = refl

mutual
  parts_possible : (t : Tree) (outer : List Scope) (before : Tree) → Formed t outer before → PossibleParts t outer (spaces_of before) before
  parts_possible ends outer before f = tt
  parts_possible (first p t) outer before f = (
    part_possible p outer before f.0,
    subst (λ s. PossibleParts t outer s (add before p)) (spaces_added before p ∙ sym (part_same p outer before f.0))
        (parts_possible t outer (add before p) f.1),
  )

  part_possible : (p : Part) (outer : List Scope) (before : Tree) → FormedPart p outer before → PossiblePart p outer (spaces_of before) before
  part_possible (custom name contents) outer before f = tt
  part_possible (core_module text) outer before f = tt
  part_possible (core_types ts) outer before f = cores_possible ts (scope_of before) (length outer) f
  part_possible (component t) outer before f = parts_possible t (scope_of before ∷ outer) ends f
  part_possible (types ts) outer before f = types_possible ts (scope_of before) outer f
  part_possible (canons fs) outer before f = canons_possible fs (spaces_of before) f
  part_possible (imports is) outer before f =
      (imports_possible is (spaces_of before) f.0, named_possible true (import_names (imports_of before ++ is)) f.1)
  part_possible (exports es) outer before f = (f.0, named_possible true (export_names (exports_of before ++ es)) f.1)

pub formed_possible : (t : Tree) → WellFormed t → Possible t
formed_possible t f = parts_possible t [] ends f
