-- What is filled: nothing if nothing is missing, and all that is missing if it can be.
use Rattle.std.proofs.Common.{◌≡◌, ℕ, ◌+◌, ◌-◌, ◌*◌, ◌<◌, ◌≤◌, true, List, fold, length, arith, sym, ap, ◌∙◌, subst, inl, inr}
use Rattle.std.specs.List.{AllByRecursion}
use Rattle.smith_format.specs.Consistency.{IsConsistent}
use Rattle.smith_format.specs.declared.config.Config.{Config}
use Rattle.smith_syntax.specs.Entries.{Entry, ImportEntry}
use Rattle.smith_syntax.specs.Marked.{Marked}
use Rattle.smith_syntax.specs.Marks.{room_size, small_size}
use Rattle.smith_tree.proofs.Marking.{marked_add}
use Rattle.smith_tree.specs.Marking.{marked_in, marked_inner, with_type_entry}
use Rattle.smith_tree.specs.Offers.{scalar_functions}
use Rattle.smith_component.specs.Fills.{count_of, minimum_of, Fills, Lacks, of_imports, of_functions}
use Rattle.smith_component.specs.Filling.{CanFill, missing_imports}
use Rattle.smith_tree.specs.Open.{Open, with_inner}
use Rattle.smith_component.specs.Tables.{IsGrounded}
use Rattle.smith_tree.specs.Spaces.{spaces_of, types_of}
use Rattle.smith_tree.specs.Tree.{Tree, types, imports, add, imports_of, imports_in, function_count}
use Rattle.smith_component.specs.declared.item.Counted.{Counted}
use Rattle.smith_component.specs.declared.item.Counted.TheVariants as counted
use Rattle.smith_component.proofs.CanonsEnough.{canons_enough}
use Rattle.smith_component.proofs.ReadsImports.{imports_enough}
use Rattle.smith_component.proofs.ImportsRoom.{importable, types_cores, types_importable, types_size}
use Rattle.smith_component.proofs.MarkedKept.{SmallCores, marked_kept, marked_small}
use Rattle.smith_component.proofs.Sound.{own_limits_of}
use Rattle.smith_component.specs.Sound.{Sound}
use Rattle.smith_component.proofs.Tree.{function_count-add, length-own-add}

-- if there are enough, nothing is filled
fill_none : (what : Counted) (config : Config) (stack : Open) (b : List ℕ) (t : Tree) (rest : List ℕ) → minimum_of what config ≤ count_of what stack.inner
    → Fills what config stack b t rest → (t ≡ stack.inner) × (rest ≡ b)
fill_none what config stack b t rest few (inl (h, e, l)) = (e, l)
fill_none what config stack b t rest few (inr (lacks, a)) = absurd (omega (arith, few, lacks))

module _ (config : Config) where
  -- types and imports, if neither is missing
  neither : (stack : Open) (b : List ℕ) (typed : Tree) (mid : List ℕ) (imported : Tree) (low : List ℕ) → config.min_types ≤ length (types_of stack.inner)
      → config.min_imports ≤ length (imports_of stack.inner)
      → Fills counted.Types config stack b typed mid → Fills counted.Imports config (with_inner stack typed) mid imported low
      → (imported ≡ stack.inner) × (low ≡ b)
  neither stack b typed mid imported low few_types few_imports ts is = grind (arith, fill_none)

-- Types that are filled add no import and no function, and what could be imported still can.
record IsTyped (config : Config) (outer : List Tree) (old new : Tree) : Type 0 where
  imports : length (imports_of new) ≡ length (imports_of old)
  functions : function_count new ≡ function_count old
  types : importable (marked_inner config outer old) ≤ importable (marked_inner config outer new)
  size : (marked_inner config outer new).size ≡ (marked_inner config outer old).size
  cores : (marked_inner config outer new).core_sizes ≡ (marked_inner config outer old).core_sizes

-- Imports that are filled add only functions.
record IsImported (old new : Tree) : Type 0 where
  imports : length (imports_of old) ≤ length (imports_of new)
  functions : function_count old ≤ function_count new

with_types : (config : Config) (outer : List Tree) (old new : Tree) (xs : List Entry) → new ≡ add old (types xs) → IsTyped config outer old new
with_types config outer old new xs e =
    let around : List Marked = marked_in config outer in
    let own : Marked = marked_inner config outer old in
    let then_are : marked_inner config outer new ≡ fold (with_type_entry around) own xs =
    ap (λ t. marked_inner config outer t) e ∙ marked_add config around old (types xs) in
    record {
      imports = omega (arith, ap (λ t. length (imports_of t)) e, length-own-add imports_in old (types xs));
      functions = omega (arith, ap (λ t. function_count t) e, function_count-add old (types xs));
      types = omega (arith, types_importable around xs own (marked_kept config around old), ap importable then_are);
      size = ap (λ (m : Marked). m.size) then_are ∙ types_size around xs own;
      cores = ap (λ (m : Marked). m.core_sizes) then_are ∙ types_cores around xs own;
    }

with_imports : (old new : Tree) (is : List ImportEntry) → new ≡ add old (imports is) → IsImported old new
with_imports old new is e = record {
  imports = omega (arith, ap (λ t. length (imports_of t)) e, length-own-add imports_in old (imports is));
  functions = omega (arith, ap (λ t. function_count t) e, function_count-add old (imports is));
}

module _ (config : Config) where
  typed_is : (stack : Open) (b : List ℕ) (typed : Tree) (mid : List ℕ) → Fills counted.Types config stack b typed mid
      → IsTyped config stack.outer stack.inner typed
  typed_is stack b typed mid (inl (few, e, l)) = record {
    imports = ap (λ t. length (imports_of t)) e;
    functions = ap (λ t. function_count t) e;
    types = omega (arith, ap (λ t. importable (marked_inner config stack.outer t)) e);
    size = ap (λ t. (marked_inner config stack.outer t).size) e;
    cores = ap (λ t. (marked_inner config stack.outer t).core_sizes) e;
  }
  typed_is stack b typed mid (inr (lacks, (xs, scope, reads, e))) = with_types config stack.outer stack.inner typed xs e

  imported_is : (stack : Open) (b : List ℕ) (imported : Tree) (low : List ℕ) → Fills counted.Imports config stack b imported low
      → IsImported stack.inner imported
  imported_is stack b imported low (inl (few, e, l)) = record
      { imports = omega (arith, ap (λ t. length (imports_of t)) e); functions = omega (arith, ap (λ t. function_count t) e) }
  imported_is stack b imported low (inr (lacks, (is, reads, e))) = with_imports stack.inner imported is e

  -- If there are enough imports, none is missing.
  enough_imports : (stack : Open) (b : List ℕ) (typed : Tree) (mid : List ℕ) (imported : Tree) (low : List ℕ)
      → config.min_imports ≤ length (imports_of stack.inner)
      → Fills counted.Types config stack b typed mid → Fills counted.Imports config (with_inner stack typed) mid imported low
      → length (imports_of imported) < config.min_imports → ⊥
  enough_imports stack b typed mid imported low few ts is less =
      let t = typed_is stack b typed mid ts in
      let i = imported_is (with_inner stack typed) mid imported low is in
      omega (arith, few, less, t.imports, i.imports)

  -- Nor do functions.
  enough_functions : (stack : Open) (b : List ℕ) (typed : Tree) (mid : List ℕ) (imported : Tree) (low : List ℕ) (full : Tree) (rest : List ℕ)
      → config.min_funcs ≤ function_count stack.inner
      → Fills counted.Types config stack b typed mid → Fills counted.Imports config (with_inner stack typed) mid imported low
      → Fills counted.Functions config (with_inner stack imported) low full rest → function_count full < config.min_funcs → ⊥
  enough_functions stack b typed mid imported low full rest few ts is fs less =
      let t = typed_is stack b typed mid ts in
      let i = imported_is (with_inner stack typed) mid imported low is in
      let enough : config.min_funcs ≤ function_count imported = omega (arith, few, t.functions, i.functions) in
      let same = fill_none counted.Functions config (with_inner stack imported) low full rest enough fs in
      omega (arith, enough, less, ap (λ t. function_count t) same.0)

filled_imports : (config : Config) (stack : Open) (b : List ℕ) (imported : Tree) (low : List ℕ) → IsConsistent config
    → 0 < importable (marked_inner config stack.outer stack.inner)
    → function_count stack.inner + missing_imports config stack.inner ≤ config.max_funcs → SmallCores (marked_inner config stack.outer stack.inner)
    → (config.must_validate ≡ true
    → (marked_inner config stack.outer stack.inner).size + missing_imports config stack.inner * small_size ≤ room_size + small_size)
    → Fills counted.Imports config stack b imported low → length (imports_of imported) < config.min_imports → ⊥
filled_imports config stack b imported low consistent some room small lasting (inl (few, e, l)) less =
    omega (arith, few, less, ap (λ t. length (imports_of t)) e)
filled_imports config stack b imported low consistent some room small lasting (inr (lacks, (is, reads, e))) less =
    let enough = imports_enough config stack some room small lasting (omega (arith, consistent.imports_cross)) reads in
    omega (arith, enough, less, ap (λ t. length (imports_of t)) e, length-own-add imports_in stack.inner (imports is))

filled_functions : (config : Config) (stack : Open) (b : List ℕ) (full : Tree) (rest : List ℕ) → IsConsistent config → IsGrounded stack.inner
    → 0 < length (scalar_functions (spaces_of stack.inner))
    → length (types_of stack.inner) + (config.min_funcs - function_count stack.inner) ≤ config.max_types → Fills counted.Functions config stack b full rest
    → function_count full < config.min_funcs → ⊥
filled_functions config stack b full rest consistent grounded some room (inl (few, e, l)) less = omega (arith, few, less, ap (λ t. function_count t) e)
filled_functions config stack b full rest consistent grounded some room (inr (lacks, (turns, next, reads, e))) less = grind (arith, canons_enough)

-- Nothing is missing if it can be filled.
pub filled_surely : (config : Config) (stack : Open) (b rest : List ℕ) → Sound config stack → IsGrounded stack.inner
    → CanFill config stack.outer stack.inner → Lacks config stack b rest → ⊥
filled_surely config stack b rest sound grounded (inl enough) (of_imports {typed} {imported} {mid} ts is less) =
    enough_imports config stack b typed mid imported rest enough.imports ts is less
filled_surely config stack b rest sound grounded (inl enough) (of_functions {typed} {imported} {full} {mid} {low} ts is some fs less) =
    enough_functions config stack b typed mid imported low full rest enough.functions ts is fs less
filled_surely config stack b rest sound grounded (inr (inl can)) (of_imports {typed} {imported} {mid} ts is less) =
    let t = typed_is config stack b typed mid ts in
    let same : missing_imports config typed ≡ missing_imports config stack.inner = ap (λ n. config.min_imports - n) t.imports in
    let small = marked_small config (marked_in config stack.outer) stack.inner (own_limits_of config stack sound).within_core_types in
    filled_imports config (with_inner stack typed) mid imported rest sound.consistent (omega (arith, can.has_type, t.types))
    (omega (arith, can.room, t.functions, t.imports)) (subst (AllByRecursion (λ n. n ≤ small_size)) (sym t.cores) small)
    (λ on. omega (arith, can.lasting on, t.size, same)) is less
filled_surely config stack b rest sound grounded (inr (inl can)) (of_functions {typed} {imported} {full} {mid} {low} ts is some fs less) =
    enough_functions config stack b typed mid imported low full rest can.functions ts is fs less
filled_surely config stack b rest sound grounded (inr (inr can)) (of_imports {typed} {imported} {mid} ts is less) =
    enough_imports config stack b typed mid imported rest can.imports ts is less
filled_surely config stack b rest sound grounded (inr (inr can)) (of_functions {typed} {imported} {full} {mid} {low} ts is some fs less) =
    let e = neither config stack b typed mid imported low can.types can.imports ts is in
    let P : Tree → Type 0 = λ u. Fills counted.Functions config (with_inner stack u) low full rest in
    filled_functions config stack low full rest sound.consistent grounded can.has_scalar can.room (subst P e.0 fs) less
