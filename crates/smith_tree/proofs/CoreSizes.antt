-- How large core types within the limits are.
use Rattle.std.proofs.Common.{ℕ, zero, suc, ◌*◌, ◌≤◌, Bool, true, false, if◌then◌else◌, List, [], ◌∷◌, ◌++◌, length, map, sum, arith}
use Rattle.std.proofs.Common.{Some, slice_get, option_to_list}
use Rattle.std.specs.List.{AllByRecursion}
use Rattle.smith_format.specs.CoreFormed.{FormedFunction}
use Rattle.smith_format.specs.CoreTypes.{Function}
use Rattle.smith_format.specs.Limits.{configured, max_results}
use Rattle.smith_format.specs.declared.config.Config.{Config}
use Rattle.smith_format.specs.declared.types.EntityType.{EntityType}
use Rattle.smith_format.specs.declared.types.EntityType.TheVariants.{Func, Table, Memory, Global, Tag}
use Rattle.smith_input.proofs.Lists.{all_back, all_both, all_front}
use Rattle.smith_syntax.specs.CoreLimits.{CoreLimits}
use Rattle.smith_syntax.specs.Entries.{CoreEntry, ModuleDecl, aliases, core_func, core_module, declares, exports, imports}
use Rattle.smith_syntax.specs.ModuleTypes.{adds, aliased, declared_in, entities_in, func_in, func_of}
use Rattle.smith_syntax.specs.Sizes.{entity_size, function_size, function_size_at, module_size}
use Rattle.smith_core.proofs.StandInMade.{few_results}

abbrev pub IsSmallFunction : Function → Type 0
IsSmallFunction f = function_size f ≤ 42

small_function : (config : Config) (f : Function) → FormedFunction (configured config) (max_results config) f → IsSmallFunction f
small_function config f h = omega (arith, h.few_params, h.few_results, few_results config.multi_value_enabled)

pub small_functions : (config : Config) (fs : List Function) → AllByRecursion (FormedFunction (configured config) (max_results config)) fs
    → AllByRecursion IsSmallFunction fs
small_functions config [] h = tt
small_functions config (f ∷ fs) h = (small_function config f h.0, small_functions config fs h.1)

-- Own types, and what they are imported and exported as.

small_at : (own : List Function) (i : ℕ) → AllByRecursion IsSmallFunction own → function_size_at own i ≤ 42
small_at [] i h = omega arith
small_at (f ∷ fs) zero h = h.0
small_at (f ∷ fs) (suc i) h = small_at fs i h.1

small_entity : (own : List Function) (e : EntityType) → AllByRecursion IsSmallFunction own → entity_size own e ≤ 42
small_entity own (Func i) h = small_at own i h
small_entity own (Table t) h = omega arith
small_entity own (Memory m) h = omega arith
small_entity own (Global g) h = omega arith
small_entity own (Tag t) h = small_at own t.func_type_idx h

small_decl : (own : List Function) (d : ModuleDecl) → AllByRecursion IsSmallFunction own → sum (map (entity_size own) (entities_in d)) ≤ 42
small_decl own (declares f) h = omega arith
small_decl own (imports m n e) h = let small = small_entity own e h in omega arith
small_decl own (aliases count i) h = omega arith
small_decl own (exports n e) h = let small = small_entity own e h in omega arith

-- What outer aliases name: own types, and core types around.

module _ (config : Config) where
  some_small : (e : CoreEntry) → CoreLimits config e → AllByRecursion IsSmallFunction (option_to_list (func_in (Some e)))
  some_small (core_func f) h = (small_function config f h, tt)
  some_small (core_module ds) h = tt

  around_small : (around : List CoreEntry) (i : ℕ) → AllByRecursion (CoreLimits config) around
      → AllByRecursion IsSmallFunction (option_to_list (func_in (slice_get around i)))
  around_small [] i h = tt
  around_small (e ∷ es) zero h = some_small e h.0
  around_small (e ∷ es) (suc i) h = around_small es i h.1

  own_small : (own : List Function) (i : ℕ) → AllByRecursion IsSmallFunction own → AllByRecursion IsSmallFunction (option_to_list (slice_get own i))
  own_small [] i h = tt
  own_small (f ∷ fs) zero h = (h.0, tt)
  own_small (f ∷ fs) (suc i) h = own_small fs i h.1

  alias_small : (around : List CoreEntry) (own : List Function) (count i : ℕ) → AllByRecursion (CoreLimits config) around
      → AllByRecursion IsSmallFunction own → AllByRecursion IsSmallFunction (option_to_list (aliased around own count i))
  alias_small around own zero i k h = own_small own i h
  alias_small around own (suc zero) i k h = around_small around i k
  alias_small around own (suc (suc n)) i k h = tt

  adds_small : (around : List CoreEntry) (own : List Function) (d : ModuleDecl) → AllByRecursion (CoreLimits config) around
      → AllByRecursion IsSmallFunction own → AllByRecursion IsSmallFunction (func_of d) → AllByRecursion IsSmallFunction (adds around own d)
  adds_small around own (declares f) k h small = (small.0, tt)
  adds_small around own (imports m n e) k h small = tt
  adds_small around own (aliases count i) k h small = grind (arith, all_both, alias_small)
  adds_small around own (exports n e) k h small = tt

  pub small_module : (around : List CoreEntry) (own : List Function) (ds : List ModuleDecl) → AllByRecursion (CoreLimits config) around
      → AllByRecursion IsSmallFunction own → AllByRecursion IsSmallFunction (declared_in ds) → module_size around own ds ≤ 42 * length ds
  small_module around own [] k h small = omega arith
  small_module around own (d ∷ ds) k h small =
      let here = all_front IsSmallFunction (func_of d) (declared_in ds) small in
      let more = all_both IsSmallFunction own (adds around own d) h (adds_small around own d k h here) in
      let rest = small_module around (own ++ adds around own d) ds k more (all_back IsSmallFunction (func_of d) (declared_in ds) small) in
      let one = small_decl own d h in
      omega arith
