-- Core types within the limits are valid and small.
use Rattle.std.proofs.Common.{◌≡◌, ◌≤◌, List, [], ◌∷◌, length, refl, arith}
use Rattle.std.specs.List.{AllByRecursion}
use Rattle.smith_format.specs.declared.config.Config.{Config}
use Rattle.smith_format.specs.declared.types.ExportKind.TheVariants as kind
use Rattle.smith_syntax.specs.CoreLimits.{CoreLimits}
use Rattle.smith_syntax.specs.Entries.{CoreEntry, core_func, core_module}
use Rattle.smith_syntax.specs.Marks.{small_size}
use Rattle.smith_syntax.specs.ModuleTypes.{after_front, declared_in}
use Rattle.smith_syntax.specs.Sizes.{core_size, module_type_size}
use Rattle.smith_tree.specs.Bodies.{core_facts, module_size_of}
use Rattle.smith_tree.specs.Demands.{everything}
use Rattle.smith_tree.specs.Facts.{CoreFacts, FactScope}
use Rattle.smith_tree.specs.Sizes.{ValidCore}
use Rattle.smith_tree.proofs.CoreSizes.{small_functions, small_module}
use Rattle.smith_tree.proofs.Fronts.{front_length, imports_behind}
use Rattle.smith_tree.proofs.Ties.{FitsCore, entries_of}

pub small_core : (config : Config) (around : List CoreEntry) (e : CoreEntry) → AllByRecursion (CoreLimits config) around → CoreLimits config e
    → module_type_size around e ≤ small_size
small_core config around (core_func f) k h = omega arith
small_core config around (core_module ds) k h =
    let few : length (after_front ds) ≤ 100 = h.declarations in
    omega (arith, small_module config around [] ds k tt (small_functions config (declared_in ds) h.functions), few, front_length ds)

pub valid_core : (config : Config) (around : List CoreEntry) (e : CoreEntry) → AllByRecursion (CoreLimits config) around → CoreLimits config e
    → ValidCore everything around e
valid_core config around (core_func f) k h = tt
valid_core config around (core_module ds) k h =
    let small : core_size around (core_module ds) ≤ 9999 = small_core config around (core_module ds) k h in
    let few : length (after_front ds) ≤ 100 = h.declarations in
    (omega arith, omega (arith, imports_behind kind.Memory ds), omega (arith, imports_behind kind.Table ds))

-- The same core type among what is known of those before it.

pub limits_of : (config : Config) (fs : List CoreFacts) → AllByRecursion (FitsCore config) fs → AllByRecursion (CoreLimits config) (entries_of fs)
limits_of config [] h = tt
limits_of config (f ∷ fs) h = (h.0.limits, limits_of config fs h.1)

pub module_size_is : (e : CoreEntry) (own : FactScope) → module_type_size (entries_of own.core_types) e ≡ module_size_of (core_facts e own)
module_size_is (core_func f) own = refl
module_size_is (core_module ds) own = refl

pub fits_core : (config : Config) (e : CoreEntry) (own : FactScope) → AllByRecursion (FitsCore config) own.core_types → CoreLimits config e
    → FitsCore config (core_facts e own)
fits_core config e own k h = grind (arith, small_core config (entries_of own.core_types) e (limits_of config own.core_types k) h, module_size_is e own)
