-- Which sizes are below the bounds.
use Rattle.std.specs.Prelude.{ℕ, ◌<◌, ◌≤◌, List, map, length}
use Rattle.std.specs.List.{filter, flat_map}
use Rattle.smith_format.specs.declared.types.ExportKind.{ExportKind}
use Rattle.smith_format.specs.declared.types.ExportKind.TheVariants as kind
use Rattle.smith_syntax.specs.Entries.{CoreEntry, core_func, core_module, ModuleDecl}
use Rattle.smith_syntax.specs.Entries.{DefValType, record_type, tuple_type, variant_type}
use Rattle.smith_syntax.specs.ModuleTypes.{is_of_kind, module_import_of}
pub use Rattle.smith_syntax.specs.Members.{signature_members}
pub use Rattle.smith_syntax.specs.Sizes.{core_size, defined_size, entity_size, function_size, function_size_at, maybe_size, module_size, signature_size}
pub use Rattle.smith_syntax.specs.Sizes.{size_bound, summed, value_size}
use Rattle.smith_tree.specs.Demands.{Demands, Keeps}

-- The bound is asked of types with any number of member types.
abbrev pub SmallDefined : List ℕ → DefValType → Type 0
SmallDefined types (record_type fs) = defined_size types (record_type fs) < size_bound
SmallDefined types (variant_type cs) = defined_size types (variant_type cs) < size_bound
SmallDefined types (tuple_type vs) = defined_size types (tuple_type vs) < size_bound
SmallDefined types _ = Unit {0}

-- how many imports of a module type are of a kind
abbrev pub imported_of_kind : ExportKind → List ModuleDecl → ℕ
imported_of_kind k ds = length (filter (is_of_kind k) (map (λ i. i.2) (flat_map module_import_of ds)))

-- The bound is asked of module types, and of what they import: at most 100 memories and 100 tables.
abbrev pub ValidCore : Demands → List CoreEntry → CoreEntry → Type 0
ValidCore d around (core_func f) = Unit {0}
ValidCore d around (core_module ds) = Keeps d.sizes (core_size around (core_module ds) < size_bound)
    × Keeps d.memories (imported_of_kind kind.Memory ds ≤ 100) × Keeps d.tables (imported_of_kind kind.Table ds ≤ 100)
