-- How many entries are still to come in the rest of a component, and what is within the limits there.
use Rattle.std.proofs.Common.{ℕ, ◌+◌, ◌≤◌, List, length}
use Rattle.std.specs.List.{AllByRecursion}
use Rattle.smith_format.specs.declared.config.Config.{Config}
use Rattle.smith_syntax.specs.CoreLimits.{CoreLimits}
use Rattle.smith_syntax.specs.Entries.{ImportEntry}
use Rattle.smith_syntax.specs.TypeLimits.{EntryLimits}
use Rattle.smith_tree.specs.Tree.{Canon, ExportEntry, Tree, Part, ends, first, custom, core_module, core_types, component, types, canons, imports, exports}
use Rattle.smith_tree.specs.Tree.{imported_components_in, imported_functions_in, imported_instances_in, imported_modules_in}
use Rattle.smith_tree.specs.Counts.{Counts, no_counts, with_component, with_module, with_type_count}

abbrev pub canons_left : List Canon → Counts → Counts
canons_left cs l = record l { functions = l.functions + length cs }

abbrev pub imports_left : List ImportEntry → Counts → Counts
imports_left is l = record l {
  functions = l.functions + length (imported_functions_in (imports is));
  modules = l.modules + length (imported_modules_in (imports is));
  components = l.components + length (imported_components_in (imports is));
  instances = l.instances + length (imported_instances_in (imports is));
}

-- Each export is a function too.

abbrev pub more_exports : Counts → ℕ → Counts
more_exports l n = record l { functions = l.functions + n; exports = l.exports + n }

abbrev pub exports_left : List ExportEntry → Counts → Counts
exports_left es l = more_exports l (length es)

abbrev pub part_left : Part → Counts → Counts
part_left (custom name contents) l = l
part_left (core_module text) l = with_module l
part_left (core_types ts) l = with_type_count l (length ts)
part_left (component t) l = with_component l
part_left (types ts) l = with_type_count l (length ts)
part_left (canons cs) l = canons_left cs l
part_left (imports is) l = imports_left is l
part_left (exports es) l = exports_left es l

-- Imports themselves are not among these.
abbrev pub left : Tree → Counts
left ends = no_counts
left (first p t) = part_left p (left t)

-- With that many more the counts are still within the bounds.
pub record Fits (c l : Counts) : Type 0 where
  pub types : c.types + l.types ≤ 1000000
  pub functions : c.functions + l.functions ≤ 1000000
  pub modules : c.modules + l.modules ≤ 1000
  pub components : c.components + l.components ≤ 1000
  pub instances : c.instances + l.instances ≤ 1000
  pub exports : c.exports + l.exports ≤ 1000000

-- Types and core types are within the limits, and inner components are as counted.
abbrev mutual
  pub KeptParts : Config → Tree → Type 0
  KeptParts config ends = Unit {0}
  KeptParts config (first p t) = KeptPart config p × KeptParts config t

  pub KeptPart : Config → Part → Type 0
  KeptPart config (custom name contents) = Unit {0}
  KeptPart config (core_module text) = Unit {0}
  KeptPart config (core_types ts) = AllByRecursion (CoreLimits config) ts
  KeptPart config (component t) = Fits no_counts (left t) × KeptParts config t
  KeptPart config (types ts) = AllByRecursion (EntryLimits config) ts
  KeptPart config (canons cs) = Unit {0}
  KeptPart config (imports is) = Unit {0}
  KeptPart config (exports es) = Unit {0}
