-- The sections of components that are read, variant by variant.
use Rattle.smith_read.proofs.PartNodes.{shown_canons, shown_core_types, shown_custom, shown_exports, shown_imports, shown_module, shown_nested}
use Rattle.smith_read.proofs.PartNodes.{shown_types}

pub ruleset part_nodes = (
  shown_custom,
  shown_module,
  shown_core_types,
  shown_nested,
  shown_types,
  shown_canons,
  shown_imports,
  shown_exports,
)
