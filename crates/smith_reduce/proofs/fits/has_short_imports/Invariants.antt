use Rattle.std.proofs.Common.{drop, map}
use Rattle.smith_tree.specs.WellFormed.{import_names}
use Rattle.smith_read.specs.PartNodes.{shown_import_node}
use Rattle.smith_reduce.specs.Fits.{AreShort}
use Rattle.smith_reduce.proofs.fits.has_short_imports.Given as goal

abbrev pub invariant-loop-import : goal.invariant-loop-import
invariant-loop-import l =
    AreShort l.config (import_names (map shown_import_node (drop l.import-index l.imports)))
    → AreShort l.config (import_names (map shown_import_node l.imports))
