use Rattle.std.proofs.Common.{drop, map}
use Rattle.smith_tree.specs.Shown.{shown_export}
use Rattle.smith_tree.specs.WellFormed.{export_names}
use Rattle.smith_reduce.specs.Fits.{AreShort}
use Rattle.smith_reduce.proofs.fits.has_short_exports.Given as goal

abbrev pub invariant-loop-export : goal.invariant-loop-export
invariant-loop-export l =
    AreShort l.config (export_names (map shown_export (drop l.export-index l.exports)))
    → AreShort l.config (export_names (map shown_export l.exports))
