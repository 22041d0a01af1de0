use Rattle.smith_read.specs.Nodes.{shown_module_node}
use Rattle.smith_reduce.specs.Fits.{HasReadableTexts}
use Rattle.smith_reduce.proofs.Loops.{IfRest}
use Rattle.smith_reduce.proofs.fits.core_types.have_readable_texts.Given as goal

abbrev pub invariant-loop-decl : goal.invariant-loop-decl
invariant-loop-decl l = IfRest (HasReadableTexts l.config) shown_module_node l.decls l.decl-index
