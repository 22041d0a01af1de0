use Rattle.smith_core.specs.Parts.{AgreesWith, NamesTable}
use Rattle.smith_core.proofs.Tiles.{Passed}
use Rattle.smith_core.proofs.module.agree.elements_agree.Given as goal

abbrev pub invariant-loop-segment : goal.invariant-loop-segment
invariant-loop-segment l = record {
  items : Passed (λ e. AgreesWith e.items e.ty) l.segments l.segment-index;
  kinds : Passed (λ e. NamesTable e.kind e.ty) l.segments l.segment-index;
}
