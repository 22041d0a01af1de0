use Rattle.std.proofs.Common.{◌≤◌, ◌*◌, ◌^◌, arith, refl, ◌∙◌}
use Rattle.smith_format.specs.Piece.{◌⊕◌}
use Rattle.smith_format.proofs.Piece.{right_none}
use Rattle.smith_format.proofs.Sizes.{takes_then, takes_bytes, sum_next, sum_all, each_none, measures_none}
use Rattle.smith_tree.specs.Grammar.{preamble}
use Rattle.smith_component.proofs.Grammar.{text_shown}
use Rattle.smith_component.proofs.encode.+lengths.Goals as goal

pub component_len-returns-in_err-total : goal.component_len-returns-in_err-total
component_len-returns-in_err-total t c = grind (arith, text_shown, measures_none, each_none, right_none)

pub component_len-loop-section-preserved : goal.component_len-loop-section-preserved
component_len-loop-section-preserved t c =
    let d = c.in_ok-total.ensures {u = tt} in (
      sum_next _ _ _ _ _ _ _ (c.loop-section.invariant.0) c.loop-section-test.true c.section-item.is d.length refl,
      let l : c.loop-section.total ≤ c.loop-section.section-index * 2 ^ 34 = c.loop-section.invariant.1 in omega (arith, d.most),
    )

pub component_len-returns : goal.component_len-returns
component_len-returns t c =
    rw (← c.component.view_is, text_shown _, ← c.deref-section-items.ensures.value)
    (takes_then (takes_bytes 8 preamble (omega arith)) (sum_all _ _ _ _ (c.loop-section.invariant.0) c.loop-section-test.false))
