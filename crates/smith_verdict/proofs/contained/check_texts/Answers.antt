use Rattle.std.proofs.Common.{subst}
use Rattle.smith_check.proofs.Judging.{left_at, left_done, same_step}
use Rattle.smith_verdict.specs.Contained.{IsPlainContent, IsWithinBounds, text}
use Rattle.smith_verdict.proofs.contained.check_texts.Goals as goal

pub loop-item-preserved : goal.loop-item-preserved
loop-item-preserved g c = record {
  plain = same_step c.loop-item.invariant.plain
      (left_at (λ n. IsPlainContent (text n)) g.T.Labelled.text c.args.items.now c.loop-item.item-index c.item-item.result c.loop-item-test.true c.item-item.is)
      (c.in_ok-check_text.ensures {u = tt}).plain;
  bounded = same_step c.loop-item.invariant.bounded
      (left_at (λ n. IsWithinBounds (text n)) g.T.Labelled.text c.args.items.now c.loop-item.item-index c.item-item.result c.loop-item-test.true c.item-item.is)
      (subst (λ n. IsWithinBounds (text n)) c.label.ensures (c.in_ok-check_text.ensures {u = tt}).bounded);
}

pub returns-clause-plain : goal.returns-clause-plain
returns-clause-plain g c =
    c.loop-item.invariant.plain.from
    (left_done (λ n. IsPlainContent (text n)) g.T.Labelled.text c.args.items.now c.loop-item.item-index c.loop-item-test.false)

pub returns-clause-bounded : goal.returns-clause-bounded
returns-clause-bounded g c =
    c.loop-item.invariant.bounded.from
    (left_done (λ n. IsWithinBounds (text n)) g.T.Labelled.text c.args.items.now c.loop-item.item-index c.loop-item-test.false)
