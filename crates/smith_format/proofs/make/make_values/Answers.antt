use Rattle.smith_input.proofs.Choices.{among}
use Rattle.smith_input.proofs.Loops.{begins, stops, ends_full, goes_on}
use Rattle.smith_input.proofs.Reading.{tail_same, tail_trans, reads_tail, more_tail}
use Rattle.smith_format.proofs.make.make_values.Goals as goal

pub loop-done-init : goal.loop-done-init
loop-done-init c = record { tail = tail_same _; onward = begins _ _ _ _ _ _ _ _ c.new-types.ensures.items }

pub returns-then-not-more_of-clause-reads : goal.returns-then-not-more_of-clause-reads
returns-then-not-more_of-clause-reads c = stops _ _ _ _ _ _ _ _ _ _ _ _ _ c.if-not-more_of.true c.more_of.ensures c.loop-done.invariant.onward

pub loop-done-preserved : goal.loop-done-preserved
loop-done-preserved c = record {
  tail = tail_trans (reads_tail c.choose-ty.ensures.1) (tail_trans (more_tail c.more_of.ensures) c.loop-done.invariant.tail);
  onward = goes_on _ _ _ _ _ _ _ _ _ _ _ _ _ _ _ _ _ c.if-not-more_of.false c.more_of.ensures (among c.choose-ty.ensures) c.in_ok-push.ensures.items
      c.loop-done.invariant.onward;
}

pub returns-clause-reads : goal.returns-clause-reads
returns-clause-reads c = ends_full _ _ _ _ _ _ _ _ _ _ _ c.loop-done-test.false c.loop-done.invariant.onward
