use Rattle.smith_input.proofs.Loops.{stops, ends_full, goes_on}
use Rattle.smith_input.proofs.Reading.{tail_trans, more_tail}
use Rattle.smith_core.proofs.module.stand_in.memories.Goals as goal

pub returns-then-not-more_of-clause-reads : goal.returns-then-not-more_of-clause-reads
returns-then-not-more_of-clause-reads c = stops _ _ _ _ _ _ _ _ _ _ _ _ _ c.if-not-more_of.true c.more_of.ensures c.loop-done.invariant.onward

pub loop-done-preserved : goal.loop-done-preserved
loop-done-preserved c =
    let more = c.more_of.ensures in
    let read = c.arbitrary_memtype-ty.ensures.reads in
    let items = (c.in_ok-push.ensures {u = tt}).items in
    record {
      tail = tail_trans c.arbitrary_memtype-ty.ensures.tail (tail_trans (more_tail more) c.loop-done.invariant.tail);
      onward = goes_on _ _ _ _ _ _ _ _ _ _ _ _ _ _ _ _ _ c.if-not-more_of.false more read items c.loop-done.invariant.onward;
    }

pub returns-clause-reads : goal.returns-clause-reads
returns-clause-reads c = ends_full _ _ _ _ _ _ _ _ _ _ _ c.loop-done-test.false c.loop-done.invariant.onward

pub returns-then-not-more_of-clause-tail : goal.returns-then-not-more_of-clause-tail
returns-then-not-more_of-clause-tail c = tail_trans (more_tail c.more_of.ensures) c.loop-done.invariant.tail

pub returns-in_err-push-clause-tail : goal.returns-in_err-push-clause-tail
returns-in_err-push-clause-tail c =
    tail_trans c.arbitrary_memtype-ty.ensures.tail (tail_trans (more_tail c.more_of.ensures) c.loop-done.invariant.tail)
