use Rattle.std.proofs.Common.{map, ap}
use Rattle.smith_input.proofs.Loops.{stops, ends_early, goes_on, ends_full}
use Rattle.smith_input.proofs.Reading.{tail_same, tail_trans, more_tail}
use Rattle.smith_scopes.proofs.Plain.{pushed}
use Rattle.smith_types.proofs.Members.{starts, spends, has_read_as}
use Rattle.smith_types.proofs.make.members.read_members.Goals as goal

pub loop-done-init : goal.loop-done-init
loop-done-init g c = record { tail = tail_same _; onward = starts _ _ (ap (map g.M.Member.shown) c.new-members.ensures.items) }

pub returns-then-not-more_of-clause-reads : goal.returns-then-not-more_of-clause-reads
returns-then-not-more_of-clause-reads g c = stops _ _ _ _ _ _ _ _ _ _ _ _ _ c.if-not-more_of.true c.more_of.ensures c.loop-done.invariant.onward

pub returns-then-fuel-eq0-clause-reads : goal.returns-then-fuel-eq0-clause-reads
returns-then-fuel-eq0-clause-reads g c = ends_early _ _ _ _ _ _ _ _ _ _ _ _ _ _ _ c.if-not-more_of.false c.more_of.ensures
    (spends _ _ c.burn.ensures c.if-fuel-eq0.true) c.loop-done.invariant.onward

pub loop-done-preserved : goal.loop-done-preserved
loop-done-preserved g c =
    let shown = g.M.Member.shown in
    let so_far = map shown c.loop-done.members.items in
    let x = shown c.in_ok-member.member in
    let next = pushed shown c.loop-done.members.items c.push.new.self.items c.in_ok-member.member c.in_ok-push.ensures.items in
    let read = rw c.deref.ensures.value at c.in_ok-member.ensures.read in
    record {
      tail = tail_trans c.in_ok-member.ensures.input.tail (tail_trans (more_tail c.more_of.ensures) c.loop-done.invariant.tail);
      onward = goes_on _ _ _ _ _ _ _ so_far _ x _ _ _ _ _ _ _ c.if-not-more_of.false c.more_of.ensures
          (has_read_as _ _ x c.burn.ensures c.if-fuel-eq0.false read next)
          next c.loop-done.invariant.onward;
    }

pub returns-clause-reads : goal.returns-clause-reads
returns-clause-reads g c = ends_full _ _ _ _ _ _ _ _ _ _ _ c.loop-done-test.false c.loop-done.invariant.onward
