use Rattle.std.proofs.Common.{List, subst, arith, rules}
use Rattle.smith_input.proofs.Loops.{begins, stops, ends_full, goes_on}
use Rattle.smith_input.proofs.Reading.{tail_same}
use Rattle.smith_syntax.specs.Marked.{Marked}
use Rattle.smith_scopes.specs.Scopes.{own_marked}
use Rattle.smith_scopes.proofs.Stack.{length-inward_marked}
use Rattle.smith_component.proofs.SectionsState.{around_then}
use Rattle.smith_component.proofs.Loops.{turn_left}
use Rattle.smith_component.proofs.Sound.{scopes_few}
use Rattle.smith_component.proofs.builder.Progress.read_entries.Goals as goal

pub loop-done-init : goal.loop-done-init
loop-done-init g c = grind (arith, tail_same, begins)

pub returns-then-not-more_of-clause-entries : goal.returns-then-not-more_of-clause-entries
returns-then-not-more_of-clause-entries g c = stops _ _ _ _ _ _ _ _ _ _ _ _ _ c.if-not-more_of.true c.more_of.ensures c.loop-done.invariant.onward

pub returns-in_err-push-clause-input : goal.returns-in_err-push-clause-input
returns-in_err-push-clause-input g c = record {
  tail = turn_left c.read.ensures.input.tail c.more_of.ensures c.loop-done.invariant.tail;
  memory = search rules;
}

pub returns-clause-entries : goal.returns-clause-entries
returns-clause-entries g c = ends_full _ _ _ _ _ _ _ _ _ _ _ c.loop-done-test.false c.loop-done.invariant.onward

pub read-requires : goal.read-requires
read-requires g c =
    let b = c.args.self.now in
    let i = c.requires.sound.0 in
    record {
      room = omega (arith, c.loop-done.invariant.count, c.requires.room, c.loop-done-test.true);
      ready = record {
        configured = c.valtypes_of-valtypes.ensures;
        consistent = i.sound.consistent;
        shallow = omega (arith, c.loop-done.invariant.around.depth, length-inward_marked b.scopes, scopes_few _ _ _ i.sound i.scopes_are);
      };
    }

pub loop-done-preserved : goal.loop-done-preserved
loop-done-preserved g c =
    let E = g.E.SectionEntry in
    let entry = c.in_ok-entry.entry in
    let i = c.loop-done.invariant in
    let e = c.in_ok-entry.ensures in
    let R : List Marked → Type 0 = λ o. E.reads c.args.self.now.config o (own_marked c.loop-done.scopes) c.more_of.new.self entry c.read.new.u
    (own_marked c.read.new.scopes) in
    record {
      tail = turn_left c.read.ensures.input.tail c.more_of.ensures i.tail;
      count = omega (arith, e.count, i.count);
      around = around_then i.around e.around;
      onward = goes_on _ _ _ _ _ _ _ _ _ _ _ _ _ _ _ _ _ c.if-not-more_of.false c.more_of.ensures
          (subst R i.around.outer e.read) c.in_ok-push.ensures.items i.onward;
    }
