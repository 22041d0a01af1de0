use Rattle.std.proofs.Common.{[], ◌∷◌, ◌++◌, refl, arith, rules, subst}
use Rattle.smith_format.specs.declared.config.Config.{Config}
use Rattle.smith_input.specs.Reading.{More}
use Rattle.smith_input.proofs.Loops.{begins, ends_early, ends_full, goes_on, stops}
use Rattle.smith_input.proofs.Reading.{tail_same}
use Rattle.smith_component.specs.CanonicalsState.{draft_of}
use Rattle.smith_component.proofs.CanonicalsState.{drafted, drafts_none, drafts_then, loans_then}
use Rattle.smith_component.proofs.Loops.{turn_left}
use Rattle.smith_component.proofs.ReadsCanons.{turn_functions}
use Rattle.smith_component.proofs.builder.canonicals.CanonicalDraft.turns.Goals as goal

pub loop-done-init : goal.loop-done-init
loop-done-init c = grind (arith, tail_same, drafts_none, begins)

pub returns-then-not-more_of-clause-reads : goal.returns-then-not-more_of-clause-reads
returns-then-not-more_of-clause-reads c = grind (arith, stops)

pub returns-clause-reads : goal.returns-clause-reads
returns-clause-reads c = grind (arith, ends_full)

pub returns-in_err-turn-clause-input : goal.returns-in_err-turn-clause-input
returns-in_err-turn-clause-input c = record {
  tail = turn_left c.turn.ensures.input.tail c.more_of.ensures c.loop-done.invariant.tail;
  memory = search rules;
}

pub returns-then-not-branch-clause-input : goal.returns-then-not-branch-clause-input
returns-then-not-branch-clause-input c = record {
  tail = turn_left c.turn.ensures.input.tail c.more_of.ensures c.loop-done.invariant.tail;
  memory = tt;
}

pub turn-requires : goal.turn-requires
turn-requires c = grind arith

pub returns-then-not-branch-clause-reads : goal.returns-then-not-branch-clause-reads
returns-then-not-branch-clause-reads c =
    let o = c.loop-done.invariant.onward in
    let none = drafted (draft_of c.loop-done.self) (draft_of c.turn.new.self) c.more_of.new.self c.turn.new.u c.loop-done.invariant.loans.config
    c.if-not-branch.true c.in_ok-turn.ensures.reads in
    let more = subst (λ (k : Config). More k.loop_bits c.loop-done.done c.args.min c.args.max c.loop-done.u c.more_of.result c.more_of.new.self)
    c.loop-done.invariant.loans.config c.more_of.ensures in
    (o.0, ends_early _ _ _ _ _ _ _ o.0 _ _ _ _ _ _ _ c.if-not-more_of.false more none o.1)

pub returns-then-not-branch-clause-drafts : goal.returns-then-not-branch-clause-drafts
returns-then-not-branch-clause-drafts c = drafts_then c.loop-done.invariant.drafts c.in_ok-turn.ensures.drafts

pub loop-done-preserved : goal.loop-done-preserved
loop-done-preserved c =
    let i = c.loop-done.invariant in
    let o = i.onward in
    let e = c.in_ok-turn.ensures in
    let s = draft_of c.loop-done.self in
    let next = draft_of c.turn.new.self in
    let turn = drafted s next c.more_of.new.self c.turn.new.u i.loans.config c.if-not-branch.false e.reads in
    let more = subst (λ (k : Config). More k.loop_bits c.loop-done.done c.args.min c.args.max c.loop-done.u c.more_of.result c.more_of.new.self)
    i.loans.config c.more_of.ensures in
    record {
      tail = turn_left c.turn.ensures.input.tail c.more_of.ensures i.tail;
      loans = loans_then i.loans c.turn.ensures.loans;
      drafts = drafts_then i.drafts e.drafts;
      few = omega (arith, i.few, turn_functions c.args.self.now.config.now s c.more_of.new.self turn.0 c.turn.new.u next turn.1);
      onward = (o.0 ++ turn.0 ∷ [], goes_on _ _ _ _ _ _ _ o.0 (o.0 ++ turn.0 ∷ []) turn.0 _ s next _ _ _ _ c.if-not-more_of.false more turn.1 refl o.1);
    }
