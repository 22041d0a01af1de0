use Rattle.std.proofs.Common.{◌+◌, ◌≤◌, List}
use Rattle.smith_input.specs.Reading.{IsTail}
use Rattle.smith_input.proofs.Loops.{Onward}
use Rattle.smith_component.specs.Canonicals.{CanonTurn, NoCanon, spaces_at}
use Rattle.smith_component.specs.CanonicalsState.{DraftsOn, SameLoans, draft_of}
use Rattle.smith_component.specs.Tables.{functions_at}
use Rattle.smith_tree.specs.declared.choices.CanonItem.{CanonItem}
use Rattle.smith_component.proofs.builder.canonicals.CanonicalDraft.turns.Given as goal

-- Each turn adds at most one function.
abbrev pub invariant-loop-done : goal.invariant-loop-done
invariant-loop-done l = record {
  tail : IsTail l.u l.fn.u;
  loans : SameLoans l.fn.self l.self;
  drafts : DraftsOn l.fn.self l.self;
  few : functions_at (spaces_at (draft_of l.self)) ≤ functions_at (spaces_at (draft_of l.fn.self)) + l.done;
  onward : (so_far : List CanonItem) × Onward NoCanon (CanonTurn l.fn.self.config.now) l.fn.self.config.now.loop_bits l.min l.max
      (draft_of l.fn.self) l.fn.u so_far l.done
      (draft_of l.self) l.u;
}
