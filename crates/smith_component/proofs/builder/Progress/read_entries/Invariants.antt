use Rattle.std.proofs.Common.{◌≡◌, ◌+◌}
use Rattle.smith_input.specs.Loops.{Never}
use Rattle.smith_input.specs.Reading.{IsTail}
use Rattle.smith_input.proofs.Loops.{Onward}
use Rattle.smith_scopes.specs.Scopes.{own_marked, outer_marked}
use Rattle.smith_component.specs.SectionsState.{KeepsAround}
use Rattle.smith_component.proofs.builder.Progress.read_entries.Given as goal

-- The last scope has as many more as were read.
abbrev pub invariant-loop-done : goal.invariant-loop-done
invariant-loop-done g l =
    let E = g.E.SectionEntry in
    let b = l.fn.self in
    record {
      tail : IsTail l.u l.fn.u;
      count : E.count (own_marked l.scopes) ≡ E.count (own_marked b.scopes) + l.done;
      around : KeepsAround b.scopes l.scopes;
      onward : Onward Never (E.reads b.config (outer_marked b.scopes)) b.config.loop_bits l.min l.max (own_marked b.scopes) l.fn.u l.entries.items l.done
          (own_marked l.scopes) l.u;
    }
