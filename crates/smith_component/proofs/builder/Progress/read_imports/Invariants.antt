use Rattle.std.proofs.Common.{◌+◌, ◌≤◌, [], length}
use Rattle.smith_input.specs.Reading.{IsTail}
use Rattle.smith_input.proofs.Loops.{Onward}
use Rattle.smith_scopes.specs.Scopes.{own_marked}
use Rattle.smith_component.specs.BuilderView.{stack_of}
use Rattle.smith_component.specs.SectionsState.{KeepsAround, ImportsState}
use Rattle.smith_component.specs.SectionValues.{NoImportValue, ReadsImportValue, externs_of}
use Rattle.smith_component.proofs.builder.Progress.read_imports.Given as goal

-- The totals and the tables are the ones when the section has what was read.
abbrev pub invariant-loop-done : goal.invariant-loop-done
invariant-loop-done l =
    let b = l.fn.self in
    let stack = stack_of b in
    let before = externs_of b.inner.sections.items in
    record {
      tail : IsTail l.u l.fn.u;
      within : length l.tables.functions.items ≤ l.tables.counted + b.config.max_exports;
      onward : Onward (NoImportValue b.config stack) (ReadsImportValue b.config stack before) b.config.loop_bits l.min l.max [] l.fn.u l.imports.items l.done
          l.imports.items l.u;
      around : KeepsAround b.scopes l.scopes;
      importing : ImportsState b.config stack before l.imports.items (own_marked l.scopes) l.totals l.tables;
    }
