use Rattle.std.proofs.Common.{◌≡◌, ◌+◌, ◌-◌, ◌≤◌, List, [], length, map}
use Rattle.smith_input.specs.Reading.{IsTail}
use Rattle.smith_input.proofs.Loops.{Onward}
use Rattle.smith_format.specs.Consistency.{max_u32}
use Rattle.smith_scopes.specs.Scopes.{own_marked, own_scope}
use Rattle.smith_component.specs.SectionsState.{KeepsAround, ExportsState}
use Rattle.smith_component.specs.ExportReading.{NoExport, ReadsExport}
use Rattle.smith_tree.specs.Shown.{shown_export}
use Rattle.smith_component.specs.Tables.{IsKnown}
use Rattle.smith_tree.specs.Tree.{Tree}
use Rattle.smith_component.proofs.builder.exports.read_exports.Given as goal

-- The scope and the tables are the ones when the section has what was read.
abbrev pub invariant-loop-done : goal.invariant-loop-done
invariant-loop-done l =
    record {
      tail : IsTail l.u l.fn.u;
      few : length l.exports.items ≡ l.done;
      imports : l.tables.imports ≡ l.fn.tables.imports;
      known : IsKnown (own_scope l.scopes) l.tables;
      room : length l.tables.functions.items + (l.max - l.done) ≤ max_u32;
      around : KeepsAround l.fn.scopes l.scopes;
      onward : (outer : List Tree) (t : Tree) → ExportsState l.fn.config outer t [] (own_marked l.fn.scopes) l.fn.tables
          → Onward (NoExport l.fn.config outer t) (ReadsExport l.fn.config outer t) l.fn.config.loop_bits 0 l.max [] l.fn.u
          (map shown_export l.exports.items) l.done
          (map shown_export l.exports.items) l.u;
      exporting : (outer : List Tree) (t : Tree) → ExportsState l.fn.config outer t [] (own_marked l.fn.scopes) l.fn.tables
          → ExportsState l.fn.config outer t (map shown_export l.exports.items) (own_marked l.scopes) l.tables;
    }
