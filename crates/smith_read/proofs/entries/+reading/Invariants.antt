use Rattle.std.proofs.Common.{◌≡◌, ◌-◌, ◌+◌, ◌*◌, map}
use Rattle.smith_read.specs.Reading.{times_at}
use Rattle.smith_read.specs.Levels.{decl_at, entry_after}
use Rattle.smith_read.specs.TypeNodes.{shown_decl_node}
use Rattle.smith_read.proofs.Loops.{with_front}
use Rattle.smith_read.proofs.entries.+reading.Given as goal

abbrev pub decreases-entry_of : goal.decreases-entry_of
decreases-entry_of l = 3 * l.levels

abbrev pub decreases-decl_of : goal.decreases-decl_of
decreases-decl_of l = 3 * l.levels + 1

abbrev pub decreases-decls_of : goal.decreases-decls_of
decreases-decls_of l = 3 * l.levels + 2

abbrev pub invariant-decls_of-loop : goal.invariant-decls_of-loop
invariant-decls_of-loop l =
    with_front (decl_at (entry_after l.levels) l.importing) (map shown_decl_node l.decls.items)
    (times_at (decl_at (entry_after l.levels) l.importing) (l.count - l.counter) l.rest)
    ≡ times_at (decl_at (entry_after l.levels) l.importing) l.count l.bytes
