use Rattle.std.proofs.Common.{◌≡◌, ◌-◌, map}
use Rattle.smith_read.specs.Reading.{times_at}
use Rattle.smith_read.specs.Levels.{entry_at}
use Rattle.smith_read.specs.TypeNodes.{shown_type_node}
use Rattle.smith_read.proofs.Loops.{with_front}
use Rattle.smith_read.proofs.entries.types_of.Given as goal

abbrev pub invariant-loop : goal.invariant-loop
invariant-loop l = with_front (entry_at l.levels) (map shown_type_node l.types.items) (times_at (entry_at l.levels) (l.count - l.counter) l.rest) ≡ times_at
    (entry_at l.levels) l.count l.bytes
