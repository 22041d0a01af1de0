use Rattle.std.proofs.Common.{◌≡◌, ◌-◌, map}
use Rattle.smith_read.specs.Reading.{times_at}
use Rattle.smith_read.proofs.Loops.{with_front}
use Rattle.smith_read.proofs.lists.times_of.Given as goal

abbrev pub invariant-loop : goal.invariant-loop
invariant-loop g l =
    with_front g.T.Readable.reading (map g.T.Readable.shown l.items.items)
    (times_at g.T.Readable.reading (l.count - l.counter) l.rest) ≡ times_at g.T.Readable.reading l.count l.bytes
