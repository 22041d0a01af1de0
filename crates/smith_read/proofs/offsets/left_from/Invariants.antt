use Rattle.std.proofs.Common.{◌≡◌, ◌-◌, length}
use Rattle.smith_read.specs.Finding.{walk_at}
use Rattle.smith_read.proofs.offsets.left_from.Given as goal

abbrev pub invariant-loop : goal.invariant-loop
invariant-loop l = walk_at (length l.bytes - l.counter) l.left l.rest ≡ walk_at (length l.bytes) l.item l.bytes
