use Rattle.std.proofs.Common.{◌≡◌, take}
use Rattle.std.specs.Prelude.{map}
use Rattle.std.specs.List.{join_with_byte}
use Rattle.smith_run.specs.Page.{two_digits}
use Rattle.smith_run.proofs.pages.spaced.Given as goal

abbrev pub invariant-loop-place : goal.invariant-loop-place
invariant-loop-place l = l.text.items ≡ join_with_byte 32 (map two_digits (take l.place l.bytes))
