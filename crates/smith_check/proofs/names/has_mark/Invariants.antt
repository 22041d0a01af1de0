use Rattle.std.proofs.Common.{◌≡◌}
use Rattle.std.proofs.Math.ListN.{drop}
use Rattle.std.specs.List.{list_any}
use Rattle.smith_syntax.specs.Possible.{is_mark}
use Rattle.smith_check.proofs.names.has_mark.Given as goal

abbrev pub invariant-loop-byte : goal.invariant-loop-byte
invariant-loop-byte l = list_any is_mark l.name ≡ list_any is_mark (drop l.byte-index l.name)
