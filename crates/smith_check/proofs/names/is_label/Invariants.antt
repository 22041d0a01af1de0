use Rattle.std.proofs.Math.ListN.{drop}
use Rattle.smith_syntax.specs.Labels.{IsLabel}
use Rattle.smith_check.specs.Fragments.{Goes}
use Rattle.smith_check.proofs.names.is_label.Given as goal

abbrev pub invariant-loop-byte : goal.invariant-loop-byte
invariant-loop-byte l = IsLabel l.name → Goes l.at (drop l.byte-index l.name)
