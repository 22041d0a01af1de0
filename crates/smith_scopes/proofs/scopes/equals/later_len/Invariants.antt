use Rattle.std.proofs.Common.{◌≡◌, ◌+◌, ◌≤◌, length}
use Rattle.std.specs.Prelude.{drop}
use Rattle.smith_syntax.specs.HasSignature.{has_signature}
use Rattle.smith_syntax.specs.Places.{places}
use Rattle.smith_scopes.specs.Rows.{values_of}
use Rattle.smith_scopes.proofs.scopes.equals.later_len.Given as goal

abbrev pub invariant-loop-index : goal.invariant-loop-index
invariant-loop-index l =
    (l.count + length (places (has_signature l.func) l.index (drop l.index (values_of l.types)))
    ≡ length (places (has_signature l.func) l.from (drop l.from (values_of l.types))))
    × (l.count ≤ l.index)
