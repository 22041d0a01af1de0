use Rattle.std.proofs.Common.{◌≡◌, ◌-◌, ◌<◌, ◌≤◌, length}
use Rattle.std.specs.Prelude.{drop, slice_get}
use Rattle.smith_syntax.specs.HasSignature.{has_signature}
use Rattle.smith_syntax.specs.Places.{places}
use Rattle.smith_scopes.specs.Rows.{values_of}
use Rattle.smith_scopes.proofs.scopes.equals.later_at.Given as goal

abbrev pub invariant-loop-index : goal.invariant-loop-index
invariant-loop-index l =
    (l.k - l.earlier < length (places (has_signature l.func) l.index (drop l.index (values_of l.types))))
    × (l.earlier ≤ l.k)
    × (slice_get (places (has_signature l.func) l.index (drop l.index (values_of l.types))) (l.k - l.earlier)
    ≡ slice_get (places (has_signature l.func) l.from (drop l.from (values_of l.types))) l.k)
