use Rattle.std.proofs.Common.{◌≡◌, ℕ, ◌^◌, ◌<◌, ◌≤◌}
use Rattle.smith_input.proofs.unstructured.width_of.Given as goal

abbrev pub invariant-loop-width : goal.invariant-loop-width
invariant-loop-width l = record {
  power : l.reach ≡ 256 ^ l.width;
  small : l.reach ≤ 256 ^ 8;
  below : (v : ℕ) → v < l.width → 256 ^ v ≤ l.last;
}
