use Rattle.std.proofs.Common.{◌≤◌, ◌≡◌, length}
use Rattle.smith_corpus.proofs.drawing.keep_all_open.Given as goal

abbrev pub invariant-loop : goal.invariant-loop
invariant-loop l = (l.len ≡ length l.bytes) × (l.left ≤ l.len)
