use Rattle.std.proofs.Common.{ℕ, List, ◌++◌, length}
use Rattle.smith_input.specs.Reading.{IsTail}
use Rattle.smith_input.specs.Texts.{ReadsBytes}
use Rattle.smith_input.proofs.texts.arbitrary_bytes.Given as goal

-- what follows completes the bytes
abbrev pub invariant-loop-bytes : goal.invariant-loop-bytes
invariant-loop-bytes l = record {
  more : (values rest : List ℕ) → ReadsBytes l.u values rest → ReadsBytes l.fn.u (l.bytes.items ++ values) rest;
  tail : IsTail l.u l.fn.u;
}

abbrev pub decreases-loop-bytes : goal.decreases-loop-bytes
decreases-loop-bytes l = length l.u
