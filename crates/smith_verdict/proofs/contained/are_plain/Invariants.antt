use Rattle.std.proofs.Math.ListN.{drop}
use Rattle.std.specs.List.{AllByRecursion}
use Rattle.smith_check.proofs.Judging.{Same}
use Rattle.smith_verdict.specs.Contained.{IsPlain}
use Rattle.smith_verdict.proofs.contained.are_plain.Given as goal

abbrev pub invariant-loop-ty : goal.invariant-loop-ty
invariant-loop-ty l = Same (AllByRecursion IsPlain l.types) (AllByRecursion IsPlain (drop l.ty-index l.types))
