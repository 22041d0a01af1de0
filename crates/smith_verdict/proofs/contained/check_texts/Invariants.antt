use Rattle.std.proofs.Common.{map}
use Rattle.smith_check.proofs.Judging.{AllLeft, Same}
use Rattle.smith_verdict.specs.Contained.{IsPlainContent, IsWithinBounds, OfNames, text}
use Rattle.smith_verdict.proofs.contained.check_texts.Given as goal

abbrev pub invariant-loop-item : goal.invariant-loop-item
invariant-loop-item g l = record {
  plain : Same (OfNames IsPlainContent (map g.T.Labelled.text l.items)) (AllLeft (λ n. IsPlainContent (text n)) g.T.Labelled.text l.items l.item-index);
  bounded : Same (OfNames IsWithinBounds (map g.T.Labelled.text l.items)) (AllLeft (λ n. IsWithinBounds (text n)) g.T.Labelled.text l.items l.item-index);
}
