use Rattle.std.specs.Prelude.{IfSome}
use Rattle.smith_read.specs.PartNodes.{shown_tree}
use Rattle.smith_corpus.specs.NearMisses.{IsChangeOf}
use Rattle.smith_corpus.proofs.breaking.rarest.Given as goal

abbrev pub invariant-loop : goal.invariant-loop
invariant-loop l = IfSome l.best (IsChangeOf (shown_tree l.tree))
