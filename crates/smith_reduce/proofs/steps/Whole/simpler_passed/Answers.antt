use Rattle.std.proofs.Common.{arith}
use Rattle.smith_read.specs.PartNodes.{shown_tree}
use Rattle.smith_edit.specs.Items.{tree_items}
use Rattle.smith_reduce.proofs.Passing.{simpler_pass}
use Rattle.smith_reduce.proofs.steps.Whole.simpler_passed.Goals as goal

pub returns-in-Some : goal.returns-in-Some
returns-in-Some c =
    let t = shown_tree c.args.self.now.component.now in
    let (k, within, is, after, some, before) = rw c.in-Some.is at c.in_ok-next.ensures in
    λ n low high.
    simpler_pass c.args.self.now.wanted t c.args.at c.in-Some.next (λ j from to. before j (omega (arith, from)) (omega (arith, to, is)))
    (c.requires.whole.over c.requires.over) n (omega (arith, low, c.requires.whole.items)) (omega (arith, high, after, c.requires.whole.items))

pub returns-in-None : goal.returns-in-None
returns-in-None c =
    let t = shown_tree c.args.self.now.component.now in
    let none = rw c.in-None.is at c.in_ok-next.ensures in
    λ n low high.
    simpler_pass c.args.self.now.wanted t c.args.at (tree_items t) (λ j from to. none j (omega (arith, from)) to)
    (c.requires.whole.over c.requires.over) n (omega (arith, low, c.requires.whole.items))
    (omega (arith, low, high, c.saturating_sub.ensures, c.requires.whole.items))
