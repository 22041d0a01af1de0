use Rattle.std.proofs.Common.{◌≤◌, arith}
use Rattle.smith_read.specs.PartNodes.{shown_tree}
use Rattle.smith_reduce.specs.Smaller.{steps}
use Rattle.smith_reduce.proofs.Passing.{more_passed, none_at_all}
use Rattle.smith_reduce.proofs.steps.Whole.next.Goals as goal

pub loop-number-preserved : goal.loop-number-preserved
loop-number-preserved c =
    let t = shown_tree c.args.self.now.component.now in
    let (some, none) = rw c.in-Nothing.is at c.in_ok-bytes.ensures in
    let all = more_passed c.args.self.now.wanted t c.args.from c.loop-number.number c.in-Nothing.count c.loop-number.invariant.0 none in (
      λ n low high. all n low (omega (arith, high, c.saturating_add-number.ensures)),
      omega (arith, c.loop-number.invariant.1, c.loop-number-test.true, c.saturating_add-number.ensures),
    )

pub returns : goal.returns
returns c =
    let t = shown_tree c.args.self.now.component.now in
    let beyond : steps t ≤ c.loop-number.number = omega (arith, c.in_ok-steps.ensures, c.loop-number-test.false) in
    none_at_all c.args.self.now.wanted t c.args.from c.loop-number.number c.loop-number.invariant.0 beyond
