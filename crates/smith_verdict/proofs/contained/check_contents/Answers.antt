use Rattle.std.proofs.Common.{ap, arith, subst}
use Rattle.std.proofs.lemmas.Option.{MatchOption-at_some}
use Rattle.smith_read.specs.PartNodes.{shown_tree}
use Rattle.smith_read.specs.Walk.{to_come}
use Rattle.smith_check.proofs.Items.{counted}
use Rattle.smith_verdict.specs.Contained.{IsPlainContent, IsWithinBounds}
use Rattle.smith_verdict.proofs.ModuleWalk.{walk_counted}
use Rattle.smith_verdict.proofs.Walked.{OfSteps, walk_first}
use Rattle.smith_verdict.proofs.contained.check_contents.Goals as goal

pub loop-steps-init : goal.loop-steps-init
loop-steps-init c = record {
  plain = walk_first IsPlainContent (shown_tree c.args.component.now) (to_come c.new-steps.result) c.new-steps.ensures;
  bounded = walk_first IsWithinBounds (shown_tree c.args.component.now) (to_come c.new-steps.result) c.new-steps.ensures;
  count = omega (arith, ap counted c.new-steps.ensures, walk_counted (shown_tree c.args.component.now));
}

pub returns-in-Err-Reference : goal.returns-in-Err-Reference
returns-in-Err-Reference c =
    let told = c.in-Err-Reference.ensures {u = tt} in
    let first = MatchOption-at_some _ _ c.in-Some.step c.in-Some.is (c.in_ok-step.ensures {u = tt}) in (
      λ none. told.plain.is c.in-Err-Reference.field-0-is (subst (OfSteps IsPlainContent) first (c.loop-steps.invariant.plain.to none)).0,
      omega (arith, ap counted first, told.item, c.loop-steps.invariant.count),
    )

pub returns-in-Err-TooMuch : goal.returns-in-Err-TooMuch
returns-in-Err-TooMuch c =
    let told = c.in-Err-TooMuch.ensures {u = tt} in
    let first = MatchOption-at_some _ _ c.in-Some.step c.in-Some.is (c.in_ok-step.ensures {u = tt}) in (
      λ keeps. told.bounded.is c.in-Err-TooMuch.field-0-is (subst (OfSteps IsWithinBounds) first (c.loop-steps.invariant.bounded.to keeps)).0,
      omega (arith, ap counted first, told.item, c.loop-steps.invariant.count),
    )
