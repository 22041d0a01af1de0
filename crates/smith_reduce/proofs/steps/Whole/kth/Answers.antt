use Rattle.std.proofs.Common.{◌≡◌, ◌+◌, arith, rules, subst}
use Rattle.smith_read.specs.PartNodes.{shown_tree}
use Rattle.smith_reduce.specs.Smaller.{HowMany, Leads, counted, nothing, steps}
use Rattle.smith_reduce.specs.Wanted.{IsWanted}
use Rattle.smith_reduce.proofs.Passing.{leads_within, passed_up_to}
use Rattle.smith_reduce.proofs.steps.Whole.kth.Goals as goal

pub loop-found-init : goal.loop-found-init
loop-found-init c = (nothing, omega arith)

pub returns-in_default : goal.returns-in_default
returns-in_default c =
    let t = shown_tree c.args.self.now.component.now in
    let (many, low) = c.loop-found.invariant in
    let none = rw c.in_default.is at c.in_ok-step.ensures in (
      c.loop-found._found,
      omega (arith, c.loop-found-test.true),
      passed_up_to c.args.self.now.wanted t c.loop-found.from (steps t) c.loop-found._found many low (λ n after before. none n after),
    )

pub loop-found-preserved : goal.loop-found-preserved
loop-found-preserved c =
    let want = c.args.self.now.wanted in
    let t = shown_tree c.args.self.now.component.now in
    let n = c.in-Some.step.number in
    let (many, low) = c.loop-found.invariant in
    let (after, leads, none) = rw c.in-Some.is at c.in_ok-step.ensures in
    let is : n + 1 ≡ c.in_ok-from.from = search rules in (
      subst (λ m. HowMany (Leads (IsWanted want) t) m (c.loop-found._found + 1)) is
          (counted (c.in-Some.step.bytes.items, leads) (passed_up_to want t c.loop-found.from n c.loop-found._found many after none)),
      omega (arith, is, leads_within want t n (c.in-Some.step.bytes.items, leads)),
    )

pub returns-in-Some-2 : goal.returns-in-Some-2
returns-in-Some-2 c =
    let want = c.args.self.now.wanted in
    let t = shown_tree c.args.self.now.component.now in
    let n = c.in-Some-2.step.number in
    let (many, low) = c.loop-found.invariant in
    let (after, leads, none) = rw c.in-Some-2.is at c.in_ok-step-2.ensures in
    let all : c.loop-found._found ≡ c.args.k = omega (arith, c.loop-found-test.false, c.loop-found.auto._found-end) in (
      n,
      leads,
      subst (λ k. HowMany (Leads (IsWanted want) t) n k) all (passed_up_to want t c.loop-found.from n c.loop-found._found many after none),
    )

pub returns-in-None : goal.returns-in-None
returns-in-None c =
    let t = shown_tree c.args.self.now.component.now in
    let (many, low) = c.loop-found.invariant in
    let none = rw c.in-None.is at c.in_ok-step-2.ensures in (
      c.loop-found._found,
      omega (arith, c.loop-found.auto._found-end),
      passed_up_to c.args.self.now.wanted t c.loop-found.from (steps t) c.loop-found._found many low (λ n after before. none n after),
    )
