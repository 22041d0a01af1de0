use Rattle.std.proofs.Common.{◌≡◌, [], sym, subst, refl, reverse, arith}
use Rattle.std.proofs.lemmas.List.{nil_from_length}
use Rattle.smith_validate.specs.Exact.{IsExposed}
use Rattle.smith_validate.specs.Exposing.{IsGoal, IsOnTheWay, IsPending, named_after}
use Rattle.smith_validate.specs.Opening.{AreHalf, IsMidway, IsOpenable}
use Rattle.smith_validate.proofs.Exposed.{reached, reverse_push}
use Rattle.smith_validate.proofs.instances.Exposed.meets.Goals as goal

pub loop-init : goal.loop-init
loop-init c = record {
  met = λ table named ts s h w.
      let all = c.args.all.now in
      let u = c.args.used in
      (c.in_ok-opens.ensures {u = tt}).met table named u named ts s h w
      (λ met.
      subst (λ us. IsPending table all (IsGoal table u named) (reverse us) (named_after table u named)) (sym c.new-rest.ensures.items)
      (record { met = met; named_is = refl }))
      c.if-not-branch.false;
  exact = λ table named exact distinct x o.
      let all = c.args.all.now in
      let u = c.args.used in
      let s = c.args.self.now in
      let empty = sym c.new-rest.ensures.items in
      rw c.if-not-branch.false at
      ((c.in_ok-opens.ensures {u = tt}).exact table named u named exact
      (subst (λ us. IsExposed table s (reverse us) named) empty x)
      (subst (λ us. IsOpenable table s (reverse us) u) empty o)
      (λ met. met)
      (subst (λ us. AreHalf table all u named s (reverse us) (named_after table u named)) empty refl));
}

pub returns-then-not-branch-clause-exact : goal.returns-then-not-branch-clause-exact
returns-then-not-branch-clause-exact c = λ table named exact distinct x o.
    let all = c.args.all.now in
    let u = c.args.used in
    let s = c.args.self.now in
    let empty = sym c.new-rest.ensures.items in
    rw c.if-not-branch.true at
    ((c.in_ok-opens.ensures {u = tt}).exact table named u named exact
    (subst (λ us. IsExposed table s (reverse us) named) empty x)
    (subst (λ us. IsOpenable table s (reverse us) u) empty o)
    (λ met. met)
    (subst (λ us. AreHalf table all u named s (reverse us) (named_after table u named)) empty refl))

pub returns-in_default-clause-met : goal.returns-in_default-clause-met
returns-in_default-clause-met c = λ table named ts s h w _.
    let all = c.args.all.now in
    let u = c.args.used in
    let none : c.loop.rest.items ≡ [] = nil_from_length c.loop.rest.items (omega (arith, c.in_default.ensures.cases.0, c.loop.rest.ok.0)) in
    reached table all u named c.loop.self
    (subst (λ us. IsOnTheWay table all u named c.loop.self (reverse us)) none (c.loop.invariant.met table named ts s h w))

pub loop-preserved : goal.loop-preserved
loop-preserved c =
    let all = c.args.all.now in
    let u = c.args.used in
    let popped = reverse_push c.pop.new.self.items c.loop.rest.items (c.in-Some.used, c.in-Some.done) c.in-Some.ensures.items in
    record {
      met = λ table named ts s h w.
          (c.in_ok-goes_on.ensures {u = tt}).met table u named ts
          (subst (λ us. IsOnTheWay table all u named c.loop.self us) popped (c.loop.invariant.met table named ts s h w))
          c.if-not-branch-2.false;
      exact = λ table named exact distinct x o.
          rw c.if-not-branch-2.false at
          ((c.in_ok-goes_on.ensures {u = tt}).exact table u named exact distinct
          (subst (λ us. IsMidway table all u named c.loop.self us) popped (c.loop.invariant.exact table named exact distinct x o)));
    }
