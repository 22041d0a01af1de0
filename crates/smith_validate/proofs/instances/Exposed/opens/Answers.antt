use Rattle.std.proofs.Common.{arith, sym, ◌∙◌, subst, reverse}
use Rattle.smith_validate.specs.Exposing.{IsGoal, IsPending, named_after}
use Rattle.smith_validate.specs.declared.instances.Use.{Use}
use Rattle.smith_validate.specs.declared.instances.Use.TheVariants.{Instance, Equal}
use Rattle.smith_validate.proofs.Exposed.{after_sub, equal_opened, instance_opened, reverse_push, within_met}
use Rattle.smith_validate.proofs.Names.{or_left}
use Rattle.smith_validate.proofs.Opened.{equal_not, instance_known, use_half}
use Rattle.smith_validate.proofs.Tables.{settled_sub}
use Rattle.smith_validate.proofs.instances.Exposed.opens.Goals as goal

pub returns-in_ok-push-in-Instance-clause-met : goal.returns-in_ok-push-in-Instance-clause-met
returns-in_ok-push-in-Instance-clause-met c =
    rw (c.in-Instance.is)
    (λ table named last before ts s h w go _.
    let n = c.in-Instance.number in
    let all = c.args.all.now in
    let pushed = reverse_push c.args.rest.now.items c.push.new.self.items (Instance n, 0) (c.in_ok-push-in-Instance.ensures {u = tt}).items in
    record {
      named = named;
      settled = s;
      pending = subst (λ us. IsPending table all (IsGoal table last before) us named) (sym pushed)
          (instance_opened table all (IsGoal table last before) n named (reverse c.args.rest.now.items) ts h w go);
    })

pub returns-else-not-contains-clause-met : goal.returns-else-not-contains-clause-met
returns-else-not-contains-clause-met c =
    rw (c.in-Instance.is)
    (λ table named last before ts s h w go _.
    let n = c.in-Instance.number in
    let u : Use = Instance n in
    let is = s n (or_left _ _ (sym (c.if-not-contains.ensures {u = tt}))) in
    record {
      named = named_after table u named;
      settled = settled_sub table c.args.self.now named (named_after table u named) (after_sub table u named) s;
      pending = go (within_met table u named is.1);
    })

pub returns-in_ok-push-in-Equal-clause-met : goal.returns-in_ok-push-in-Equal-clause-met
returns-in_ok-push-in-Equal-clause-met c =
    rw (c.in-Equal.is)
    (λ table named last before ts s h w go _.
    let n = c.in-Equal.number in
    let all = c.args.all.now in
    let pushed = reverse_push c.args.rest.now.items c.push-in-Equal.new.self.items (Equal n, 0) (c.in_ok-push-in-Equal.ensures {u = tt}).items in
    record {
      named = named;
      settled = s;
      pending = subst (λ us. IsPending table all (IsGoal table last before) us named) (sym pushed)
          (equal_opened table all (IsGoal table last before) n named (reverse c.args.rest.now.items) ts h w
          (sym c.refers_to_own.ensures ∙ c.if-refers_to_own.false) go);
    })

pub returns-in_ok-push-in-Instance-clause-exact : goal.returns-in_ok-push-in-Instance-clause-exact
returns-in_ok-push-in-Instance-clause-exact c = grind (arith, reverse_push, use_half)

pub returns-else-not-contains-clause-exact : goal.returns-else-not-contains-clause-exact
returns-else-not-contains-clause-exact c = grind (arith, instance_known)

pub returns-then-refers_to_own-clause-exact : goal.returns-then-refers_to_own-clause-exact
returns-then-refers_to_own-clause-exact c = grind (arith, equal_not)

pub returns-in_ok-push-in-Equal-clause-exact : goal.returns-in_ok-push-in-Equal-clause-exact
returns-in_ok-push-in-Equal-clause-exact c = grind (arith, reverse_push, use_half)
