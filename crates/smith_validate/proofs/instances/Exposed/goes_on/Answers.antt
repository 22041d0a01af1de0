use Rattle.std.proofs.Common.{arith, inl, ◌∷◌, ap, sym, ◌∙◌, subst, refl, reverse}
use Rattle.std.specs.Prelude.{slice_get}
use Rattle.smith_validate.specs.Exact.{IsExposed}
use Rattle.smith_validate.specs.Opening.{AreHalf, IsOpenable}
use Rattle.smith_validate.specs.Exposing.{IsGoal, IsPending, named_after, number_of, use_in, uses_of}
use Rattle.smith_validate.specs.declared.instances.Exposed.{Exposed}
use Rattle.smith_validate.specs.declared.instances.Use.{Use}
use Rattle.smith_validate.specs.declared.instances.Use.TheVariants.{Instance, Equal}
use Rattle.smith_validate.proofs.Exposed.{next_use, reverse_push, settled_gains, settled_one, use_ended, use_found, use_missing}
use Rattle.smith_validate.proofs.Opened.{equal_done, instance_done, next_opens}
use Rattle.smith_validate.proofs.Tables.{settled_sub}
use Rattle.smith_validate.proofs.instances.Exposed.goes_on.Goals as goal

pub returns-in-Some-clause-met : goal.returns-in-Some-clause-met
returns-in-Some-clause-met c = λ table last before ts on.
    let all = c.args.all.now in
    let G = IsGoal table last before in
    let us = reverse c.args.rest.now.items in
    let found = use_found (slice_get (uses_of all (number_of c.args.used)) c.args.done) c.args.done c.in-Some.next c.in-Some.more
    (c.in-Some.next, c.in-Some.more) refl (rw c.of.ensures at c.in-Some.ensures) in
    let next = next_use table all G c.args.used c.in-Some.next c.args.done us on.named found.0 on.pending in
    let pushed = reverse_push c.args.rest.now.items c.push.new.self.items (c.args.used, c.in-Some.more) (c.in_ok-push.ensures {u = tt}).items
    ∙ ap (λ k. (c.args.used, k) ∷ us) found.1 in
    c.opens.ensures.met table next.then last before ts (settled_sub table c.args.self.now on.named next.then next.grows on.settled)
    (rw c.within.ensures next.known) (rw c.within.ensures next.within)
    (rw c.within.ensures (λ met. subst (λ vs. IsPending table all G vs (named_after table (use_in c.args.used c.in-Some.next) next.then))
    (sym pushed) (next.goes_on met)))

pub returns-in_ok-insert-in-Instance-clause-met : goal.returns-in_ok-insert-in-Instance-clause-met
returns-in_ok-insert-in-Instance-clause-met c = λ table last before ts on _.
    let all = c.args.all.now in
    let G = IsGoal table last before in
    let n = c.in-Instance.number in
    let u : Use = Instance n in
    let us = reverse c.args.rest.now.items in
    let none = use_missing (slice_get (uses_of all (number_of c.args.used)) c.args.done) c.args.done (rw c.of.ensures at c.in_default.ensures) in
    let new : Exposed = record { named = c.insert.new.self; settled = c.args.self.now.settled } in
    let end = use_ended table all G u c.args.done us on.named (rw c.in-Instance.is at none) (rw c.in-Instance.is at on.pending) in
    record {
      named = end.then;
      settled = settled_one table c.args.self.now new n end.then
          (settled_gains c.args.self.now new n (c.in_ok-insert-in-Instance.ensures {u = tt}).added.only
          (λ m h. inl h))
          (settled_sub table c.args.self.now on.named end.then end.grows on.settled) end.known end.within;
      pending = end.pending;
    }

pub returns-in_ok-insert-in-Equal-clause-met : goal.returns-in_ok-insert-in-Equal-clause-met
returns-in_ok-insert-in-Equal-clause-met c = λ table last before ts on _.
    let all = c.args.all.now in
    let G = IsGoal table last before in
    let n = c.in-Equal.number in
    let u : Use = Equal n in
    let us = reverse c.args.rest.now.items in
    let none = use_missing (slice_get (uses_of all (number_of c.args.used)) c.args.done) c.args.done (rw c.of.ensures at c.in_default.ensures) in
    let new : Exposed = record { named = c.args.self.now.named; settled = c.insert-in-Equal.new.self } in
    let end = use_ended table all G u c.args.done us on.named (rw c.in-Equal.is at none) (rw c.in-Equal.is at on.pending) in
    record {
      named = end.then;
      settled = settled_one table c.args.self.now new n end.then
          (settled_gains c.args.self.now new n (λ m h. inl h)
          (c.in_ok-insert-in-Equal.ensures {u = tt}).added.only)
          (settled_sub table c.args.self.now on.named end.then end.grows on.settled) end.known end.within;
      pending = end.pending;
    }

pub returns-in-Some-clause-exact : goal.returns-in-Some-clause-exact
returns-in-Some-clause-exact c = λ table last before exact distinct on.
    let all = c.args.all.now in
    let us = reverse c.args.rest.now.items in
    let found = use_found (slice_get (uses_of all (number_of c.args.used)) c.args.done) c.args.done c.in-Some.next c.in-Some.more
    (c.in-Some.next, c.in-Some.more) refl (rw c.of.ensures at c.in-Some.ensures) in
    let next = next_opens table all exact last before c.args.self.now distinct c.args.used c.in-Some.next c.args.done us on.named found.0 on.exposed on.half in
    let pushed = reverse_push c.args.rest.now.items c.push.new.self.items (c.args.used, c.in-Some.more) (c.in_ok-push.ensures {u = tt}).items
    ∙ ap (λ k. (c.args.used, k) ∷ us) found.1 in
    let v = use_in c.args.used c.in-Some.next in
    c.opens.ensures.exact table next.named last before exact
    (subst (λ vs. IsExposed table c.args.self.now vs next.named) (sym pushed) next.exposed)
    (rw c.within.ensures (subst (λ vs. IsOpenable table c.args.self.now vs v) (sym pushed) next.openable)) (rw c.within.ensures next.met)
    (rw c.within.ensures (subst (λ vs. AreHalf table all last before c.args.self.now vs (named_after table v next.named)) (sym pushed) next.half))

pub returns-in_ok-insert-in-Instance-clause-exact : goal.returns-in_ok-insert-in-Instance-clause-exact
returns-in_ok-insert-in-Instance-clause-exact c = grind (arith, use_missing, instance_done)

pub returns-in_ok-insert-in-Equal-clause-exact : goal.returns-in_ok-insert-in-Equal-clause-exact
returns-in_ok-insert-in-Equal-clause-exact c = grind (arith, equal_done)
