use Rattle.std.proofs.Common.{[], sym, subst}
use Rattle.smith_validate.specs.Deferring.{AreSettled, IsExposure}
use Rattle.smith_validate.specs.Opening.{IsOpenable}
use Rattle.smith_validate.specs.declared.exposure.Exposure.{Exposure}
use Rattle.smith_validate.proofs.Deferring.{found_whole, ok_then, openable_more, settled_whole}
use Rattle.smith_validate.proofs.exposure.Exposure.meets.Goals as goal

pub returns-then-branch-clause-met : goal.returns-then-branch-clause-met
returns-then-branch-clause-met c = λ table named ts s h w _. (c.in_ok-meets_at_once.ensures {u = tt}).met table named ts s h w c.if-branch.true

pub returns-then-branch-clause-exact : goal.returns-then-branch-clause-exact
returns-then-branch-clause-exact c = λ table named exact distinct x o.
    (c.in_ok-meets_at_once.ensures {u = tt}).exact table named x o c.if-branch.true

pub returns-clause-met : goal.returns-clause-met
returns-clause-met c = λ table named ts s h w.
    let e : Exposure = record { exposed = c.meets.new.self; later = c.finish.new.self.later } in
    let same = (c.in_ok-meets_at_once.ensures {u = tt}).same c.if-branch.false in
    let finish = c.in_ok-finish.ensures {u = tt} in
    let settled = finish.settled table named ts (subst (λ x. AreSettled table x named) (sym same) s) in
    ok_then c.meets.result (λ is m y. settled_whole table e finish.later c.args.used named (m y)) (c.meets.ensures.met table named ts settled.settled h w)

pub returns-clause-exact : goal.returns-clause-exact
returns-clause-exact c = λ table named exact distinct x o.
    let e : Exposure = record { exposed = c.meets.new.self; later = c.finish.new.self.later } in
    let same = (c.in_ok-meets_at_once.ensures {u = tt}).same c.if-branch.false in
    let finish = c.in_ok-finish.ensures {u = tt} in
    let was = subst (λ y. IsExposure table y named) (sym same) x in
    let open_still = subst (λ y. IsOpenable table y.exposed [] c.args.used) (sym same) o in
    ok_then c.meets.result (found_whole table e finish.later c.args.used named)
    (c.meets.ensures.exact table named exact distinct (finish.exposed table named exact distinct was)
    (openable_more table c.meets_at_once.new.self.exposed c.finish.new.self.exposed c.args.used finish.more open_still))
