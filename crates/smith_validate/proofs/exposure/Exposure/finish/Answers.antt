use Rattle.std.proofs.Common.{◌≡◌, [], arith, refl}
use Rattle.std.proofs.lemmas.List.{nil_from_length}
use Rattle.smith_validate.specs.declared.exposure.Exposure.{Exposure}
use Rattle.smith_validate.proofs.Deferring.{exposure_whole, settled_add, exposure_add, settled_as}
use Rattle.smith_validate.proofs.exposure.Exposure.finish.Goals as goal

pub loop-preserved : goal.loop-preserved
loop-preserved c =
    let all = c.args.all.now in
    let n = c.in-Some.number in
    let old = c.loop.self in
    let mid : Exposure = record { exposed = old.exposed; later = c.pop.new.self } in
    let new = c.add_uses.new.self in
    let popped = c.in-Some.ensures.items in
    let a = c.in_ok-add_uses.ensures {u = tt} in
    record {
      settled = λ table named ts s. settled_add table all old mid new n named ts (c.loop.invariant.settled table named ts s) refl popped a;
      exposed = λ table named exact distinct x.
          exposure_add table all exact distinct old mid new n named (c.loop.invariant.exposed table named exact distinct x) refl popped a;
      more = λ m h. a.more m (c.loop.invariant.more m h);
    }

pub returns-in_default-clause-settled : goal.returns-in_default-clause-settled
returns-in_default-clause-settled c = λ table named ts s.
    let old = c.loop.self in
    let none : old.later.items ≡ [] = nil_from_length old.later.items (omega (arith, c.in_default.ensures.cases.0, old.later.ok.0)) in
    let new : Exposure = record { exposed = old.exposed; later = c.pop.new.self } in
    settled_as table old new named refl (grind arith) (c.loop.invariant.settled table named ts s)

pub returns-in_default-clause-exposed : goal.returns-in_default-clause-exposed
returns-in_default-clause-exposed c = λ table named exact distinct x.
    let old = c.loop.self in
    let none : old.later.items ≡ [] = nil_from_length old.later.items (omega (arith, c.in_default.ensures.cases.0, old.later.ok.0)) in
    exposure_whole table old named none (c.loop.invariant.exposed table named exact distinct x)
