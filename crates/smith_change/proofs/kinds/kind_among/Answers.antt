use Rattle.std.proofs.Common.{◌≡◌, ℕ, ◌+◌, ◌-◌, ◌<◌, arith, length, sym, ◌∙◌}
use Rattle.smith_change.proofs.KindFound.{here_step, next_step}
use Rattle.smith_change.proofs.kinds.kind_among.Goals as goal

-- how many are left
left : (n i : ℕ) → i < n → n - i ≡ 1 + (n - (i + 1))
left n i lt = omega (arith, lt)

pub returns-then-step-clause-found : goal.returns-then-step-clause-found
returns-then-step-clause-found c =
    let n = length c.args.kinds.now in
    let i = c.loop-kind.kind-index in
    (here_step c.loop-kind.search c.step.new.self (n - i) (n - (i + 1)) _ _ c.step.ensures.moved
    c.loop-kind.invariant.found c.loop-kind.invariant.moved
    (left n i c.loop-kind-test.true) (sym c.step.ensures.here ∙ c.if-step.true)).0

pub returns-then-step-clause-moved : goal.returns-then-step-clause-moved
returns-then-step-clause-moved c =
    let n = length c.args.kinds.now in
    let i = c.loop-kind.kind-index in
    (here_step c.loop-kind.search c.step.new.self (n - i) (n - (i + 1)) _ _ c.step.ensures.moved
    c.loop-kind.invariant.found c.loop-kind.invariant.moved
    (left n i c.loop-kind-test.true) (sym c.step.ensures.here ∙ c.if-step.true)).1

pub loop-kind-preserved : goal.loop-kind-preserved
loop-kind-preserved c =
    let n = length c.args.kinds.now in
    let i = c.loop-kind.kind-index in
    let next = next_step c.loop-kind.search c.step.new.self (n - i) (n - (i + 1)) _ _ c.step.ensures.moved c.loop-kind.invariant.found
    c.loop-kind.invariant.moved (left n i c.loop-kind-test.true) (sym c.step.ensures.here ∙ c.if-step.false) in
    record { found = next.0; moved = next.1 }
