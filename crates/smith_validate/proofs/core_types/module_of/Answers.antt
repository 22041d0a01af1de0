use Rattle.smith_validate.specs.Modules.{entries_in}
use Rattle.smith_validate.proofs.Judging.{passed_on}
use Rattle.smith_validate.proofs.ModuleSteps.{left_at, left_exit, left_more}
use Rattle.smith_validate.proofs.core_types.module_of.Goals as goal

pub loop-decl-preserved : goal.loop-decl-preserved
loop-decl-preserved c = λ own k.
    let ds = c.args.decls.now in
    let i = c.loop-decl.decl-index in
    let l = left_at (entries_in own) ds c.loop-decl.module i c.decl-item.result c.loop-decl-test.true c.decl-item.is (c.loop-decl.invariant own k) in
    let done = c.in_ok-add.ensures {u = tt} in
    left_more (entries_in own) _ _ _ _ l c.add.new.self (done.judged l.fs l.own_is l.small) (done.grown l.fs l.own_is) (done.own own l.fs k l.own_is)

pub returns-in_err-add-clause-judged : goal.returns-in_err-add-clause-judged
returns-in_err-add-clause-judged c = λ own k.
    let ds = c.args.decls.now in
    let i = c.loop-decl.decl-index in
    let l = left_at (entries_in own) ds c.loop-decl.module i c.decl-item.result c.loop-decl-test.true c.decl-item.is (c.loop-decl.invariant own k) in
    passed_on _ _ c.from_residual.ensures.1 (left_exit (entries_in own) _ _ _ _ l ((c.in_err-add.ensures {u = tt}).judged l.fs l.own_is l.small))
