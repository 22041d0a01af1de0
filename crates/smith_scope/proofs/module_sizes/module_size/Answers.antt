use Rattle.std.proofs.Common.{arith, map}
use Rattle.smith_scope.proofs.ModuleSteps.{left_all, left_at, left_more, left_small}
use Rattle.smith_scope.proofs.module_sizes.module_size.Goals as goal

pub loop-decl-init : goal.loop-decl-init
loop-decl-init g c = grind (arith, left_all)

pub loop-decl-preserved : goal.loop-decl-preserved
loop-decl-preserved g c =
    let around = map g.C.Tree.CoreTree.plain (map g.C.CoreTyped.tree c.args.around.now) in
    let ds = c.args.decls.now in
    let i = c.loop-decl.decl-index in
    let l = left_at g.D.ModuleTree.plain around ds c.loop-decl.module i c.decl-item.result c.loop-decl-test.true c.decl-item.is c.loop-decl.invariant in
    let done = c.in_ok-add.ensures {u = tt} in
    left_more around _ _ _ _ l c.add.new.self (done.size l.fs l.own_is (left_small around _ _ _ _ l)) (done.own l.fs l.own_is)
