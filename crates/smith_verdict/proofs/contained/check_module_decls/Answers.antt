use Rattle.smith_check.proofs.Judging.{left_at, left_done, same_step}
use Rattle.smith_read.specs.Nodes.{shown_module_node}
use Rattle.smith_verdict.specs.Contained.{IsPlainContent, IsWithinBounds, OfModuleDecl}
use Rattle.smith_verdict.proofs.contained.check_module_decls.Goals as goal

pub loop-decl-preserved : goal.loop-decl-preserved
loop-decl-preserved c = record {
  plain = same_step c.loop-decl.invariant.plain
      (left_at (OfModuleDecl IsPlainContent) shown_module_node c.args.decls.now c.loop-decl.decl-index c.decl-item.result c.loop-decl-test.true c.decl-item.is)
      (c.in_ok-check_module_decl.ensures {u = tt}).plain;
  bounded = same_step c.loop-decl.invariant.bounded
      (left_at (OfModuleDecl IsWithinBounds) shown_module_node c.args.decls.now c.loop-decl.decl-index c.decl-item.result c.loop-decl-test.true c.decl-item.is)
      (c.in_ok-check_module_decl.ensures {u = tt}).bounded;
}

pub returns-clause-plain : goal.returns-clause-plain
returns-clause-plain c =
    c.loop-decl.invariant.plain.from (left_done (OfModuleDecl IsPlainContent) shown_module_node c.args.decls.now c.loop-decl.decl-index c.loop-decl-test.false)

pub returns-clause-bounded : goal.returns-clause-bounded
returns-clause-bounded c =
    c.loop-decl.invariant.bounded.from (left_done (OfModuleDecl IsWithinBounds) shown_module_node c.args.decls.now c.loop-decl.decl-index
    c.loop-decl-test.false)
