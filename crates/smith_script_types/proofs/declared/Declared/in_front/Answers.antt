use Rattle.std.proofs.Common.{sym}
use Rattle.smith_script_types.proofs.TableSteps.{front_kept, shown_more}
use Rattle.smith_script_types.proofs.declared.Declared.in_front.Goals as goal

pub loop-decl-preserved : goal.loop-decl-preserved
loop-decl-preserved c =
    rw (sym (shown_more c.args.decls.now c.loop-decl.decl-index c.decl-item.result c.loop-decl-test.true c.decl-item.is))
    (front_kept _ _ _ c.declared_type.ensures ((c.in_ok-add.ensures {u = tt}).added _ _ c.loop-decl.invariant))
