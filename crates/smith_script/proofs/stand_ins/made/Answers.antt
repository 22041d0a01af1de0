use Rattle.std.proofs.Common.{subst}
use Rattle.std.proofs.lemmas.Result.{IfOk-weaker}
use Rattle.smith_core.specs.StandIn.{ReadsStandIn}
use Rattle.smith_script.proofs.StandIns.{made_of}
use Rattle.smith_script.proofs.stand_ins.made.Goals as goal

pub returns-in-Ok : goal.returns-in-Ok
returns-in-Ok c =
    IfOk-weaker c.module_bytes.result _ _
    (λ r h. made_of c.args.config.now c.args.input.now c.new_internal.new.u c.in-Ok.module r
    (subst (λ z. ReadsStandIn c.args.config.now z c.in-Ok.module c.new_internal.new.u) c.new-input.ensures c.in-Ok.ensures.reads) h)
    c.module_bytes.ensures
