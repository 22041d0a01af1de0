use Rattle.smith_script_types.proofs.Saying.{ends, gives_up, unsaid_left}
use Rattle.smith_script_types.proofs.Turns.{signature_is}
use Rattle.smith_scopes.specs.Nodes.{shown_marked}
use Rattle.smith_script_types.proofs.values.say_signature.Goals as goal

pub returns-in_err-say_members : goal.returns-in_err-say_members
returns-in_err-say_members c =
    rw (signature_is c.args.config.now (shown_marked c.args.own.now) _ c.ty.inside.params.items c.ty.inside.result c.ty.view_is)
    (gives_up _ _ _ _ c.from_residual.ensures.1 (unsaid_left _ (rw c.deref.ensures.value at (c.in_err-say_members.ensures {u = tt}))))

pub returns : goal.returns
returns c =
    rw (signature_is c.args.config.now (shown_marked c.args.own.now) _ c.ty.inside.params.items c.ty.inside.result c.ty.view_is)
    (ends c.say_result.result _ _ (rw c.deref.ensures.value at (c.in_ok-say_members.ensures {u = tt})) c.say_result.ensures)
