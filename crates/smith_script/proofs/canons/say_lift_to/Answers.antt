use Rattle.std.proofs.Common.{ap, map, ◌∙◌, Some}
use Rattle.smith_scope.proofs.Ascending.{ascend_as}
use Rattle.smith_read.proofs.ShownNodes.{shown_function}
use Rattle.smith_read.specs.TypeNodes.{shown_type_node}
use Rattle.smith_syntax.specs.HasSignature.{is_of_signature}
use Rattle.smith_script_types.proofs.Saying.{ends, gives_up, unsaid_left}
use Rattle.smith_script.proofs.canons.say_lift_to.Goals as goal

pub returns-in_err-say_signature-in-Func : goal.returns-in_err-say_signature-in-Func
returns-in_err-say_signature-in-Func c own =
    rw (ap shown_type_node c.in-Func.is ∙ shown_function c.in-Func.signature)
    (gives_up _ _ _ _ c.from_residual.ensures.1 (unsaid_left _ (c.in_err-say_signature-in-Func.ensures {u = tt})))

pub returns-in_ok-say_signature-in-Func : goal.returns-in_ok-say_signature-in-Func
returns-in_ok-say_signature-in-Func c own =
    let is = ap shown_type_node c.in-Func.is ∙ shown_function c.in-Func.signature in
    rw is (ends c.say_position.result _ _ (c.in_ok-say_signature-in-Func.ensures {u = tt})
    (rw (c.equals.ensures c.in-Func.signature (c.requires.at ∙ ap Some is)) at c.say_position.ensures))

pub say_position-requires : goal.say_position-requires
say_position-requires c =
    ascend_as (is_of_signature c.in-Func.signature) (map shown_type_node c.args.here.now.types) _
    (c.equals.ensures c.in-Func.signature (c.requires.at ∙ ap Some (ap shown_type_node c.in-Func.is ∙ shown_function c.in-Func.signature)))
