use Rattle.smith_script_types.proofs.Saying.{ends, gives_up, unsaid_left}
use Rattle.smith_script.proofs.canons.say_canon.Goals as goal

pub returns-in_err-say_canon_item : goal.returns-in_err-say_canon_item
returns-in_err-say_canon_item c own = gives_up _ _ _ _ c.from_residual.ensures.1 (unsaid_left _ ((c.in_err-say_canon_item.ensures {u = tt}) own))

pub returns : goal.returns
returns c own = ends c.say_canon_rest.result _ _ ((c.in_ok-say_canon_item.ensures {u = tt}) own) (c.say_canon_rest.ensures own)
