use Rattle.std.proofs.Common.{◌+◌}
use Rattle.smith_input.specs.Script.{script_among}
use Rattle.smith_format.specs.Equality.{same_val}
use Rattle.smith_format.specs.Limits.{configured}
use Rattle.smith_script_types.proofs.CoreTurns.{any_state}
use Rattle.smith_script_types.proofs.members.say_core_values.Goals as goal

pub returns : goal.returns
returns c =
    rw (any_state (λ x. script_among same_val (configured c.args.config.now) x)
    (λ (s : Unit {0}) x. tt) (λ count x. count + 1) 0 c.args.max 0 tt 0 c.args.items.now)
    c.say_members.ensures
