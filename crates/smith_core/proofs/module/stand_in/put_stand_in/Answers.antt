use Rattle.smith_format.specs.CoreTypes.{core_function}
use Rattle.smith_format.specs.Entities.{memory_type}
use Rattle.smith_format.specs.Shown.{shown_func}
use Rattle.smith_format.proofs.Steps.{due_left, ends_third, exits, exits_between, keeps_begins}
use Rattle.smith_core.specs.StandInText.{listed}
use Rattle.smith_core.proofs.Kept.{listed_shown}
use Rattle.smith_core.proofs.module.stand_in.put_stand_in.Goals as goal

pub returns-in_err-write_bytes : goal.returns-in_err-write_bytes
returns-in_err-write_bytes c =
    let d = c.in_err-write_bytes.ensures {u = tt} in exits _ _ c.from_residual.ensures.1 (keeps_begins d.0) (due_left _ d.1)

pub returns-in_err-put_listed : goal.returns-in_err-put_listed
returns-in_err-put_listed c =
    let d = c.in_err-put_listed.ensures {u = tt} in
    rw (← listed_shown 1 core_function shown_func c.args.types.now)
    (exits_between _ _ (listed 5 memory_type c.args.memories.now) c.from_residual-in_err-put_listed.ensures.1 (c.in_ok-write_bytes.ensures {u = tt}) d.0 d.1)

pub returns : goal.returns
returns c =
    rw (← listed_shown 1 core_function shown_func c.args.types.now)
    (ends_third _ _ (listed 5 memory_type c.args.memories.now) (c.in_ok-write_bytes.ensures {u = tt})
    (c.in_ok-put_listed.ensures {u = tt}) c.put_listed-2.ensures)
