use Rattle.std.proofs.Common.{ap, arith, length}
use Rattle.std.proofs.lemmas.List.{length-map}
use Rattle.smith_types.proofs.MakingCore.{choices_count}
use Rattle.smith_format.specs.Shown.{shown_func}
use Rattle.smith_script_types.specs.Places.{so_far}
use Rattle.smith_script_types.specs.Places.{plain_at}
use Rattle.smith_script_types.proofs.modules.alias_count.Goals as goal

pub returns : goal.returns
returns c =
    rw (choices_count (plain_at c.args.place) (so_far c.args.declared.now).own, length-map c.args.declared.now.tables.own.items (λ f. shown_func f.now))
    (omega (arith, ap length c.places.ensures.places, c.len.ensures))
