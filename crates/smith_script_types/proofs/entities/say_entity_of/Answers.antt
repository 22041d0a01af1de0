use Rattle.std.proofs.Common.{◌≡◌, arith, length}
use Rattle.std.proofs.lemmas.List.{length-map}
use Rattle.smith_format.specs.Shown.{shown_func}
use Rattle.smith_syntax.specs.ModuleTypes.{is_tag_type}
use Rattle.smith_script_types.proofs.Ranks.{index_among, places_rise}
use Rattle.smith_script_types.specs.Places.{so_far}
use Rattle.smith_script_types.specs.Tables.{functions_in}
use Rattle.smith_script_types.proofs.entities.say_entity_of.Goals as goal

pub say_position-requires : goal.say_position-requires
say_position-requires c = rw (c.deref.ensures.value, c.args.declared.now.kept.tags) (places_rise is_tag_type 0 (so_far c.args.declared.now).own)

pub returns-in-Func : goal.returns-in-Func
returns-in-Func c =
    let own = c.args.declared.now.tables.own.items in
    let count : length own ≡ c.len.result = omega (arith, c.len.ensures) in
    rw (c.in-Func.is, index_among (functions_in own) c.in-Func.index, length-map own (λ f. shown_func f.now), count) c.say_index.ensures
