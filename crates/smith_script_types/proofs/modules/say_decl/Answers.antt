use Rattle.smith_script_types.proofs.Saying.{ends}
use Rattle.smith_script_types.proofs.modules.say_decl.Goals as goal

pub returns-in_ok-say_new_core_name-in-Import : goal.returns-in_ok-say_new_core_name-in-Import
returns-in_ok-say_new_core_name-in-Import c =
    let name = rw (c.imports_from.ensures, c.deref-in-Import.ensures, c.deref-in-Import-2.ensures) at (c.in_ok-say_new_core_name-in-Import.ensures {u = tt}) in
    rw c.in-Import.is
    (ends c.say_entity.result _ _ (c.in_ok-say_item-in-Import.ensures {u = tt})
    (ends c.say_entity.result _ _ (rw c.deref.ensures at (c.in_ok-say_core_name-in-Import.ensures {u = tt}))
    (ends c.say_entity.result _ _ name c.say_entity.ensures)))

pub returns-in_ok-say_new_core_name-in-Export : goal.returns-in_ok-say_new_core_name-in-Export
returns-in_ok-say_new_core_name-in-Export c =
    let name = rw (c.exports.ensures, c.deref-in-Export.ensures) at (c.in_ok-say_new_core_name-in-Export.ensures {u = tt}) in
    rw c.in-Export.is
    (ends c.say_entity-in-Export.result _ _ (c.in_ok-say_item-in-Export.ensures {u = tt})
    (ends c.say_entity-in-Export.result _ _ name c.say_entity-in-Export.ensures))
