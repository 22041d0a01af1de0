use Rattle.std.proofs.Common.{◌∙◌}
use Rattle.smith_types.proofs.Declaring.{equal_stands, equal_added}
use Rattle.smith_types.proofs.make.declarations.add_exported.Goals as goal

pub get-requires-clause-entry : goal.get-requires-clause-entry
get-requires-clause-entry c = equal_stands _ _ c.args.ty c.note_export.ensures c.in-TypeEq.i c.in-TypeEq.is c.requires.formed

pub returns-in_ok-push_marked-clause-own : goal.returns-in_ok-push_marked-clause-own
returns-in_ok-push_marked-clause-own c =
    equal_added _ _ c.args.ty c.note_export.ensures c.in-TypeEq.i c.in-TypeEq.is _ _ _ _ c.in_ok-push_marked.ensures.ok c.in_ok-entry.ensures.cases
    c.get.ensures.value
    c.equal_mark-mark.ensures
