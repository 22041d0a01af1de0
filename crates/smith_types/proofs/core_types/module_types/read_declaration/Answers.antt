use Rattle.std.proofs.lemmas.Result.{IfOk-weaker}
use Rattle.smith_types.specs.MakingCore.{so_far}
use Rattle.smith_syntax.specs.Places.{own_of}
use Rattle.smith_scopes.specs.Scopes.{inward}
use Rattle.smith_types.proofs.MakingCore.{turns_of}
use Rattle.smith_types.proofs.core_types.module_types.read_declaration.Goals as goal

pub returns-clause-turns : goal.returns-clause-turns
returns-clause-turns c fuel lasts =
    IfOk-weaker c.add_of.result _ _
    (λ b a. turns_of c.args.making.now.config.now (own_of (inward c.args.scopes.now)) (so_far c.args.declared.now fuel) c.module_item-item.result c.args.u.now
    c.module_item-item.new.u _ _ lasts c.module_item-item.ensures.reads b a)
    (c.add_of.ensures.adds fuel)
