use Rattle.std.proofs.Common.{true, sym, subst, ◌-◌}
use Rattle.smith_types.specs.MakingCore.{AddsDecl, so_far}
use Rattle.smith_syntax.specs.Places.{own_of}
use Rattle.smith_scopes.specs.Scopes.{inward}
use Rattle.smith_tree.specs.declared.choices.ModuleItem.{ModuleItem}
use Rattle.smith_types.proofs.core_types.module_types.add_of.Goals as goal

pub returns-in_ok-add_alias-in-Alias-clause-adds : goal.returns-in_ok-add_alias-in-Alias-clause-adds
returns-in_ok-add_alias-in-Alias-clause-adds c fuel =
    let A : ModuleItem → Type 0 = λ i. AddsDecl c.args.making.now.config.now (own_of (inward c.args.scopes.now)) (so_far c.args.declared.now fuel) i
    c.args.u.now true c.add_alias.new.u (so_far c.add_alias.new.declared (fuel - 1)) in
    subst A (sym c.in-Alias.is) (c.in_ok-add_alias-in-Alias.ensures.adds c.args.making.now.config.now fuel)
