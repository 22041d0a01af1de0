use Rattle.std.proofs.Common.{arith}
use Rattle.smith_types.proofs.Declaring.{same_changed, type_alias_declared, core_type_alias_declared, length-last_types, length-last_core_types}
use Rattle.smith_types.proofs.make.declarations.add_aliased.Goals as goal

pub push_marked-requires : goal.push_marked-requires
push_marked-requires c = omega (arith, length-last_types c.args.scopes.now, c.requires.few.types)

pub push_sized-requires : goal.push_sized-requires
push_sized-requires c = omega (arith, length-last_core_types c.args.scopes.now, c.requires.few.core_types)

pub returns-in_ok-push_marked-in-OfType-clause-scopes : goal.returns-in_ok-push_marked-in-OfType-clause-scopes
returns-in_ok-push_marked-in-OfType-clause-scopes c = record {
  declares = type_alias_declared _ _ c.args.alias.now c.requires.scope c.requires.named c.in-OfType.ty _ _ c.in_ok-push_marked-in-OfType.ensures.ok
      c.in_ok-entry-in-OfType.ensures.cases c.in-OfType.is c.aliased_mark-mark.ensures;
  outer = same_changed c.in_ok-push_marked-in-OfType.ensures.ok;
}

pub returns-in_ok-push_sized-in-OfCoreType-clause-scopes : goal.returns-in_ok-push_sized-in-OfCoreType-clause-scopes
returns-in_ok-push_sized-in-OfCoreType-clause-scopes c = record {
  declares = core_type_alias_declared _ _ c.args.alias.now c.requires.scope c.requires.named c.in-OfCoreType.ty _ _ c.in_ok-push_sized-in-OfCoreType.ensures.ok
      c.in_ok-entry-in-OfCoreType.ensures.cases c.in-OfCoreType.is c.core_size_at-size.ensures.value;
  outer = same_changed c.in_ok-push_sized-in-OfCoreType.ensures.ok;
}
