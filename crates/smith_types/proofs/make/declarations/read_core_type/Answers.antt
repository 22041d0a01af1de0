use Rattle.std.proofs.Common.{◌≡◌, arith, ap, map, ◌∙◌, subst}
use Rattle.smith_syntax.specs.Entries.{core_type_decl, keeps_functions}
use Rattle.smith_syntax.specs.Scope.{Scope}
use Rattle.smith_syntax.specs.Shown.{shown_core}
use Rattle.smith_syntax.specs.Sizes.{capped, module_type_size}
use Rattle.smith_scopes.specs.Scopes.{last_of}
use Rattle.smith_syntax.proofs.Shown.{instance_core_decl}
use Rattle.smith_types.specs.MadeCore.{MadeCore}
use Rattle.smith_types.specs.MakingCore.{KeepsAliased}
use Rattle.smith_types.proofs.MakingCore.{kept_core_named}
use Rattle.smith_scopes.proofs.Stack.{own_scope_is}
use Rattle.smith_types.proofs.Declaring.{core_type_declared, length-last_core_types, same_changed}
use Rattle.smith_types.proofs.make.declarations.read_core_type.Goals as goal

pub push_sized-requires : goal.push_sized-requires
push_sized-requires c = omega (arith, length-last_core_types c.args.scopes.now, c.requires.room)

pub returns-clause-made : goal.returns-clause-made
returns-clause-made c =
    let ty = c.in_ok-ty.ty.value in
    let own = own_scope_is c.args.scopes.now in
    let Made : Scope → Type 0 = λ s. MadeCore c.args.making.now.config.now s c.args.u.now c.args.fuel.now (shown_core ty) c.arbitrary_core_type.new.u
    c.arbitrary_core_type.new.fuel in (
      shown_core ty,
      subst Made own c.in_ok-ty.ensures.made.made,
      instance_core_decl c.in_ok-ty.ty ∙ ap (λ fs. core_type_decl (shown_core ty) (keeps_functions fs))
          (kept_core_named _ ty (subst (λ s. KeepsAliased s.core_types ty) own c.in_ok-ty.ensures.made.kept)),
    )

pub returns-clause-scopes : goal.returns-clause-scopes
returns-clause-scopes c =
    let own = (last_of c.args.scopes.now).core_types in
    let there : c.deref.result.now ≡ c.in_ok-ty.ty.value = cc in
    let declared =
    core_type_declared _ _ _ c.in_ok-ty.ty.value _ _ _ c.in_ok-push_sized.ensures.ok c.in_ok-entry.ensures.cases (instance_core_decl c.in_ok-ty.ty)
    (λ keeps. c.in_ok-size.ensures keeps ∙ ap (λ t. capped (module_type_size (map shown_core own) (shown_core t))) there) in
    record { declares = declared; outer = same_changed c.in_ok-push_sized.ensures.ok }
