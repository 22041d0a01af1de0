use Rattle.std.proofs.Common.{◌≡◌, List, Some, subst, ◌++◌, [], ◌∷◌, ap, sym, ◌∙◌, refl, ◌-◌}
use Rattle.smith_format.specs.Shown.{shown_func}
use Rattle.smith_input.specs.Choices.{ReadsAmong}
use Rattle.smith_syntax.specs.Entries.{aliases}
use Rattle.smith_types.specs.MakingCore.{choices_among, shown_funcs}
use Rattle.smith_syntax.specs.ModuleTypes.{aliased}
use Rattle.smith_syntax.specs.Places.{own_of}
use Rattle.smith_scopes.specs.Scopes.{inward}
use Rattle.smith_syntax.specs.Shown.{shown_decl}
use Rattle.smith_syntax.specs.declared.core_types.ModuleTypeDef.TheVariants as decl
use Rattle.smith_types.proofs.MakingCore.{keep_more, alias_adds, same_state}
use Rattle.smith_scopes.proofs.Plain.{pushed}
use Rattle.smith_types.proofs.core_types.aliases.add_alias.Goals as goal

pub returns-clause-adds : goal.returns-clause-adds
returns-clause-adds c config fuel =
    let a = c.in_ok-count in
    let old = c.args.declared.now in
    let N : List _ → Type 0 = λ own. aliased (own_of (inward c.args.scopes.now)).core_types (shown_funcs own) a.count a.i ≡ Some (shown_func a.ty.value) in
    let R : List _ → Type 0 = λ own. ReadsAmong (choices_among (own_of (inward c.args.scopes.now)) (shown_funcs own)) c.args.u.now (a.count, a.i)
    c.read_alias.new.u in
    let kept = c.deref.ensures.value in
    let one = alias_adds (own_of (inward c.args.scopes.now)).core_types (shown_funcs old.own.items) a.count a.i (shown_func a.ty.value)
    (subst N kept a.ensures.named) in
    let own = pushed (λ t. shown_func t.value) old.own.items c.push.new.self.items c.in_ok-clone.field-0 c.in_ok-push.ensures.items
    ∙ ap (λ f. shown_funcs old.own.items ++ f ∷ []) (ap shown_func c.in_ok-clone.ensures.cases)
    ∙ ap (λ fs. shown_funcs old.own.items ++ fs) (sym one) in
    let decls = pushed shown_decl old.counted.defs.items c.push-2.new.self.defs.items _ c.in_ok-push-2.ensures.items in
    (aliases a.count a.i, ((a.count, a.i), subst R kept a.ensures.reads, refl), same_state (fuel - 1) (fuel - 1) own decls refl)

pub returns-clause-kept : goal.returns-clause-kept
returns-clause-kept c k =
    let a = c.in_ok-count in
    let old = c.args.declared.now in
    let own = shown_funcs old.own.items in
    let N : List _ → Type 0 = λ own. aliased (own_of (inward c.args.scopes.now)).core_types (shown_funcs own) a.count a.i ≡ Some (shown_func a.ty.value) in
    let named = subst N c.deref.ensures.value a.ensures.named in
    let owns = pushed (λ t. shown_func t.value) old.own.items c.push.new.self.items c.in_ok-clone.field-0 c.in_ok-push.ensures.items
    ∙ ap (λ f. own ++ f ∷ []) (ap shown_func c.in_ok-clone.ensures.cases)
    ∙ ap (λ fs. own ++ fs) (sym (alias_adds (own_of (inward c.args.scopes.now)).core_types own a.count a.i (shown_func a.ty.value) named)) in
    keep_more (own_of (inward c.args.scopes.now)).core_types own _ old.counted.defs.items _ (decl.OuterAlias a.count a.i a.ty) k named owns
    c.in_ok-push-2.ensures.items
