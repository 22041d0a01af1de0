use Rattle.std.proofs.Common.{◌++◌, [], ◌∷◌, ap, ◌∙◌}
use Rattle.smith_format.specs.Shown.{shown_func}
use Rattle.smith_types.specs.MakingCore.{shown_funcs}
use Rattle.smith_syntax.specs.declared.core_types.ModuleTypeDef.TheVariants as decl
use Rattle.smith_types.proofs.MakingCore.{keep_more}
use Rattle.smith_scopes.proofs.Plain.{pushed}
use Rattle.smith_types.proofs.core_types.declared.declare.Goals as goal

pub returns-clause-kept : goal.returns-clause-kept
returns-clause-kept c around k =
    let old = c.args.declared.now in
    let own = shown_funcs old.own.items in
    let owns = pushed (λ t. shown_func t.value) old.own.items c.push.new.self.items c.in_ok-shared.shared c.in_ok-push.ensures.items
    ∙ ap (λ t. own ++ shown_func t ∷ []) c.in_ok-shared.ensures.cases in
    keep_more around own _ old.counted.defs.items _ (decl.FuncDef c.args.ty) k tt owns c.in_ok-push-2.ensures.items
