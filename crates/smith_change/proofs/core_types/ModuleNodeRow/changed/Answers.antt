use Rattle.std.proofs.Common.{◌≡◌, ℕ, Option, ap, subst, sym}
use Rattle.std.specs.Option.{option_map}
use Rattle.smith_format.specs.Shown.{shown_func}
use Rattle.smith_syntax.specs.Entries.{ModuleDecl, declares}
use Rattle.smith_read.specs.Nodes.{shown_module_node}
use Rattle.smith_read.specs.Search.{past, sought}
use Rattle.smith_read.specs.declared.core_types.ModuleNode.{ModuleNode}
use Rattle.smith_read.specs.declared.search.Search.{Search}
use Rattle.smith_change.specs.CoreTypes.{function_changed, function_places, module_decl_changed, module_decl_places}
use Rattle.smith_change.proofs.Seeking.{found_made, made_of_some}
use Rattle.smith_change.proofs.core_types.ModuleNodeRow.changed.Goals as goal

-- what is found of a declaration
abbrev Found : ModuleDecl → Option ModuleNode → Search → ℕ → Type 0
Found d r s a = option_map shown_module_node r ≡ sought (module_decl_places d) s (λ k. module_decl_changed a k d) d

pub returns-in_ok-change_function-in-Func-clause-entry : goal.returns-in_ok-change_function-in-Func-clause-entry
returns-in_ok-change_function-in-Func-clause-entry c =
    let s = c.args.search.now in
    let a = c.args.change.alternative in
    let f = shown_func c.in-Func.ty in
    subst (λ d. Found d c.map.result s a) (sym (ap shown_module_node c.in-Func.is))
    (found_made shown_module_node declares shown_func _ (λ v r e. ap shown_module_node e) (function_places f) (λ k. function_changed a k f) f s
    c.in_ok-change_function-in-Func.field-0 c.map.result c.map.ensures.cases (c.in_ok-change_function-in-Func.ensures {u = tt}).ty)

pub returns-in_ok-change_function-in-Func-clause-moved : goal.returns-in_ok-change_function-in-Func-clause-moved
returns-in_ok-change_function-in-Func-clause-moved c = λ there.
    subst (λ d. c.change_function.new.search ≡ past (module_decl_places d) c.args.search.now) (sym (ap shown_module_node c.in-Func.is))
    ((c.in_ok-change_function-in-Func.ensures {u = tt}).moved (made_of_some _ c.in_ok-change_function-in-Func.field-0 c.map.result c.map.ensures.cases there))

pub returns-in-OuterAlias-clause-moved : goal.returns-in-OuterAlias-clause-moved
returns-in-OuterAlias-clause-moved c = λ there.
    subst (λ d. c.change_outer-outer.new.search ≡ past (module_decl_places d) c.args.search.now) (sym (ap shown_module_node c.in-OuterAlias.is))
    c.change_outer-outer.ensures.moved

pub returns-in_ok-name-in-Import-clause-moved : goal.returns-in_ok-name-in-Import-clause-moved
returns-in_ok-name-in-Import-clause-moved c = λ there.
    subst (λ d. c.change_entity-entity.new.search ≡ past (module_decl_places d) c.args.search.now) (sym (ap shown_module_node c.in-Import.is))
    (c.change_entity-entity.ensures.moved (made_of_some _ c.change_entity-entity.result c.map-in-Import.result c.map-in-Import.ensures.cases there))

pub returns-in_ok-name-in-Export-clause-moved : goal.returns-in_ok-name-in-Export-clause-moved
returns-in_ok-name-in-Export-clause-moved c = λ there.
    subst (λ d. c.change_entity-entity-in-Export.new.search ≡ past (module_decl_places d) c.args.search.now) (sym (ap shown_module_node c.in-Export.is))
    (c.change_entity-entity-in-Export.ensures.moved (made_of_some _ c.change_entity-entity-in-Export.result c.map-in-Export.result
    c.map-in-Export.ensures.cases there))
