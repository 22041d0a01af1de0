use Rattle.std.proofs.Common.{ap, sym, ◌∙◌}
use Rattle.std.specs.Prelude.{string_bytes}
use Rattle.smith_syntax.specs.Entries.{declares, exports, imports}
use Rattle.smith_read.specs.Nodes.{shown_module_node}
use Rattle.smith_change.proofs.core_types.ModuleNodeEntry.copied.Goals as goal

pub returns-in_ok-copy_function-in-Func : goal.returns-in_ok-copy_function-in-Func
returns-in_ok-copy_function-in-Func c =
    ap declares (c.in_ok-copy_function-in-Func.ensures {u = tt}) ∙ sym (ap shown_module_node c.in-Func.is)

pub returns-in_ok-named-in-Import-2 : goal.returns-in_ok-named-in-Import-2
returns-in_ok-named-in-Import-2 c =
    let first = c.in_ok-named-in-Import.ensures {u = tt} ∙ c.as_str.ensures.value in
    let second = c.in_ok-named-in-Import-2.ensures {u = tt} ∙ c.as_str-in-Import.ensures.value in
    ap (λ m. imports m (string_bytes c.in_ok-named-in-Import-2.field-0) c.in-Import.entity) first
    ∙ ap (λ n. imports (string_bytes c.in-Import.module) n c.in-Import.entity) second ∙ sym (ap shown_module_node c.in-Import.is)

pub returns-in-OuterAlias : goal.returns-in-OuterAlias
returns-in-OuterAlias c = sym (ap shown_module_node c.in-OuterAlias.is)

pub returns-in_ok-named-in-Export : goal.returns-in_ok-named-in-Export
returns-in_ok-named-in-Export c =
    ap (λ n. exports n c.in-Export.entity) (c.in_ok-named-in-Export.ensures {u = tt} ∙ c.as_str-in-Export.ensures.value)
    ∙ sym (ap shown_module_node c.in-Export.is)
