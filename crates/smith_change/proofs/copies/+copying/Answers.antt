use Rattle.std.proofs.Common.{◌++◌, ap, map, sym, ◌∙◌}
use Rattle.smith_syntax.specs.Entries.{component_type, core_type_decl, defined, export_decl, function, import_decl, in_order, instance_type, type_decl}
use Rattle.smith_read.specs.TypeNodes.{shown_decl_node, shown_type_node}
use Rattle.smith_read.proofs.ShownNodes.{shown_component, shown_core, shown_declared, shown_export, shown_function, shown_import, shown_instance}
use Rattle.smith_read.proofs.ShownNodes.{shown_values}
use Rattle.smith_change.proofs.Copied.{copied_end, copied_next}
use Rattle.smith_change.proofs.copies.+copying.Goals as goal

pub copy_type-returns-in_ok-copy_defined-in-Defined : goal.copy_type-returns-in_ok-copy_defined-in-Defined
copy_type-returns-in_ok-copy_defined-in-Defined t c =
    shown_values c.in_ok-copy_defined-in-Defined.field-0 ∙ ap defined (c.in_ok-copy_defined-in-Defined.ensures {u = tt})
    ∙ sym (ap shown_type_node c.in-Defined.is ∙ shown_values c.in-Defined.ty)

pub copy_type-returns-in_ok-copy_signature-in-Func : goal.copy_type-returns-in_ok-copy_signature-in-Func
copy_type-returns-in_ok-copy_signature-in-Func t c =
    shown_function c.in_ok-copy_signature-in-Func.field-0 ∙ ap function (c.in_ok-copy_signature-in-Func.ensures {u = tt})
    ∙ sym (ap shown_type_node c.in-Func.is ∙ shown_function c.in-Func.ty)

pub copy_type-returns-in_ok-copy_declarations-in-Component : goal.copy_type-returns-in_ok-copy_declarations-in-Component
copy_type-returns-in_ok-copy_declarations-in-Component t c =
    shown_component c.in_ok-copy_declarations-in-Component.field-0
    ∙ ap (λ ds. component_type (in_order ds)) (c.in_ok-copy_declarations-in-Component.ensures {u = tt} ∙ ap (map shown_decl_node) c.deref.ensures.value)
    ∙ sym (ap shown_type_node c.in-Component.is ∙ shown_component c.in-Component.nodes)

pub copy_type-returns-in_ok-copy_declarations-in-Instance : goal.copy_type-returns-in_ok-copy_declarations-in-Instance
copy_type-returns-in_ok-copy_declarations-in-Instance t c =
    shown_instance c.in_ok-copy_declarations-in-Instance.field-0
    ∙ ap (λ ds. instance_type (in_order ds)) (c.in_ok-copy_declarations-in-Instance.ensures {u = tt}
    ∙ ap (map shown_decl_node) c.deref-in-Instance.ensures.value)
    ∙ sym (ap shown_type_node c.in-Instance.is ∙ shown_instance c.in-Instance.nodes)

pub copy_declaration-returns-in_ok-copied-in-Core : goal.copy_declaration-returns-in_ok-copied-in-Core
copy_declaration-returns-in_ok-copied-in-Core t c =
    shown_core c.in_ok-copied-in-Core.field-0 ∙ ap (λ t. core_type_decl t tt) (c.in_ok-copied-in-Core.ensures {u = tt})
    ∙ sym (ap shown_decl_node c.in-Core.is ∙ shown_core c.in-Core.ty)

pub copy_declaration-returns-in_ok-copy_type-in-Type : goal.copy_declaration-returns-in_ok-copy_type-in-Type
copy_declaration-returns-in_ok-copy_type-in-Type t c =
    shown_declared c.in_ok-copy_type-in-Type.field-0 ∙ ap type_decl (c.in_ok-copy_type-in-Type.ensures {u = tt})
    ∙ sym (ap shown_decl_node c.in-Type.is ∙ shown_declared c.in-Type.ty)

pub copy_declaration-returns-in-TypeAlias : goal.copy_declaration-returns-in-TypeAlias
copy_declaration-returns-in-TypeAlias t c = sym (ap shown_decl_node c.in-TypeAlias.is)

pub copy_declaration-returns-in-CoreTypeAlias : goal.copy_declaration-returns-in-CoreTypeAlias
copy_declaration-returns-in-CoreTypeAlias t c = sym (ap shown_decl_node c.in-CoreTypeAlias.is)

pub copy_declaration-returns-in_ok-named-in-Import : goal.copy_declaration-returns-in_ok-named-in-Import
copy_declaration-returns-in_ok-named-in-Import t c =
    shown_import c.in_ok-named-in-Import.field-0 c.in-Import.to
    ∙ ap (λ n. import_decl n tt c.in-Import.to) (c.in_ok-named-in-Import.ensures {u = tt} ∙ c.as_str.ensures.value)
    ∙ sym (ap shown_decl_node c.in-Import.is ∙ shown_import c.in-Import.name c.in-Import.to)

pub copy_declaration-returns-in_ok-named-in-Export : goal.copy_declaration-returns-in_ok-named-in-Export
copy_declaration-returns-in_ok-named-in-Export t c =
    shown_export c.in_ok-named-in-Export.field-0 c.in-Export.to
    ∙ ap (λ n. export_decl n tt c.in-Export.to) (c.in_ok-named-in-Export.ensures {u = tt} ∙ c.as_str-in-Export.ensures.value)
    ∙ sym (ap shown_decl_node c.in-Export.is ∙ shown_export c.in-Export.name c.in-Export.to)

pub copy_declarations-loop-node-init : goal.copy_declarations-loop-node-init
copy_declarations-loop-node-init t c =
    ap (λ xs. map shown_decl_node xs ++ map shown_decl_node c.args.nodes.now) c.new-copies.ensures.items

pub copy_declarations-loop-node-preserved : goal.copy_declarations-loop-node-preserved
copy_declarations-loop-node-preserved t c =
    copied_next shown_decl_node c.loop-node.copies.items c.push.new.self.items c.args.nodes.now c.loop-node.node-index c.node-item.result
    c.in_ok-copy_declaration.field-0 _ c.loop-node-test.true c.node-item.is (c.in_ok-copy_declaration.ensures {u = tt}) (c.in_ok-push.ensures {u = tt}).items
    c.loop-node.invariant

pub copy_declarations-returns : goal.copy_declarations-returns
copy_declarations-returns t c =
    copied_end shown_decl_node c.loop-node.copies.items c.args.nodes.now c.loop-node.node-index _ c.loop-node-test.false c.loop-node.invariant
