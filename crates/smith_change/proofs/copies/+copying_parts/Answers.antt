use Rattle.std.proofs.Common.{◌++◌, ap, map, sym, ◌∙◌}
use Rattle.std.specs.Prelude.{string_bytes}
use Rattle.smith_tree.specs.Shown.{shown_canon, shown_export}
use Rattle.smith_tree.specs.Tree.{canons, component, core_module, core_types, custom, exports, imports, tree_of, types}
use Rattle.smith_read.specs.Nodes.{shown_core_node}
use Rattle.smith_read.specs.PartNodes.{shown_import_node, shown_part_node}
use Rattle.smith_read.specs.TypeNodes.{shown_type_node}
use Rattle.smith_read.proofs.PartNodes.{shown_canons, shown_core_types, shown_custom, shown_exports, shown_imports, shown_module, shown_nested}
use Rattle.smith_read.proofs.PartNodes.{shown_types}
use Rattle.smith_change.proofs.Copied.{copied_end, copied_next}
use Rattle.smith_change.proofs.copies.+copying_parts.Goals as goal

pub copy_part-returns-in_ok-bytes-in-Custom : goal.copy_part-returns-in_ok-bytes-in-Custom
copy_part-returns-in_ok-bytes-in-Custom t c =
    let section = c.in-Custom.section in
    let name = c.in_ok-name-in-Custom.ensures {u = tt} ∙ c.as_str.ensures.value in
    let bytes = (c.in_ok-bytes-in-Custom.ensures {u = tt}).items ∙ c.deref.ensures.value in
    shown_custom (record { name = c.in_ok-name-in-Custom.name; bytes = c.in_ok-bytes-in-Custom.bytes })
    ∙ ap (λ n. custom n c.in_ok-bytes-in-Custom.bytes.items) name ∙ ap (custom (string_bytes section.name)) bytes
    ∙ sym (ap shown_part_node c.in-Custom.is ∙ shown_custom section)

pub copy_part-returns-in_ok-from_slice-in-CoreModule : goal.copy_part-returns-in_ok-from_slice-in-CoreModule
copy_part-returns-in_ok-from_slice-in-CoreModule t c =
    shown_module c.in_ok-from_slice-in-CoreModule.field-0
    ∙ ap core_module ((c.in_ok-from_slice-in-CoreModule.ensures {u = tt}).items ∙ c.deref-in-CoreModule.ensures.value)
    ∙ sym (ap shown_part_node c.in-CoreModule.is ∙ shown_module c.in-CoreModule.text)

pub copy_part-returns-in_ok-copied_all-in-CoreTypes : goal.copy_part-returns-in_ok-copied_all-in-CoreTypes
copy_part-returns-in_ok-copied_all-in-CoreTypes t c =
    shown_core_types c.in_ok-copied_all-in-CoreTypes.field-0 ∙ ap core_types (c.in_ok-copied_all-in-CoreTypes.ensures {u = tt}
    ∙ ap (map shown_core_node) c.deref-in-CoreTypes.ensures.value)
    ∙ sym (ap shown_part_node c.in-CoreTypes.is ∙ shown_core_types c.in-CoreTypes.entries)

pub copy_part-returns-in_ok-copied_all-in-Types : goal.copy_part-returns-in_ok-copied_all-in-Types
copy_part-returns-in_ok-copied_all-in-Types t c =
    shown_types c.in_ok-copied_all-in-Types.field-0 ∙ ap types (c.in_ok-copied_all-in-Types.ensures {u = tt}
    ∙ ap (map shown_type_node) c.deref-in-Types.ensures.value)
    ∙ sym (ap shown_part_node c.in-Types.is ∙ shown_types c.in-Types.entries)

pub copy_part-returns-in_ok-copied_all-in-Canons : goal.copy_part-returns-in_ok-copied_all-in-Canons
copy_part-returns-in_ok-copied_all-in-Canons t c =
    shown_canons c.in_ok-copied_all-in-Canons.field-0 ∙ ap canons (c.in_ok-copied_all-in-Canons.ensures {u = tt}
    ∙ ap (map shown_canon) c.deref-in-Canons.ensures.value)
    ∙ sym (ap shown_part_node c.in-Canons.is ∙ shown_canons c.in-Canons.entries)

pub copy_part-returns-in_ok-copied_all-in-Imports : goal.copy_part-returns-in_ok-copied_all-in-Imports
copy_part-returns-in_ok-copied_all-in-Imports t c =
    shown_imports c.in_ok-copied_all-in-Imports.field-0 ∙ ap imports (c.in_ok-copied_all-in-Imports.ensures {u = tt}
    ∙ ap (map shown_import_node) c.deref-in-Imports.ensures.value)
    ∙ sym (ap shown_part_node c.in-Imports.is ∙ shown_imports c.in-Imports.entries)

pub copy_part-returns-in_ok-copied_all-in-Exports : goal.copy_part-returns-in_ok-copied_all-in-Exports
copy_part-returns-in_ok-copied_all-in-Exports t c =
    shown_exports c.in_ok-copied_all-in-Exports.field-0 ∙ ap exports (c.in_ok-copied_all-in-Exports.ensures {u = tt}
    ∙ ap (map shown_export) c.deref-in-Exports.ensures.value)
    ∙ sym (ap shown_part_node c.in-Exports.is ∙ shown_exports c.in-Exports.entries)

pub copy_part-returns-in_ok-copy_parts-in-Component : goal.copy_part-returns-in_ok-copy_parts-in-Component
copy_part-returns-in_ok-copy_parts-in-Component t c =
    shown_nested c.in_ok-copy_parts-in-Component.field-0
    ∙ ap (λ ps. component (tree_of ps)) (c.in_ok-copy_parts-in-Component.ensures {u = tt} ∙ ap (map shown_part_node) c.deref-in-Component.ensures.value)
    ∙ sym (ap shown_part_node c.in-Component.is ∙ shown_nested c.in-Component.nodes)

pub copy_parts-loop-node-init : goal.copy_parts-loop-node-init
copy_parts-loop-node-init t c =
    ap (λ xs. map shown_part_node xs ++ map shown_part_node c.args.nodes.now) c.new-copies.ensures.items

pub copy_parts-loop-node-preserved : goal.copy_parts-loop-node-preserved
copy_parts-loop-node-preserved t c =
    copied_next shown_part_node c.loop-node.copies.items c.push.new.self.items c.args.nodes.now c.loop-node.node-index c.node-item.result
    c.in_ok-copy_part.field-0 _ c.loop-node-test.true c.node-item.is (c.in_ok-copy_part.ensures {u = tt}) (c.in_ok-push.ensures {u = tt}).items
    c.loop-node.invariant

pub copy_parts-returns : goal.copy_parts-returns
copy_parts-returns t c =
    copied_end shown_part_node c.loop-node.copies.items c.args.nodes.now c.loop-node.node-index _ c.loop-node-test.false c.loop-node.invariant
