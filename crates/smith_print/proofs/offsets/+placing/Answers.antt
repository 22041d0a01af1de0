use Rattle.std.proofs.Common.{◌∷◌, ◌+◌, ◌-◌, [], ap, length, map, refl}
use Rattle.std.specs.Prelude.{string_bytes}
use Rattle.smith_format.specs.Piece.{bytes}
use Rattle.smith_syntax.specs.Grammar.{core_entry, entry, import_entry}
use Rattle.smith_tree.specs.Grammar.{canon, export_entry, preamble}
use Rattle.smith_tree.specs.Shown.{shown_canon, shown_export}
use Rattle.smith_tree.specs.Tree.{canons, component, core_module, core_types, custom, exports, imports, types}
use Rattle.smith_read.specs.Nodes.{shown_core_node}
use Rattle.smith_read.specs.PartNodes.{shown_import_node}
use Rattle.smith_read.specs.TypeNodes.{shown_type_node}
use Rattle.smith_read.proofs.PartNodes.{shown_canons, shown_core_types, shown_custom, shown_exports, shown_imports, shown_module, shown_nested, shown_types}
use Rattle.smith_print.specs.Offsets.{parts_at}
use Rattle.smith_print.proofs.Placing.{inside, inside_at, inside_begins, inside_contents, inside_fits, parts_done, parts_first, parts_next}
use Rattle.smith_print.proofs.Placing.{placed_behind, placed_list, placed_same}
use Rattle.smith_print.proofs.Sections.{held}
use Rattle.smith_print.proofs.offsets.+placing.Goals as goal

pub place_part-returns-in-Custom : goal.place_part-returns-in-Custom
place_part-returns-in-Custom t c =
    rw (c.in-Custom.is, shown_custom c.in-Custom.field-0) (λ rest e fits.
    let i = inside (custom (string_bytes c.in-Custom.field-0.name) c.in-Custom.field-0.bytes.items) c.args.bytes.now rest _ c.in_ok-size.contents.now _ _
    (c.in_ok-_id.ensures {u = tt}) (c.in_ok-size.ensures {u = tt}) e in
    placed_same c.place_one.result rest _ _ (ap (λ k. k ∷ []) (inside_at c.args.total i fits))
    (c.place_one.ensures rest i.contents i.size (inside_contents i)))

pub place_part-returns-in-CoreModule : goal.place_part-returns-in-CoreModule
place_part-returns-in-CoreModule t c =
    rw (c.in-CoreModule.is, shown_module c.in-CoreModule.field-0) (λ rest e fits.
    let i = inside (core_module c.in-CoreModule.field-0.items) c.args.bytes.now rest _ c.in_ok-size.contents.now _ _
    (c.in_ok-_id.ensures {u = tt}) (c.in_ok-size.ensures {u = tt}) e in
    placed_same c.place_one-in-CoreModule.result rest _ _ (ap (λ k. k ∷ []) (inside_at c.args.total i fits))
    (c.place_one-in-CoreModule.ensures rest i.contents i.size (inside_contents i)))

pub place_part-returns-in-CoreTypes : goal.place_part-returns-in-CoreTypes
place_part-returns-in-CoreTypes t c =
    let xs = c.in-CoreTypes.types.items in
    rw (c.in-CoreTypes.is, shown_core_types c.in-CoreTypes.types) (λ rest e fits.
    placed_list core_entry shown_core_node c.args.total xs (core_types (map shown_core_node xs)) c.place_list.result c.args.bytes.now rest _
    c.in_ok-size.contents.now _ _ _ _ (c.in_ok-_id.ensures {u = tt}) (c.in_ok-size.ensures {u = tt}) e fits refl
    (rw c.deref.ensures.value at c.place_list.ensures))

pub place_part-returns-in-Types : goal.place_part-returns-in-Types
place_part-returns-in-Types t c =
    let xs = c.in-Types.types.items in
    rw (c.in-Types.is, shown_types c.in-Types.types) (λ rest e fits.
    placed_list entry shown_type_node c.args.total xs (types (map shown_type_node xs)) c.place_list-in-Types.result c.args.bytes.now rest _
    c.in_ok-size.contents.now _ _ _ _ (c.in_ok-_id.ensures {u = tt}) (c.in_ok-size.ensures {u = tt}) e fits refl
    (rw c.deref-in-Types.ensures.value at c.place_list-in-Types.ensures))

pub place_part-returns-in-Canons : goal.place_part-returns-in-Canons
place_part-returns-in-Canons t c =
    let xs = c.in-Canons.canons.items in
    rw (c.in-Canons.is, shown_canons c.in-Canons.canons) (λ rest e fits.
    placed_list canon shown_canon c.args.total xs (canons (map shown_canon xs)) c.place_list-in-Canons.result c.args.bytes.now rest _
    c.in_ok-size.contents.now _ _ _ _ (c.in_ok-_id.ensures {u = tt}) (c.in_ok-size.ensures {u = tt}) e fits refl
    (rw c.deref-in-Canons.ensures.value at c.place_list-in-Canons.ensures))

pub place_part-returns-in-Imports : goal.place_part-returns-in-Imports
place_part-returns-in-Imports t c =
    let xs = c.in-Imports.imports.items in
    rw (c.in-Imports.is, shown_imports c.in-Imports.imports) (λ rest e fits.
    placed_list import_entry shown_import_node c.args.total xs (imports (map shown_import_node xs)) c.place_list-in-Imports.result c.args.bytes.now rest _
    c.in_ok-size.contents.now _ _ _ _ (c.in_ok-_id.ensures {u = tt}) (c.in_ok-size.ensures {u = tt}) e fits refl
    (rw c.deref-in-Imports.ensures.value at c.place_list-in-Imports.ensures))

pub place_part-returns-in-Exports : goal.place_part-returns-in-Exports
place_part-returns-in-Exports t c =
    let xs = c.in-Exports.exports.items in
    rw (c.in-Exports.is, shown_exports c.in-Exports.exports) (λ rest e fits.
    placed_list export_entry shown_export c.args.total xs (exports (map shown_export xs)) c.place_list-in-Exports.result c.args.bytes.now rest _
    c.in_ok-size.contents.now _ _ _ _ (c.in_ok-_id.ensures {u = tt}) (c.in_ok-size.ensures {u = tt}) e fits refl
    (rw c.deref-in-Exports.ensures.value at c.place_list-in-Exports.ensures))

pub place_part-returns-in_ok-place-in-Component : goal.place_part-returns-in_ok-place-in-Component
place_part-returns-in_ok-place-in-Component t c =
    let u = held c.in-Component.nodes.items in
    let inner = c.in_ok-size.contents.now in
    rw (c.in-Component.is, shown_nested c.in-Component.nodes) (λ rest e fits.
    let i = inside (component u) c.args.bytes.now rest _ c.in_ok-size.contents.now _ _
    (c.in_ok-_id.ensures {u = tt}) (c.in_ok-size.ensures {u = tt}) e in
    placed_same c.place_parts.result rest _ _ (ap (λ k. k ∷ parts_at (k + length preamble) u) (inside_at c.args.total i fits))
    (placed_behind c.place_parts.result rest _ _ _ (parts_at (c.args.total - length inner + length preamble) u) (c.args.total - length inner)
    (c.in_ok-place-in-Component.ensures {u = tt})
    ((rw c.deref-in-Component.ensures.value at c.place_parts.ensures) rest (inside_begins i) (inside_fits c.args.total i fits))))

pub place_parts-loop-node-init : goal.place_parts-loop-node-init
place_parts-loop-node-init t c = parts_first _ _ _ _

pub place_parts-loop-node-preserved : goal.place_parts-loop-node-preserved
place_parts-loop-node-preserved t c =
    parts_next _ _ _ _ _ _ _ _ _ _ c.loop-node.invariant c.loop-node-test.true c.node-item.is (c.in_ok-rest.ensures {u = tt})

pub place_parts-returns : goal.place_parts-returns
place_parts-returns t c =
    parts_done _ _ _ _ _ _ _ _ c.loop-node.invariant c.loop-node-test.false (c.in_ok-first.ensures {u = tt} (bytes preamble) refl)
