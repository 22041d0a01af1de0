use Rattle.std.proofs.Common.{drop, sym}
use Rattle.std.proofs.lemmas.List.{drop-drop}
use Rattle.smith_print.proofs.Sections.{adds_text, after_canons, after_core_types, after_exports, after_imports, after_types}
use Rattle.smith_print.proofs.Sections.{count_canons, count_component, count_core_types, count_exports, count_imports, count_types, going_passed, held}
use Rattle.smith_read.specs.Items.{items}
use Rattle.smith_print.proofs.Sections.{closing_adds, closing_refused, exits, going_done, going_next, going_refused, prints_behind, text_canons}
use Rattle.smith_format.specs.Piece.{bytes}
use Rattle.smith_print.proofs.Sections.{sections}
use Rattle.smith_print.specs.Components.{closing, head_text}
use Rattle.smith_print.specs.Spaces.{nothing}
use Rattle.smith_print.specs.Words.{deeper}
use Rattle.smith_print.proofs.Sections.{text_component, text_core_types, text_custom, text_exports, text_imports, text_types}
use Rattle.smith_print.proofs.parts.+printing.Goals as goal

pub print_part-returns-in_ok-print_custom-in-Custom-clause-printed : goal.print_part-returns-in_ok-print_custom-in-Custom-clause-printed
print_part-returns-in_ok-print_custom-in-Custom-clause-printed t c =
    rw (c.in-Custom.is, text_custom c.in-Custom.section c.args.columns c.args.spaces.now c.args.offsets.now.left.now)
    (adds_text ((c.in_ok-print_custom-in-Custom.ensures {u = tt}).printed))

pub print_part-returns-in-CoreTypes-clause-printed : goal.print_part-returns-in-CoreTypes-clause-printed
print_part-returns-in-CoreTypes-clause-printed t c =
    rw (c.in-CoreTypes.is, text_core_types c.in-CoreTypes.types c.args.columns c.args.spaces.now c.args.offsets.now.left.now)
    (rw c.deref-in-CoreTypes.ensures.value at c.print_list.ensures.printed)

pub print_part-returns-in-CoreTypes-clause-indexes : goal.print_part-returns-in-CoreTypes-clause-indexes
print_part-returns-in-CoreTypes-clause-indexes t c =
    rw (c.in-CoreTypes.is, after_core_types c.in-CoreTypes.types c.args.spaces.now)
    (rw c.deref-in-CoreTypes.ensures.value at c.print_list.ensures.indexes)

pub print_part-returns-in-Types-clause-printed : goal.print_part-returns-in-Types-clause-printed
print_part-returns-in-Types-clause-printed t c =
    rw (c.in-Types.is, text_types c.in-Types.types c.args.columns c.args.spaces.now c.args.offsets.now.left.now)
    (rw c.deref-in-Types.ensures.value at c.print_list-in-Types.ensures.printed)

pub print_part-returns-in-Types-clause-indexes : goal.print_part-returns-in-Types-clause-indexes
print_part-returns-in-Types-clause-indexes t c =
    rw (c.in-Types.is, after_types c.in-Types.types c.args.spaces.now) (rw c.deref-in-Types.ensures.value at c.print_list-in-Types.ensures.indexes)

pub print_part-returns-in-Canons-clause-printed : goal.print_part-returns-in-Canons-clause-printed
print_part-returns-in-Canons-clause-printed t c =
    rw (c.in-Canons.is, text_canons c.in-Canons.canons c.args.columns c.args.spaces.now c.args.offsets.now.left.now)
    (rw c.deref-in-Canons.ensures.value at c.print_list-in-Canons.ensures.printed)

pub print_part-returns-in-Canons-clause-indexes : goal.print_part-returns-in-Canons-clause-indexes
print_part-returns-in-Canons-clause-indexes t c =
    rw (c.in-Canons.is, after_canons c.in-Canons.canons c.args.spaces.now)
    (rw c.deref-in-Canons.ensures.value at c.print_list-in-Canons.ensures.indexes)

pub print_part-returns-in-Imports-clause-printed : goal.print_part-returns-in-Imports-clause-printed
print_part-returns-in-Imports-clause-printed t c =
    rw (c.in-Imports.is, text_imports c.in-Imports.imports c.args.columns c.args.spaces.now c.args.offsets.now.left.now)
    (rw c.deref-in-Imports.ensures.value at c.print_list-in-Imports.ensures.printed)

pub print_part-returns-in-Imports-clause-indexes : goal.print_part-returns-in-Imports-clause-indexes
print_part-returns-in-Imports-clause-indexes t c =
    rw (c.in-Imports.is, after_imports c.in-Imports.imports c.args.spaces.now)
    (rw c.deref-in-Imports.ensures.value at c.print_list-in-Imports.ensures.indexes)

pub print_part-returns-in-Exports-clause-printed : goal.print_part-returns-in-Exports-clause-printed
print_part-returns-in-Exports-clause-printed t c =
    rw (c.in-Exports.is, text_exports c.in-Exports.exports c.args.columns c.args.spaces.now c.args.offsets.now.left.now)
    (rw c.deref-in-Exports.ensures.value at c.print_list-in-Exports.ensures.printed)

pub print_part-returns-in-Exports-clause-indexes : goal.print_part-returns-in-Exports-clause-indexes
print_part-returns-in-Exports-clause-indexes t c =
    rw (c.in-Exports.is, after_exports c.in-Exports.exports c.args.spaces.now)
    (rw c.deref-in-Exports.ensures.value at c.print_list-in-Exports.ensures.indexes)

pub print_part-returns-in-CoreTypes-clause-passed : goal.print_part-returns-in-CoreTypes-clause-passed
print_part-returns-in-CoreTypes-clause-passed t c =
    rw (c.in-CoreTypes.is, count_core_types c.in-CoreTypes.types) (rw c.deref-in-CoreTypes.ensures.value at c.print_list.ensures.passed)

pub print_part-returns-in-Types-clause-passed : goal.print_part-returns-in-Types-clause-passed
print_part-returns-in-Types-clause-passed t c =
    rw (c.in-Types.is, count_types c.in-Types.types) (rw c.deref-in-Types.ensures.value at c.print_list-in-Types.ensures.passed)

pub print_part-returns-in-Canons-clause-passed : goal.print_part-returns-in-Canons-clause-passed
print_part-returns-in-Canons-clause-passed t c =
    rw (c.in-Canons.is, count_canons c.in-Canons.canons) (rw c.deref-in-Canons.ensures.value at c.print_list-in-Canons.ensures.passed)

pub print_part-returns-in-Imports-clause-passed : goal.print_part-returns-in-Imports-clause-passed
print_part-returns-in-Imports-clause-passed t c =
    rw (c.in-Imports.is, count_imports c.in-Imports.imports) (rw c.deref-in-Imports.ensures.value at c.print_list-in-Imports.ensures.passed)

pub print_part-returns-in-Exports-clause-passed : goal.print_part-returns-in-Exports-clause-passed
print_part-returns-in-Exports-clause-passed t c =
    rw (c.in-Exports.is, count_exports c.in-Exports.exports) (rw c.deref-in-Exports.ensures.value at c.print_list-in-Exports.ensures.passed)

pub print_part-returns-in_ok-print_head-in-Component-clause-printed : goal.print_part-returns-in_ok-print_head-in-Component-clause-printed
print_part-returns-in_ok-print_head-in-Component-clause-printed t c =
    let os = c.args.offsets.now.left.now in
    rw (c.in-Component.is, text_component c.in-Component.nodes c.args.columns c.args.spaces.now os)
    (prints_behind c.print_component.result c.args.out.now c.print_head.new.out c.print_component.new.out
    (bytes (head_text c.args.columns c.args.spaces.now os))
    (closing c.args.columns (sections c.in-Component.nodes.items (deeper c.args.columns) nothing (drop 1 os)))
    (adds_text ((c.in_ok-print_head-in-Component.ensures {u = tt}).printed))
    (rw (c.deref-in-Component.ensures.value, (c.in_ok-print_head-in-Component.ensures {u = tt}).passed) at c.print_component.ensures.printed))

pub print_part-returns-in_ok-print_head-in-Component-clause-passed : goal.print_part-returns-in_ok-print_head-in-Component-clause-passed
print_part-returns-in_ok-print_head-in-Component-clause-passed t c =
    let os = c.args.offsets.now.left.now in
    let ns = c.in-Component.nodes in
    rw (c.in-Component.is, count_component ns, sym (drop-drop (items (held ns.items)) 1 os))
    (rw (c.deref-in-Component.ensures.value, (c.in_ok-print_head-in-Component.ensures {u = tt}).passed) at c.print_component.ensures.passed)

pub print_component-loop-node-preserved : goal.print_component-loop-node-preserved
print_component-loop-node-preserved t c =
    going_next c.args.nodes.now (deeper c.args.columns) c.loop-node.node-index c.node-item.result c.args.out.now c.loop-node.out c.print_part.new.out
    c.new-spaces.result c.loop-node.spaces c.print_part.new.spaces c.args.offsets.now.left.now c.loop-node.offsets.left.now c.print_part.new.offsets.left.now
    c.loop-node.invariant c.loop-node-test.true c.node-item.is
    (rw c.deeper.ensures at (c.in_ok-print_part.ensures {u = tt}).printed) ((c.in_ok-print_part.ensures {u = tt}).indexes)
    ((c.in_ok-print_part.ensures {u = tt}).passed)

pub print_component-returns-in_err-print_part-clause-printed : goal.print_component-returns-in_err-print_part-clause-printed
print_component-returns-in_err-print_part-clause-printed t c =
    let refused = going_refused c.args.nodes.now (deeper c.args.columns) c.loop-node.node-index c.node-item.result _ c.args.out.now c.loop-node.out
    c.new-spaces.result c.loop-node.spaces c.args.offsets.now.left.now c.loop-node.offsets.left.now c.loop-node.invariant c.loop-node-test.true
    c.node-item.is
    (rw c.deeper.ensures at (c.in_err-print_part.ensures {u = tt}).printed) in
    exits c.from_residual.result _ c.args.out.now c.print_part.new.out c.from_residual.ensures.1
    (closing_refused c.args.columns (rw c.new-spaces.ensures at refused))

pub print_component-returns-clause-printed : goal.print_component-returns-clause-printed
print_component-returns-clause-printed t c =
    let done = going_done c.args.nodes.now (deeper c.args.columns) c.loop-node.node-index c.args.out.now c.loop-node.out c.new-spaces.result c.loop-node.spaces
    c.args.offsets.now.left.now c.loop-node.offsets.left.now c.loop-node.invariant c.loop-node-test.false in
    closing_adds c.args.columns (rw c.new-spaces.ensures at done)
    (λ contents e. c.in_ok-print_end.ensures {u = tt} c.args.out.now contents c.len-start.ensures e)

pub print_component-returns-clause-passed : goal.print_component-returns-clause-passed
print_component-returns-clause-passed t c =
    going_passed c.args.nodes.now (deeper c.args.columns) c.loop-node.node-index c.args.out.now c.loop-node.out c.new-spaces.result c.loop-node.spaces
    c.args.offsets.now.left.now c.loop-node.offsets.left.now c.loop-node.invariant c.loop-node-test.false
