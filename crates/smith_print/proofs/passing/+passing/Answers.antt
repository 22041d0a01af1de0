use Rattle.std.proofs.Common.{false, length, Ok, refl, true}
use Rattle.std.specs.Prelude.{string_bytes}
use Rattle.smith_format.specs.Piece.{byte, each, many, u}
use Rattle.smith_syntax.specs.Grammar.{core_entry, decl, entry, import_entry}
use Rattle.smith_read.specs.Nodes.{shown_core_node}
use Rattle.smith_read.specs.PartNodes.{import_of}
use Rattle.smith_read.specs.Reading.{u_at}
use Rattle.smith_read.specs.TypeNodes.{shown_decl_node, shown_type_node}
use Rattle.smith_read.specs.declared.type_nodes.DeclNode.{DeclNode}
use Rattle.smith_read.proofs.ShownNodes.{shown_core, shown_export, shown_import}
use Rattle.smith_read.proofs.Telling.{tells_u}
use Rattle.smith_read.proofs.TellingCore.{tells_core_entry}
use Rattle.smith_read.proofs.TellingParts.{tells_import}
use Rattle.smith_read.proofs.WrittenTypes.{decl_type, entry_component, entry_instance}
use Rattle.smith_print.proofs.Following.{left_done, left_next, passes_import, passes_then, read_past}
use Rattle.smith_print.proofs.passing.+passing.Goals as goal

pub pass_decl-returns-in-Core : goal.pass_decl-returns-in-Core
pass_decl-returns-in-Core t c = λ importing.
    rw (c.in-Core.is, shown_core c.in-Core.field-0) (c.pass_behind.ensures 0x00 core_entry (shown_core_node c.in-Core.field-0) tells_core_entry)

pub pass_decl-returns-in_ok-rest-in-Type : goal.pass_decl-returns-in_ok-rest-in-Type
pass_decl-returns-in_ok-rest-in-Type t c = λ importing.
    rw (c.in-Type.is, decl_type importing c.in-Type.ty)
    (passes_then c.pass_type.result (byte 0x01) (entry (shown_type_node c.in-Type.ty)) c.args.bytes.now c.in_ok-rest-in-Type.rest.now
    (c.in_ok-rest-in-Type.ensures {u = tt} (byte 0x01) refl) c.pass_type.ensures)

pub pass_decl-returns-in-Import : goal.pass_decl-returns-in-Import
pass_decl-returns-in-Import t c = λ importing.
    rw (c.in-Import.is, shown_import c.in-Import.name c.in-Import.to)
    (passes_import c.pass_behind-in-Import.result c.args.bytes.now importing (string_bytes c.in-Import.name) c.in-Import.to
    (c.pass_behind-in-Import.ensures 0x03 import_entry (import_of (string_bytes c.in-Import.name, c.in-Import.to)) tells_import))

pub pass_decl-returns-in-Export : goal.pass_decl-returns-in-Export
pass_decl-returns-in-Export t c = λ importing.
    rw (c.in-Export.is, shown_export c.in-Export.name c.in-Export.to)
    (c.pass_behind-in-Export.ensures 0x04 import_entry (import_of (string_bytes c.in-Export.name, c.in-Export.to)) tells_import)

pub pass_decls-loop-node-init : goal.pass_decls-loop-node-init
pass_decls-loop-node-init t c = λ importing rest e. e

pub pass_decls-loop-node-preserved : goal.pass_decls-loop-node-preserved
pass_decls-loop-node-preserved t c = λ importing.
    left_next (λ d. decl importing (shown_decl_node d)) c.args.nodes.now c.loop-node.node-index c.node-item.result _ c.loop-node.rest.now _
    (c.loop-node.invariant importing) c.loop-node-test.true c.node-item.is (c.in_ok-rest.ensures {u = tt} importing)

pub pass_decls-returns : goal.pass_decls-returns
pass_decls-returns t c = λ tag importing.
    let f = λ (d : DeclNode). decl importing (shown_decl_node d) in
    let xs = c.args.nodes.now in
    passes_then (Ok c.loop-node.rest) (byte tag) (many f xs) c.args.bytes.now c.in_ok-counted.counted.now (c.in_ok-counted.ensures {u = tt} (byte tag) refl)
    (passes_then (Ok c.loop-node.rest) (u (length xs)) (each f xs) c.in_ok-counted.counted.now c.in_ok-_count.first.now
    (λ rest e. read_past u u_at tells_u (length xs) _ _ _ rest (c.in_ok-_count.ensures {u = tt}) e)
    (left_done f xs c.loop-node.node-index c.in_ok-_count.first.now c.loop-node.rest.now (c.loop-node.invariant importing) c.loop-node-test.false))

pub pass_type-returns-in-Component : goal.pass_type-returns-in-Component
pass_type-returns-in-Component t c =
    rw (c.in-Component.is, entry_component c.in-Component.decls) (rw c.deref.ensures.value at (c.pass_decls.ensures 0x41 true))

pub pass_type-returns-in-Instance : goal.pass_type-returns-in-Instance
pass_type-returns-in-Instance t c =
    rw (c.in-Instance.is, entry_instance c.in-Instance.decls) (rw c.deref-in-Instance.ensures.value at (c.pass_decls-in-Instance.ensures 0x42 false))
