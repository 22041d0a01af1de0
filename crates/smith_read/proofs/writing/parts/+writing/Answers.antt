use Rattle.std.proofs.Common.{arith}
use Rattle.smith_read.proofs.Leads.{due_behind, due_sized, ends_front, gives_up, leads_length, put_all, put_due, put_next, put_none}
use Rattle.smith_read.proofs.WrittenParts.{part_canons, part_component, part_core_types, part_exports, part_imports, part_types, text_shown}
use Rattle.smith_read.proofs.writing.parts.+writing.Goals as goal

pub put_part-returns-in-CoreTypes : goal.put_part-returns-in-CoreTypes
put_part-returns-in-CoreTypes t c = rw (c.in-CoreTypes.is, part_core_types _) (rw c.deref-in-CoreTypes.ensures.value at c.put_list_section.ensures)

pub put_part-returns-in_err-put_component-in-Component : goal.put_part-returns-in_err-put_component-in-Component
put_part-returns-in_err-put_component-in-Component t c =
    rw (c.in-Component.is, part_component _)
    (gives_up _ _ _ c.put_component.new.out c.from_residual.ensures.1
    (due_sized 4 (rw c.deref-in-Component.ensures.value at (c.in_err-put_component-in-Component.ensures {u = tt}))))

pub put_part-put_head-requires : goal.put_part-put_head-requires
put_part-put_head-requires t c = omega (arith, c.len-start.ensures, leads_length (c.in_ok-put_component-in-Component.ensures {u = tt}))

pub put_part-returns-in-Types : goal.put_part-returns-in-Types
put_part-returns-in-Types t c = rw (c.in-Types.is, part_types _) (rw c.deref-in-Types.ensures.value at c.put_list_section-in-Types.ensures)

pub put_part-returns-in-Canons : goal.put_part-returns-in-Canons
put_part-returns-in-Canons t c = rw (c.in-Canons.is, part_canons _) (rw c.deref-in-Canons.ensures.value at c.put_list_section-in-Canons.ensures)

pub put_part-returns-in-Imports : goal.put_part-returns-in-Imports
put_part-returns-in-Imports t c = rw (c.in-Imports.is, part_imports _) (rw c.deref-in-Imports.ensures.value at c.put_list_section-in-Imports.ensures)

pub put_part-returns-in-Exports : goal.put_part-returns-in-Exports
put_part-returns-in-Exports t c = rw (c.in-Exports.is, part_exports _) (rw c.deref-in-Exports.ensures.value at c.put_list_section-in-Exports.ensures)

pub put_component-loop-index-init : goal.put_component-loop-index-init
put_component-loop-index-init t c = put_none _ _ _ _ (omega arith)

pub put_component-loop-index-preserved : goal.put_component-loop-index-preserved
put_component-loop-index-preserved t c = put_next _ _ _ _ _ _ _ _ c.loop-index.invariant (omega (arith, c.loop-index-test.true))
    (omega (arith, c.loop-index-test.true, c.loop-index.auto.index)) c.index-nodes-index.is (c.in_ok-put_part.ensures {u = tt})

pub put_component-returns-in_err-put_part : goal.put_component-returns-in_err-put_part
put_component-returns-in_err-put_part t c =
    rw text_shown
    (gives_up _ _ _ c.put_part.new.out c.from_residual.ensures.1
    (due_behind _ (put_due _ _ _ _ _ _ _ _ c.loop-index.invariant (omega (arith, c.loop-index-test.true))
    (omega (arith, c.loop-index-test.true, c.loop-index.auto.index)) c.index-nodes-index.is (c.in_err-put_part.ensures {u = tt}))))

pub put_component-returns : goal.put_component-returns
put_component-returns t c = grind (arith, text_shown, ends_front, put_all)
