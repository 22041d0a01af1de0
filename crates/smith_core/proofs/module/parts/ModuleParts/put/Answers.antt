use Rattle.smith_format.proofs.Many.{put_next, put_all, front_exit}
use Rattle.smith_format.proofs.Steps.{exits, due_left, gains_then, keeps_begins}
use Rattle.smith_core.specs.Module.{binary_order}
use Rattle.smith_core.proofs.Tiles.{member_is}
use Rattle.smith_core.specs.declared.module.sections.SectionKind.TheVariants.{Types}
use Rattle.smith_core.proofs.module.parts.ModuleParts.put.Goals as goal

pub returns-in_err-write_bytes : goal.returns-in_err-write_bytes
returns-in_err-write_bytes c =
    let d = c.in_err-write_bytes.ensures {u = tt} in
    exits _ _ c.from_residual.ensures.1 (keeps_begins d.0) (due_left _ d.1)

pub returns-in_err-put_section : goal.returns-in_err-put_section
returns-in_err-put_section c =
    let test = c.loop-kind-test.true in
    let at = member_is binary_order c.loop-kind.kind-index Types test in
    let left = c.from_residual-in_err-put_section.ensures.1 in
    let front = c.in_ok-write_bytes.ensures {u = tt} in
    front_exit _ _ _ _ _ _ left front _ c.loop-kind.invariant test at (c.in_err-put_section.ensures {u = tt})

pub loop-kind-preserved : goal.loop-kind-preserved
loop-kind-preserved c =
    let test = c.loop-kind-test.true in
    let at = member_is binary_order c.loop-kind.kind-index Types test in
    put_next _ _ _ _ _ _ _ c.loop-kind.invariant test at (c.in_ok-put_section.ensures {u = tt})

pub returns : goal.returns
returns c = gains_then (c.in_ok-write_bytes.ensures {u = tt}) (put_all _ _ _ _ _ c.loop-kind.invariant c.loop-kind-test.false)
