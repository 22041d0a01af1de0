use Rattle.std.proofs.Common.{sym}
use Rattle.smith_format.proofs.Framing.{contents_exit, section_exit}
use Rattle.smith_format.proofs.Steps.{gains_then}
use Rattle.smith_core.specs.Module.{contents}
use Rattle.smith_core.proofs.module.parts.ModuleParts.put_section.Goals as goal

pub returns-in_err-start : goal.returns-in_err-start
returns-in_err-start c =
    let failed = (c.in_err-start.ensures {u = tt}).begins in
    let left = section_exit c.from_residual.result c.in_err-start.field-0.0 c.args.out.now c.begin_section.new.out c.id.result
    (contents c.args.self.now c.args.kind) c.from_residual.ensures.1 failed.0 failed.1 in
    rw (← c.requires.written, c.if-not-written.false) (rw c.id.ensures at left)

pub returns-in_err-put_contents : goal.returns-in_err-put_contents
returns-in_err-put_contents c =
    let failed = c.in_err-put_contents.ensures {u = tt} in
    let left = contents_exit c.from_residual-in_err-put_contents.result c.in_err-put_contents.field-0.0 c.args.out.now c.begin_section.new.out
    c.put_contents.new.out c.id.result (contents c.args.self.now c.args.kind) c.from_residual-in_err-put_contents.ensures.1
    (c.in_ok-start.ensures {u = tt}).begins failed.0 failed.1 in
    rw (← c.requires.written, c.if-not-written.false) (rw c.id.ensures at left)

pub returns : goal.returns
returns c =
    let begun = c.in_ok-start.ensures {u = tt} in
    let whole = c.end_section.ensures c.args.out.now c.id.result (contents c.args.self.now c.args.kind) (sym begun.place)
    (gains_then begun.begins (c.in_ok-put_contents.ensures {u = tt})) in
    rw (← c.requires.written, c.if-not-written.false) (rw c.id.ensures at whole)
