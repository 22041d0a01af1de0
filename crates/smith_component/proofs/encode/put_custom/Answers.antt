use Rattle.smith_format.proofs.Framing.{contents_exit, section_exit}
use Rattle.smith_component.proofs.encode.put_custom.Goals as goal

pub returns-in_err-start : goal.returns-in_err-start
returns-in_err-start c =
    let failed = (c.in_err-start.ensures {u = tt}).begins in
    section_exit c.from_residual.result _ c.args.out.now c.begin_section.new.out 0 _ c.from_residual.ensures.1 failed.0 failed.1

pub returns-in_err-put : goal.returns-in_err-put
returns-in_err-put c =
    let failed = c.in_err-put.ensures {u = tt} in
    contents_exit c.from_residual-in_err-put.result _ c.args.out.now c.begin_section.new.out c.put.new.out 0 _
    c.from_residual-in_err-put.ensures.1 (c.in_ok-start.ensures {u = tt}).begins failed.0 failed.1
