use Rattle.smith_format.proofs.Framing.{contents_exit, section_exit}
use Rattle.smith_component.proofs.encode.put_listed.Goals as goal

pub returns-in_err-start : goal.returns-in_err-start
returns-in_err-start g c =
    let failed = (c.in_err-start.ensures {u = tt}).begins in
    section_exit c.from_residual.result _ c.args.out.now c.begin_section.new.out c.args.id _ c.from_residual.ensures.1 failed.0 failed.1

pub returns-in_err-put_many : goal.returns-in_err-put_many
returns-in_err-put_many g c =
    let failed = c.in_err-put_many.ensures {u = tt} in
    contents_exit c.from_residual-in_err-put_many.result _ c.args.out.now c.begin_section.new.out c.put_many.new.out c.args.id _
    c.from_residual-in_err-put_many.ensures.1 (c.in_ok-start.ensures {u = tt}).begins failed.0 failed.1
