use Rattle.std.proofs.Common.{arith, ◌∷◌, []}
use Rattle.smith_format.proofs.Framing.{contents_exit, section_exit}
use Rattle.smith_format.proofs.Piece.{joined}
use Rattle.smith_format.proofs.Steps.{gains_then, keeps_begins}
use Rattle.smith_component.proofs.encode.put_module.Goals as goal

pub returns-in_err-start : goal.returns-in_err-start
returns-in_err-start c =
    let failed = (c.in_err-start.ensures {u = tt}).begins in
    section_exit c.from_residual.result _ c.args.out.now c.begin_section.new.out 1 _ c.from_residual.ensures.1 failed.0 failed.1

pub returns-in_err-write : goal.returns-in_err-write
returns-in_err-write c =
    let failed = c.in_err-write.ensures {u = tt} in
    contents_exit c.from_residual-in_err-write.result _ c.args.out.now c.begin_section.new.out c.write.new.out 1 _
    c.from_residual-in_err-write.ensures.1 (c.in_ok-start.ensures {u = tt}).begins (keeps_begins failed.0) failed.1

pub end_section-requires : goal.end_section-requires
end_section-requires c = grind (arith, joined)

pub returns : goal.returns
returns c = grind (arith, gains_then)
