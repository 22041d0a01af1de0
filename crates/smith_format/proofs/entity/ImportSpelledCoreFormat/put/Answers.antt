use Rattle.smith_format.proofs.Steps.{exits_between, keeps_begins}
use Rattle.smith_format.proofs.entity.ImportSpelledCoreFormat.put.Goals as goal

pub returns-in_err-write_text-2 : goal.returns-in_err-write_text-2
returns-in_err-write_text-2 c =
    let d = rw c.deref-2.ensures at ((c.in_err-write_text-2.ensures {u = tt}).written) in
    exits_between _ _ _ c.from_residual-in_err-write_text-2.ensures.1 (rw c.deref.ensures at ((c.in_ok-write_text.ensures {u = tt}).written)) (keeps_begins d.0)
    d.1
