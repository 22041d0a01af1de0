use Rattle.smith_format.proofs.Steps.{exits_between, keeps_begins}
use Rattle.smith_core.proofs.module.encode.tables.Tuple3StringExportKindU32SpelledModuleFormat.put.Goals as goal

pub returns-in_err-write_byte : goal.returns-in_err-write_byte
returns-in_err-write_byte c =
    let d = rw c.kind_of_export.ensures at (c.in_err-write_byte.ensures {u = tt}) in
    exits_between _ _ _ c.from_residual-in_err-write_byte.ensures.1 (rw c.deref.ensures at ((c.in_ok-write_text.ensures {u = tt}).written)) (keeps_begins d.0)
    d.1
