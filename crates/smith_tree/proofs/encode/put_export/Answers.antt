use Rattle.smith_format.proofs.Steps.{exits_between, keeps_begins, ends_third}
use Rattle.smith_tree.proofs.encode.put_export.Goals as goal

pub returns-in_err-write_text : goal.returns-in_err-write_text
returns-in_err-write_text c =
    let d = (c.in_err-write_text.ensures {u = tt}).written in
    exits_between _ _ _ c.from_residual-in_err-write_text.ensures.1 (c.in_ok-write_byte.ensures {u = tt}) (keeps_begins d.0) d.1

pub returns : goal.returns
returns c = ends_third c.put_exported.result _ _ (c.in_ok-write_byte.ensures {u = tt}) ((c.in_ok-write_text.ensures {u = tt}).written) c.put_exported.ensures
