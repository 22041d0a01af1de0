use Rattle.smith_read.proofs.Leads.{due_sized, gives_up}
use Rattle.smith_read.proofs.writing.parts.put_custom.Goals as goal

pub returns-in_err-write_spelled : goal.returns-in_err-write_spelled
returns-in_err-write_spelled c =
    gives_up _ _ _ c.write_spelled.new.out c.from_residual.ensures.1 (due_sized 0 (c.in_err-write_spelled.ensures {u = tt}).1)
