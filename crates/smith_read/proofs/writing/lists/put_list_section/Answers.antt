use Rattle.smith_read.proofs.Leads.{due_sized, gives_up}
use Rattle.smith_read.proofs.writing.lists.put_list_section.Goals as goal

pub returns-in_err-put_list : goal.returns-in_err-put_list
returns-in_err-put_list g c = gives_up _ _ _ c.put_list.new.out c.from_residual.ensures.1 (due_sized c.args.id (c.in_err-put_list.ensures {u = tt}).1)
