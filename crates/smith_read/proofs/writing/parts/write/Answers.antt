use Rattle.std.proofs.Common.{ap, sym, ◌∙◌, Some}
use Rattle.smith_read.proofs.Leads.{leads_whole}
use Rattle.smith_read.proofs.writing.parts.write.Goals as goal

pub returns-in-Ok-clause-written : goal.returns-in-Ok-clause-written
returns-in-Ok-clause-written c =
    leads_whole c.new-out.ensures.items (rw c.deref.ensures.value at (c.in-Ok.ensures {u = tt})) ∙ ap Some (sym c.reverse.ensures.items)
