use Rattle.smith_print.proofs.types.print_alias.Goals as goal

pub returns-clause-printed : goal.returns-clause-printed
returns-clause-printed c = rw (c.in_ok-own.ensures {u = tt}).index at c.write.ensures.bytes
