use Rattle.std.proofs.Common.{arith}
use Rattle.smith_read.proofs.Answering.{reads_found, reads_unread}
use Rattle.smith_read.proofs.parts.read.Goals as goal

pub returns-in-Ok-clause-reads : goal.returns-in-Ok-clause-reads
returns-in-Ok-clause-reads c = reads_found c.args.bytes.now (record { parts = c.in-Ok.parts }) (c.in-Ok.ensures {u = tt})

pub returns-in-Err-clause-reads : goal.returns-in-Err-clause-reads
returns-in-Err-clause-reads c = grind (arith, reads_unread)
