use Rattle.smith_print.proofs.Following.{read_past}
use Rattle.smith_print.proofs.passing.pass_read.Goals as goal

pub returns : goal.returns
returns g c = λ piece x told rest e. read_past piece g.T.Readable.reading told x _ c.args.bytes.now _ rest (c.in_ok-_value.ensures {u = tt}) e
