use Rattle.std.proofs.Common.{arith}
use Rattle.smith_format.proofs.Piece.{raw_is}
use Rattle.smith_format.proofs.Steps.{wants_some}
use Rattle.smith_format.proofs.pieces.write_raw.Goals as goal

pub returns-clause-written : goal.returns-clause-written
returns-clause-written c = rw (raw_is c.args.rest.now (λ i. omega (arith, c.type_inv.rest i))) c.write_bytes.ensures

pub returns-clause-full : goal.returns-clause-full
returns-clause-full c = wants_some c.write_bytes.result (raw_is c.args.rest.now (λ i. omega (arith, c.type_inv.rest i)))
