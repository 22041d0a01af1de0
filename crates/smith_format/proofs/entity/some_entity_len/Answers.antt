use Rattle.std.proofs.Common.{refl, false}
use Rattle.smith_format.proofs.Sizes.{takes_bytes, takes_then}
use Rattle.smith_format.proofs.entity.some_entity_len.Goals as goal

pub returns-in-Table-clause-length : goal.returns-in-Table-clause-length
returns-in-Table-clause-length c =
    rw c.in-Table.is (takes_then (takes_bytes 1 _ refl) (takes_then c.ref_len.ensures.length (c.limits_len.ensures.length false c.in-Table.table.table64)))
