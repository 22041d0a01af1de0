use Rattle.smith_format.specs.Piece.{u}
use Rattle.smith_read.specs.Reading.{u_at}
use Rattle.smith_read.proofs.Telling.{tells_u}
use Rattle.smith_print.proofs.Following.{read_past}
use Rattle.smith_print.proofs.Placing.{reaching_done, reaching_first, reaching_next}
use Rattle.smith_print.proofs.offsets.place_list.Goals as goal

pub loop-entry-init : goal.loop-entry-init
loop-entry-init g c = reaching_first _ _ _ _ _

pub loop-entry-preserved : goal.loop-entry-preserved
loop-entry-preserved g c =
    reaching_next _ _ _ _ _ _ _ _ _ _ _ c.loop-entry.invariant c.loop-entry-test.true c.entry-item.is (c.in_ok-place.ensures {u = tt})
    (c.in_ok-rest.ensures {u = tt})

pub returns : goal.returns
returns g c = reaching_done _ _ _ _ _ _ _ _ _ c.loop-entry.invariant c.loop-entry-test.false
    (λ rest e. read_past u u_at tells_u _ _ _ _ rest (c.in_ok-_count.ensures {u = tt}) e)
