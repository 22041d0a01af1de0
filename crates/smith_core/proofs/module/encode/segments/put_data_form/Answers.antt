use Rattle.std.proofs.Common.{◌≢◌}
use Rattle.smith_format.proofs.Steps.{ends_third}
use Rattle.smith_core.proofs.Segments.{data_of}
use Rattle.smith_core.proofs.module.encode.segments.put_data_form.Goals as goal

pub returns-in_ok-write_u32-in-Active : goal.returns-in_ok-write_u32-in-Active
returns-in_ok-write_u32-in-Active c =
    let above : c.in-Active.memory_index ≢ 0 = (rw c.in-Active.is at c.in-Active.memory_index-test).1 in
    rw (c.in-Active.is, data_of _ _ above)
    (ends_third c.put-in-Active.result _ _ (c.in_ok-write_byte-in-Active.ensures {u = tt}) ((c.in_ok-write_u32-in-Active.ensures {u = tt}).written)
    c.put-in-Active.ensures)
