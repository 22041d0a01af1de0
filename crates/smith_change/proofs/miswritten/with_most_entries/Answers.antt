use Rattle.std.proofs.Common.{refl}
use Rattle.smith_read.proofs.Telling.{tells_u}
use Rattle.smith_change.proofs.WrongBytes.{put_most}
use Rattle.smith_change.proofs.miswritten.with_most_entries.Goals as goal

pub returns : goal.returns
returns c =
    let entries = c.in-Ok.entries.now in
    let count = c.in-Ok.field-0-0 in (
      count,
      entries,
      tells_u.sound c.args.list.now (count, entries) c.in-Ok.ensures,
      put_most c.new-most.result.items c.put_number.new.out.items _ entries _ c.new-most.ensures.items c.in_ok-put_number.ensures
          c.in_ok-extend_from_slice.ensures.items refl,
    )
