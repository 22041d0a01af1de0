use Rattle.std.proofs.Common.{◌≡◌, ◌<◌, arith, length, refl, rules}
use Rattle.smith_read.proofs.SectionWalk.{walk_falls, walk_in, walk_out, walk_shorter, walk_stop}
use Rattle.smith_read.proofs.frames.framed.Goals as goal

pub loop-current-preserved-then-is_empty : goal.loop-current-preserved-then-is_empty
loop-current-preserved-then-is_empty c =
    let e : length c.in-Some-pop.current.now ≡ 0 = search rules in
    walk_out c.args.bytes.now c.loop-current.offset _ _ _ c.in-Some-pop.ensures.items c.loop-current.invariant e

pub overflow_sub-offset : goal.overflow_sub-offset
overflow_sub-offset c = omega (
  arith,
  walk_shorter c.args.bytes.now c.loop-current.offset _ _ _ c.in-Some-pop.ensures.items c.loop-current.invariant c.in-Ok.rest c.in-Ok.inside c.in-Ok.ensures,
)

pub overflow_sub-offset-in-Ok : goal.overflow_sub-offset-in-Ok
overflow_sub-offset-in-Ok c = omega (
  arith,
  walk_shorter c.args.bytes.now c.loop-current.offset _ _ _ c.in-Some-pop.ensures.items c.loop-current.invariant c.in-Ok.rest c.in-Ok.inside c.in-Ok.ensures,
)

pub loop-current-smaller : goal.loop-current-smaller
loop-current-smaller c =
    walk_falls c.args.bytes.now c.loop-current.offset _ _ _ c.in-Some-pop.ensures.items c.loop-current.invariant c.in-Ok.rest c.in-Ok.inside c.in-Ok.ensures
    _ _ (c.in_ok-push-in-Ok.ensures {u = tt}).items (c.in_ok-push-in-Ok-2.ensures {u = tt}).items

pub loop-current-preserved : goal.loop-current-preserved
loop-current-preserved c =
    walk_in c.args.bytes.now c.loop-current.offset _ _ _ c.in-Some-pop.ensures.items c.loop-current.invariant c.in-Ok.rest c.in-Ok.inside c.in-Ok.ensures
    _ _ (c.in_ok-push-in-Ok.ensures {u = tt}).items (c.in_ok-push-in-Ok-2.ensures {u = tt}).items _ refl

pub returns-in-Err : goal.returns-in-Err
returns-in-Err c =
    let l : 0 < length c.in-Some-pop.current.now = search rules in
    walk_stop c.args.bytes.now c.loop-current.offset _ _ _ c.in-Some-pop.ensures.items c.loop-current.invariant _ (search rules) l c.in-Err.ensures
