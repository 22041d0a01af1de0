use Rattle.std.proofs.Common.{◌≡◌, ℕ, arith, get_or, get_or-drop}
use Rattle.std.proofs.Math.Seq.{drop-drop}
use Rattle.smith_input.proofs.Widths.{fits_eight, byte_fits, spelled_more}
use Rattle.smith_input.proofs.unstructured.Unstructured.number.Goals as goal

pub overflow_mul-number : goal.overflow_mul-number
overflow_mul-number c = omega (arith, fits_eight c.loop-done.number c.loop-done.done (omega arith) c.loop-done.invariant.below)

pub overflow_add-number : goal.overflow_add-number
overflow_add-number c = omega (arith, fits_eight c.loop-done.number c.loop-done.done (omega arith) c.loop-done.invariant.below)

pub loop-done-preserved : goal.loop-done-preserved
loop-done-preserved c =
    let byte : get_or c.args.self.now c.loop-done.done 0 ≡ c.from.result = grind (arith, get_or-drop {A = ℕ}) in
    record {
      so_far = omega (arith, spelled_more c.loop-done.done c.args.self.now, byte, c.loop-done.invariant.so_far);
      below = byte_fits c.loop-done.number c.loop-done.done c.from.result c.loop-done.invariant.below (omega arith);
      rest = grind (arith, drop-drop {A = ℕ}, c.loop-done.invariant.rest, c.arbitrary_u8-byte.ensures.left);
    }
