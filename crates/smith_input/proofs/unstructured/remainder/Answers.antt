use Rattle.std.proofs.Common.{◌≡◌, ◌+◌, ◌*◌, ◌/◌, arith, sym}
use Rattle.std.proofs.Math.Nat.{div-mul-le_self, mod-eq-sub-div-mul}
use Rattle.smith_input.proofs.Widths.{quotient_is, reciprocal}
use Rattle.smith_input.proofs.unstructured.remainder.Goals as goal

pub overflow_sub-result : goal.overflow_sub-result
overflow_sub-result c =
    let is : c.args.byte * reciprocal (c.args.last + 1) / 65536 ≡ c.args.byte / (c.args.last + 1) = quotient_is _ _ (omega arith) (omega arith) (omega arith) in
    rw (c.from-dividend.ensures, c.from.ensures, c.reciprocal_of.ensures, is) (div-mul-le_self c.args.byte (c.args.last + 1))

pub returns : goal.returns
returns c =
    let is : c.args.byte * reciprocal (c.args.last + 1) / 65536 ≡ c.args.byte / (c.args.last + 1) = quotient_is _ _ (omega arith) (omega arith) (omega arith) in
    rw (c.from-dividend.ensures, c.from.ensures, c.reciprocal_of.ensures, is) (sym (mod-eq-sub-div-mul c.args.byte (c.args.last + 1)))
