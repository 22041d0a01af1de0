use Rattle.std.proofs.Common.{◌∙◌, ap, subst, sym}
use Rattle.std.specs.Prelude.{Some}
use Rattle.smith_format.specs.Piece.{Piece}
use Rattle.smith_format.specs.Writing.{Appends}
use Rattle.smith_format.proofs.Digits.{unsigned_last}
use Rattle.smith_format.proofs.Piece.{number_fits}
use Rattle.smith_format.proofs.numbers.write_u64.Goals as goal

pub returns-then-n-lt128 : goal.returns-then-n-lt128
returns-then-n-lt128 c =
    let e = number_fits c.args.n c.ranges.n.fits ∙ ap Some (unsigned_last c.args.n c.if-n-lt128.true) in
    subst (λ (p : Piece). Appends c.write_byte.result c.args.out.now c.write_byte.new.out p) (sym e) c.write_byte.ensures
