use Rattle.std.proofs.Common.{◌∷◌, ap, sym, ◌∙◌, add_comm, subst, ◌/◌, ◌%◌}
use Rattle.smith_format.specs.Numbers.{unsigned}
use Rattle.smith_format.specs.Piece.{Piece}
use Rattle.smith_format.specs.Writing.{Puts}
use Rattle.smith_format.proofs.Digits.{unsigned_last, unsigned_more, unsigned_some}
use Rattle.smith_format.proofs.Piece.{number_fits}
use Rattle.smith_format.proofs.Steps.{towards_next, towards_exit, towards_end}
use Rattle.smith_format.proofs.numbers.put_u64.Goals as goal

pub returns-in_err-write_byte : goal.returns-in_err-write_byte
returns-in_err-write_byte c =
    subst (λ (p : Piece). Puts c.from_residual.result c.args.out.now c.write_byte.new.out p) (sym (number_fits c.args.n c.ranges.n.fits))
    (towards_exit _ _ _ _ _ _ _ _ c.from_residual.ensures.1 c.loop-rest.invariant (unsigned_some c.loop-rest.rest) (c.in_err-write_byte.ensures {u = tt}))

pub loop-rest-preserved : goal.loop-rest-preserved
loop-rest-preserved c =
    let e = unsigned_more c.loop-rest.rest c.loop-rest-test.true ∙ ap (λ b. b ∷ unsigned (c.loop-rest.rest / 128)) (add_comm 128 (c.loop-rest.rest % 128)) in
    towards_next _ _ _ _ _ _ _ c.loop-rest.invariant e (c.in_ok-write_byte.ensures {u = tt})

pub returns : goal.returns
returns c =
    subst (λ (p : Piece). Puts c.write_byte-2.result c.args.out.now c.write_byte-2.new.out p) (sym (number_fits c.args.n c.ranges.n.fits))
    (towards_end c.write_byte-2.result _ _ _ _ _ _ c.loop-rest.invariant (unsigned_last c.loop-rest.rest c.loop-rest-test.false) c.write_byte-2.ensures)
