use Rattle.std.proofs.Common.{subst, sym}
use Rattle.smith_change.specs.Miswritten.{Miswrites, cut}
use Rattle.smith_change.specs.declared.miswritten.Miswriting.TheVariants.{Cut}
use Rattle.smith_change.proofs.miswritten.candidate.Goals as goal

pub returns-then-number-bytes-clause-made : goal.returns-then-number-bytes-clause-made
returns-then-number-bytes-clause-made c =
    subst (Miswrites Cut c.args.bytes.now) (sym c.in_ok-cut.ensures.items) (cut c.args.bytes.now c.args.number c.if-number-bytes.true)
