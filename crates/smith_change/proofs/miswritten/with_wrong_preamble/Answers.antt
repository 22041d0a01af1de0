use Rattle.std.proofs.Common.{bit_xor, get_or, set, subst, sym}
use Rattle.smith_change.specs.Miswritten.{Miswrites, turned}
use Rattle.smith_change.specs.declared.miswritten.Miswriting.TheVariants.{Preamble}
use Rattle.smith_change.proofs.miswritten.with_wrong_preamble.Goals as goal

pub returns : goal.returns
returns c =
    let given = c.args.bytes.now in
    subst (λ bs. Miswrites Preamble given (set bs c.args.at (bit_xor (get_or given c.args.at 0) 1))) (sym c.in_ok-other.ensures.items)
    (turned given c.args.at c.if-at-ge8.false c.if-at-bytes.false)
