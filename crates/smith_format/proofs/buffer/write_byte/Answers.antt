use Rattle.std.proofs.Common.{ap, ◌∙◌, ◌++◌, ◌∷◌, [], arith}
use Rattle.smith_format.proofs.Steps.{gains_bytes}
use Rattle.smith_format.proofs.buffer.write_byte.Goals as goal

pub returns : goal.returns
returns c =
    gains_bytes _ (c.push_reserved.ensures.items ∙ ap (λ xs. xs ++ c.args.value ∷ []) c.reserve.ensures.items)
    (omega (arith, c.reserve.ensures.capacity, c.push_reserved.ensures.capacity))
