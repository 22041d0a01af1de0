use Rattle.smith_types.proofs.MadeCoreSame.{made_core_same}
use Rattle.smith_types.proofs.laws.core_types_are_decided.Goals as goal

pub returns : goal.returns
returns c config around fuel bytes x y left rest r s =
    let d = made_core_same r s in
    (λ i. (d.value i, d.left i), d.rest)
