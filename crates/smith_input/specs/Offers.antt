-- What is offered: items, each with its condition.
use Rattle.std.specs.Prelude.{Bool, List, [], ◌∷◌, if◌then◌else◌}

-- these, if the condition holds
abbrev pub offered : {A : Type 0} → Bool → List A → List A
offered condition xs = if condition then xs else []

-- What a choice is among: each item whose condition holds, in order.
abbrev pub offers_of : {A : Type 0} → List (Bool × A) → List A
offers_of [] = []
offers_of (o ∷ os) = if o.0 then o.1 ∷ offers_of os else offers_of os
