use Rattle.std.proofs.Common.{◌≡◌, ℕ, zero, suc, ◌<◌, true, refl, arith, List, [], ◌∷◌, map}
use Rattle.std.specs.Prelude.{codes}
use Rattle.std.specs.Fmt.{digits, decimal}
use Rattle.smith_input.specs.NewNames.{IsMadeNew, appended, is_among}
use Rattle.smith_input.specs.Script.{pick}
use Rattle.smith_input.proofs.laws.worked_names.Goals as goal

pub returns-clause-hyphen : goal.returns-clause-hyphen
unfolding pick
returns-clause-hyphen c = (refl, refl)

pub returns-clause-longest : goal.returns-clause-longest
returns-clause-longest c = refl

pub returns-clause-nothing : goal.returns-clause-nothing
unfolding pick
returns-clause-nothing c = (refl, refl)

pub returns-clause-no_hyphen : goal.returns-clause-no_hyphen
returns-clause-no_hyphen c = refl

abbrev eleven : List (List ℕ)
eleven = codes "x" ∷ codes "x11" ∷ map (λ c. c ∷ []) (codes "abcdefghi")

both_taken : (n : ℕ) → n < 2 → is_among eleven (appended (codes "x") (decimal 11) n) ≡ true
unfolding digits
both_taken zero h = refl
both_taken (suc zero) h = refl
both_taken (suc (suc n)) h = absurd (omega (arith, h))

made : IsMadeNew eleven (codes "x") (codes "x1111")
unfolding digits
made = record { times = 2; name_is = refl; taken = both_taken; is_new = refl }

pub returns-clause-twice : goal.returns-clause-twice
unfolding pick digits
returns-clause-twice c = (refl, made, refl)
