-- What answers say of bytes, with an offset that is a number.
use Rattle.std.proofs.Common.{◌≡◌, ℕ, List, Option, None, Some, subst, sym}
use Rattle.std.specs.Option.{unwrap_or}
use Rattle.smith_verdict.specs.Answers.{AreBeyond, IsAnswer}
use Rattle.smith_verdict.specs.declared.answers.Answer.TheVariants as answer
use Rattle.smith_verdict.specs.declared.answers.Bound.{Bound}
use Rattle.smith_verdict.specs.declared.answers.Broken.{Broken}
use Rattle.smith_c.specs.Makes.{no_offset}

pub broken_at : (bytes : List ℕ) (reason : Broken) (place : Option ℕ) (offset : ℕ) → offset ≡ unwrap_or place no_offset
    → IsAnswer bytes (answer.Invalid reason place) → IsAnswer bytes (answer.Invalid reason (Some offset))
broken_at bytes reason None offset is found = absurd found
broken_at bytes reason (Some n) offset is found = subst (λ o. IsAnswer bytes (answer.Invalid reason (Some o))) (sym is) found

pub beyond_at : (bytes : List ℕ) (bound : Bound) (place : Option ℕ) (offset : ℕ) → offset ≡ unwrap_or place no_offset
    → IsAnswer bytes (answer.Bound bound place) → AreBeyond bytes offset
beyond_at bytes bound None offset is found = absurd found
beyond_at bytes bound (Some n) offset is found = subst (AreBeyond bytes) (sym is) found
