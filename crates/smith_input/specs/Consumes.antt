-- What a call that reads says of its input.
use Rattle.std.specs.Prelude.{◌≡◌, ℕ, List, IfErr, Result}
use Rattle.smith_input.specs.Reading.{IsTail}
use Rattle.smith_input.specs.declared.error.Error.{Error}
use Rattle.smith_input.specs.declared.error.Error.TheVariants as error

-- A call that reads leaves a tail of the bytes, also when it fails, which it does only when out of memory.
pub record Consumes {A : Type 0} (result : Result A Error) (bytes rest : List ℕ) : Type 0 where
  pub tail : IsTail rest bytes
  pub memory : IfErr result (λ e. e ≡ error.OutOfMemory)
