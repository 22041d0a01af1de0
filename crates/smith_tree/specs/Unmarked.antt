-- Scopes of which nothing is kept for a validator, as in components that need not validate.
use Rattle.std.specs.Prelude.{◌≡◌, false, []}
use Rattle.smith_syntax.specs.Marked.{Marked}

-- No types are marked, and the size is the size of a scope without imports and exports.
pub record KeepsNothing (own : Marked) : Type 0 where
  pub keeps : own.keeps ≡ false
  pub marks : own.marks ≡ []
  pub size : own.size ≡ 1
