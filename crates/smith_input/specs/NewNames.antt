-- Names that are made different from the existing names.
use Rattle.std.specs.Prelude.{◌≡◌, ℕ, zero, suc, ◌<◌, Bool, true, false, bytes_eq, List, ◌++◌, length}
use Rattle.std.specs.Fmt.{decimal}
use Rattle.std.specs.List.{list_any}

-- the text, and then n times more
abbrev pub appended : List ℕ → List ℕ → ℕ → List ℕ
appended text more zero = text
appended text more (suc n) = appended text more n ++ more

-- A text that was read is made a name that is none of the existing names: their number is appended in decimal digits,
-- again and again while the text so far is one of them.
pub record IsMadeUnique (has : List ℕ → Bool) (size : ℕ) (text name : List ℕ) : Type 0 where
  pub times : ℕ
  pub name_is : name ≡ appended text (decimal size) times
  pub taken : (n : ℕ) → n < times → has (appended text (decimal size) n) ≡ true
  pub is_new : has name ≡ false

-- Is the text one of the names?
abbrev pub is_among : List (List ℕ) → List ℕ → Bool
is_among names text = list_any (λ name. bytes_eq name text) names

-- A text that was read is made a name that is none of these.
abbrev pub IsMadeNew : List (List ℕ) → List ℕ → List ℕ → Type 0
IsMadeNew names text name = IsMadeUnique (is_among names) (length names) text name
