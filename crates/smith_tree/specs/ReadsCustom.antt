-- How a custom section is read.
use Rattle.std.specs.Prelude.{ℕ, List}
use Rattle.smith_input.specs.Texts.{ReadsText, ReadsBytes}

-- a custom section: a text of at most 1000 bytes, and then any bytes
abbrev pub ReadsCustom : List ℕ → List ℕ → List ℕ → List ℕ → Type 0
ReadsCustom b name contents rest = (mid : List ℕ) × ReadsText 1000 b name mid × ReadsBytes mid contents rest
