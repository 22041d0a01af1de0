-- Names in kebab case: the labels in small letters of Explainer.md, Import and Export Definitions: words of a small letter and
-- then small letters or digits, joined by single hyphens.
use Rattle.std.specs.Prelude.{ℕ, ◌≤◌, ◌⊎◌, List, [], ◌∷◌, ◌++◌}

-- a to z
abbrev pub IsLetter : ℕ → Type 0
IsLetter c = (97 ≤ c) × (c ≤ 122)

-- 0 to 9
abbrev pub IsDigit : ℕ → Type 0
IsDigit c = (48 ≤ c) × (c ≤ 57)

-- small letters and digits
abbrev pub AreInWord : List ℕ → Type 0
AreInWord [] = Unit {0}
AreInWord (c ∷ cs) = (IsLetter c ⊎ IsDigit c) × AreInWord cs

-- a small letter, and then small letters and digits
abbrev pub IsWord : List ℕ → Type 0
IsWord [] = ⊥
IsWord (c ∷ cs) = IsLetter c × AreInWord cs

-- one word, or a word, a hyphen and a name
pub data Kebab : List ℕ → Type 0 where
  word : {cs : List ℕ} → IsWord cs → Kebab cs
  hyphen : (cs ds : List ℕ) → IsWord cs → Kebab ds → Kebab (cs ++ 45 ∷ ds)
