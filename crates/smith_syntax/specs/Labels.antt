-- Labels of either case (Explainer.md, Import and Export Definitions, label): fragments joined by single hyphens, each of small letters
-- and digits or of capitals and digits, of which the first begins with a letter.
use Rattle.std.specs.Prelude.{◌≡◌, ℕ, ◌≤◌, ◌⊎◌, List, [], ◌∷◌, ◌++◌}
use Rattle.smith_input.specs.Kebab.{AreInWord, IsDigit, IsLetter}

-- A to Z
abbrev pub IsCapital : ℕ → Type 0
IsCapital c = (65 ≤ c) × (c ≤ 90)

-- capitals and digits
abbrev pub AreInAcronym : List ℕ → Type 0
AreInAcronym [] = Unit {0}
AreInAcronym (c ∷ cs) = (IsCapital c ⊎ IsDigit c) × AreInAcronym cs

-- a letter, and then letters of its case and digits
abbrev pub IsFirstFragment : List ℕ → Type 0
IsFirstFragment [] = ⊥
IsFirstFragment (c ∷ cs) = (IsLetter c × AreInWord cs) ⊎ (IsCapital c × AreInAcronym cs)

-- letters of one case and digits, one at least
abbrev pub IsFragment : List ℕ → Type 0
IsFragment [] = ⊥
IsFragment (c ∷ cs) = AreInWord (c ∷ cs) ⊎ AreInAcronym (c ∷ cs)

-- fragments, with a hyphen in front of each
pub data AreFragments : List ℕ → Type 0 where
  none : AreFragments []
  hyphen : (cs ds : List ℕ) → IsFragment cs → AreFragments ds → AreFragments (45 ∷ (cs ++ ds))

-- bytes of that form, and then fragments
abbrev pub BeginsWith : (List ℕ → Type 0) → List ℕ → Type 0
BeginsWith form cs = (ds es : List ℕ) × (cs ≡ ds ++ es) × form ds × AreFragments es

abbrev pub IsLabel : List ℕ → Type 0
IsLabel = BeginsWith IsFirstFragment
