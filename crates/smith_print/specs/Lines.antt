-- Entries on lines of their own.
use Rattle.std.specs.Prelude.{ℕ, List, [], ◌∷◌, length, drop, codes, ◌==◌, if◌then◌else◌}
use Rattle.smith_print.specs.declared.spaces.IndexSpaces.{IndexSpaces}
use Rattle.smith_print.specs.Words.{◌⧺◌, item_line, line}

-- each entry on a line of its own, with the index spaces after those before it, and behind the next of these offsets if there are any
abbrev pub entry_lines
    : {A : Type 0} → (A → ℕ → IndexSpaces → List ℕ) → (A → IndexSpaces → IndexSpaces) → ℕ → IndexSpaces → List ℕ → List A → List ℕ
entry_lines text after columns s offsets [] = []
entry_lines text after columns s offsets (x ∷ xs) =
    item_line columns offsets ⧺ text x columns s ⧺ entry_lines text after columns (after x s) (drop 1 offsets) xs

-- without offsets
abbrev pub lines : {A : Type 0} → (A → ℕ → IndexSpaces → List ℕ) → (A → IndexSpaces → IndexSpaces) → ℕ → IndexSpaces → List A → List ℕ
lines text after columns s xs = entry_lines text after columns s [] xs

-- the index spaces after all of them
abbrev pub after_all : {A : Type 0} → (A → IndexSpaces → IndexSpaces) → IndexSpaces → List A → IndexSpaces
after_all after s [] = s
after_all after s (x ∷ xs) = after_all after (after x s) xs

-- contents, and a closing parenthesis: on a line of its own unless there are none
abbrev pub closed : ℕ → List ℕ → List ℕ
closed columns contents = contents ⧺ (if length contents == 0 then codes ")" else (line columns ⧺ codes ")"))
