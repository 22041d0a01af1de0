-- Loops that ask before each turn whether they make it.
use Rattle.std.specs.Prelude.{◌≡◌, ℕ, ◌+◌, true, false, List, [], ◌∷◌}
use Rattle.smith_input.specs.Reading.{More}

-- A loop that asks before each turn, after `done` turns. Item s bytes x rest t: in the state s the bytes produce the
-- item x, and leave rest and the state t. Ends s bytes rest t: the loop ends by itself if the answer is true.
pub data Loop {S A : Type 0} (Ends : S → List ℕ → List ℕ → S → Type 0) (Item : S → List ℕ → A → List ℕ → S → Type 0) (bits min max : ℕ)
    : ℕ → S → List ℕ → List A → List ℕ → S → Type 0 where
  no_more : {done : ℕ} {s t : S} {bytes rest : List ℕ} → More bits done min max bytes false rest → t ≡ s → Loop Ends Item bits min max done s bytes [] rest t
  by_itself : {done : ℕ} {s t : S} {bytes mid rest : List ℕ} → More bits done min max bytes true mid → Ends s mid rest t
      → Loop Ends Item bits min max done s bytes [] rest t
  an_item : {done : ℕ} {s t u : S} {bytes mid after rest : List ℕ} {x : A} {xs : List A} → More bits done min max bytes true mid → Item s mid x after t
      → Loop Ends Item bits min max (done + 1) t after xs rest u → Loop Ends Item bits min max done s bytes (x ∷ xs) rest u

-- the loop never ends by itself
abbrev pub Never : {S : Type 0} → S → List ℕ → List ℕ → S → Type 0
Never s bytes rest t = ⊥

-- the state after all items
abbrev pub after_all : {S A : Type 0} → (S → A → S) → S → List A → S
after_all next s [] = s
after_all next s (x ∷ xs) = after_all next (next s x) xs

-- in the state before it, each item is as it should be
abbrev pub Along : {S A : Type 0} → (S → A → Type 0) → (S → A → S) → S → List A → Type 0
Along P next s [] = Unit {0}
Along P next s (x ∷ xs) = P s x × Along P next (next s x) xs
