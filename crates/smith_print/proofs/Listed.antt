-- Loops that print entries, each on a line of its own.
use Rattle.std.proofs.Common.{◌≡◌, ℕ, ◌+◌, ◌<◌, ◌≤◌, List, [], ◌∷◌, ◌++◌, length, map, drop, get_or, refl, ap, sym, ◌∙◌, append_assoc, append-nil, arith}
use Rattle.std.proofs.lemmas.List.{drop-drop}
use Rattle.smith_input.proofs.Rests.{drop_past, rest_at}
use Rattle.smith_print.specs.declared.spaces.IndexSpaces.{IndexSpaces}
use Rattle.smith_print.specs.Lines.{after_all, entry_lines}
use Rattle.smith_print.specs.Words.{item_line}

module _ {A : Type 0} (f : A → ℕ → IndexSpaces → List ℕ) (g : A → IndexSpaces → IndexSpaces) (c : ℕ) where
  -- What was printed, and then the lines of the entries from i on, is what was there and then all lines.
  pub record Going (xs : List A) (i : ℕ) (old new : List ℕ) (s r : IndexSpaces) (os ps : List ℕ) : Type 0 where
    pub printed : new ++ entry_lines f g c r ps (drop i xs) ≡ old ++ entry_lines f g c s os xs
    pub indexes : after_all g r (drop i xs) ≡ after_all g s xs
    pub passed : drop (length (drop i xs)) ps ≡ drop (length xs) os

  pub going_first : (xs : List A) (old os : List ℕ) (s : IndexSpaces) → Going xs 0 old old s s os os
  going_first xs old os s = record { printed = refl; indexes = refl; passed = refl }

  pub going_next : (xs : List A) (i : ℕ) (x : A) (old a b d : List ℕ) (s r t : IndexSpaces) (os ps qs : List ℕ) → Going xs i old a s r os ps
      → i < length xs → x ≡ get_or xs i x → b ≡ a ++ item_line c ps → d ≡ b ++ f x c r → t ≡ g x r → qs ≡ drop 1 ps
      → Going xs (i + 1) old d s t os qs
  going_next xs i x old a b d s r t os ps qs h low at ends adds after past =
      let rest = drop (i + 1) xs in
      let front : drop i xs ≡ x ∷ rest = rest_at xs i x low at in
      let line = item_line c ps in
      let count : 1 + length rest ≡ length (x ∷ rest) = omega arith in
      record {
        printed = ap (λ q. q ++ entry_lines f g c t qs rest) (adds ∙ ap (λ z. z ++ f x c r) ends) ∙ append_assoc (a ++ line) (f x c r)
            (entry_lines f g c t qs rest)
            ∙ append_assoc a line (f x c r ++ entry_lines f g c t qs rest) ∙ ap (λ q. a ++ (line ++ (f x c r ++ entry_lines f g c q qs rest))) after
            ∙ ap (λ q. a ++ (line ++ (f x c r ++ entry_lines f g c (g x r) q rest))) past
            ∙ sym (ap (λ ys. a ++ entry_lines f g c r ps ys) front ∙ refl) ∙ h.printed;
        indexes = ap (λ q. after_all g q rest) after ∙ sym (ap (λ ys. after_all g r ys) front ∙ refl) ∙ h.indexes;
        passed = ap (drop (length rest)) past ∙ drop-drop (length rest) 1 ps ∙ ap (λ n. drop n ps) count ∙ sym (ap (λ ys. drop (length ys) ps) front)
            ∙ h.passed;
      }

  pub going_printed : (xs : List A) (i : ℕ) (old new : List ℕ) (s r : IndexSpaces) (os ps : List ℕ) → Going xs i old new s r os ps → length xs ≤ i
      → new ≡ old ++ entry_lines f g c s os xs
  going_printed xs i old new s r os ps h e =
      sym (append-nil new) ∙ ap (λ ys. new ++ entry_lines f g c r ps ys) (sym (drop_past xs i e)) ∙ h.printed

  pub going_indexes : (xs : List A) (i : ℕ) (old new : List ℕ) (s r : IndexSpaces) (os ps : List ℕ) → Going xs i old new s r os ps → length xs ≤ i
      → r ≡ after_all g s xs
  going_indexes xs i old new s r os ps h e = ap (after_all g r) (sym (drop_past xs i e)) ∙ h.indexes

  pub going_passed : (xs : List A) (i : ℕ) (old new : List ℕ) (s r : IndexSpaces) (os ps : List ℕ) → Going xs i old new s r os ps → length xs ≤ i
      → ps ≡ drop (length xs) os
  going_passed xs i old new s r os ps h e = ap (λ ys. drop (length ys) ps) (sym (drop_past xs i e)) ∙ h.passed

module _ {A B : Type 0} (f : B → ℕ → IndexSpaces → List ℕ) (g : B → IndexSpaces → IndexSpaces) (v : A → B) where
  pub entry_lines-map : (c : ℕ) (s : IndexSpaces) (os : List ℕ) (xs : List A)
      → entry_lines f g c s os (map v xs) ≡ entry_lines (λ x. f (v x)) (λ x. g (v x)) c s os xs
  entry_lines-map c s os [] = refl
  entry_lines-map c s os (x ∷ xs) = ap (λ q. item_line c os ++ (f (v x) c s ++ q)) (entry_lines-map c (g (v x) s) (drop 1 os) xs)

module _ {A B : Type 0} (g : B → IndexSpaces → IndexSpaces) (v : A → B) where
  pub after_all-map : (s : IndexSpaces) (xs : List A) → after_all g s (map v xs) ≡ after_all (λ x. g (v x)) s xs
  after_all-map s [] = refl
  after_all-map s (x ∷ xs) = after_all-map (g (v x) s) xs
