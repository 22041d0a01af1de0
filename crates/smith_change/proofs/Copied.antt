-- Copies of entries, one behind another.
use Rattle.std.proofs.Common.{◌≡◌, ℕ, ◌+◌, ◌<◌, ◌≤◌, true, false, Option, Some, None, ap, sym, refl, ◌∙◌, arith, append_assoc, rules}
use Rattle.std.proofs.Common.{List, [], ◌∷◌, ◌++◌, drop, get_or, map, length}
use Rattle.std.proofs.lemmas.List.{append-nil, map-append, take_rest}
use Rattle.std.specs.Option.{option_map}
use Rattle.std.specs.Prelude.{slice_range, ◌==◌}
use Rattle.smith_input.proofs.Lists.{map_drop, map_dropped}
use Rattle.smith_change.specs.Rows.{entry_alternative, exchanged}

module _ {X A : Type 0} (shown : X → A) where
  pub copied_next : (all all2 xs : List X) (i : ℕ) (x y : X) (whole : List A) → i < length xs → x ≡ get_or xs i x → shown y ≡ shown x
      → all2 ≡ all ++ y ∷ [] → map shown all ++ map shown (drop i xs) ≡ whole → map shown all2 ++ map shown (drop (i + 1) xs) ≡ whole
  copied_next all all2 xs i x y whole lt at same more h =
      let rest : List A = map shown (drop (i + 1) xs) in
      ap (λ l. map shown l ++ rest) more ∙ ap (λ l. l ++ rest) (map-append shown all (y ∷ [])) ∙ append_assoc (map shown all) (shown y ∷ []) rest
      ∙ ap (λ z. map shown all ++ z ∷ rest) same ∙ ap (λ l. map shown all ++ l) (sym (map_drop shown xs i x lt at)) ∙ h

  pub copied_end : (all xs : List X) (i : ℕ) (whole : List A) → length xs ≤ i → map shown all ++ map shown (drop i xs) ≡ whole → map shown all ≡ whole
  copied_end all xs i whole ge h = sym (ap (λ l. map shown all ++ l) (map_dropped shown xs i ge) ∙ append-nil (map shown all)) ∙ h

  pub copied_one : (all all2 : List X) (x y : X) → shown y ≡ shown x → all2 ≡ all ++ y ∷ [] → map shown all2 ≡ map shown all ++ shown x ∷ []
  copied_one all all2 x y same more = ap (map shown) more ∙ map-append shown all (y ∷ []) ∙ ap (λ z. map shown all ++ z ∷ []) same

  -- the entries from the one of that number on
  range_shown : (xs : List X) (i : ℕ) → map shown (slice_range xs i (length xs)) ≡ map shown (drop i xs)
  range_shown xs i = ap (map shown) (take_rest xs i)

  -- The alternatives of an entry, and what stands in front.
  module _ (again : A → Option A) (done : List A) where
    abbrev behind : Option (List A) → Option (List A)
    behind o = option_map (λ ys. done ++ ys) o

    pub none_empty : (a : ℕ) (xs : List X) → (length xs == 0) ≡ true → None ≡ behind (entry_alternative again a (map shown xs))
    none_empty a [] e = refl
    none_empty a (x ∷ xs) e = let no : (length (x ∷ xs) == 0) ≡ false = search rules in absurd cc

    pub without_first : (all : List A) (xs : List X) → (length xs == 0) ≡ false → all ≡ done ++ map shown (slice_range xs 1 (length xs))
        → Some all ≡ behind (entry_alternative again 0 (map shown xs))
    without_first all [] lt e = absurd cc
    without_first all (x ∷ xs) lt e = ap Some (e ∙ ap (λ ys. done ++ ys) (range_shown (x ∷ xs) 1))

    pub doubled : (one all : List A) (xs : List X) (x : X) → (length xs == 0) ≡ false → x ≡ get_or xs 0 x → one ≡ done ++ shown x ∷ []
        → all ≡ one ++ map shown xs → Some all ≡ behind (entry_alternative again 1 (map shown xs))
    doubled one all [] x lt at e1 e = absurd cc
    doubled one all (y ∷ xs) x lt at e1 e =
        ap Some
        (e ∙ ap (λ l. l ++ (shown y ∷ map shown xs)) e1 ∙ append_assoc done (shown x ∷ []) (shown y ∷ map shown xs)
        ∙ ap (λ z. done ++ shown z ∷ shown y ∷ map shown xs) at)

    pub by_exchange : (xs : List X) → behind (exchanged (map shown xs)) ≡ behind (entry_alternative again 2 (map shown xs))
    by_exchange [] = refl
    by_exchange (x ∷ xs) = refl

    pub followed_by : (one two all : List A) (xs : List X) (v x : X) (y : A) → (length xs == 0) ≡ false → v ≡ get_or xs 0 v → x ≡ get_or xs 0 x
        → Some y ≡ again (shown v) → one ≡ done ++ shown x ∷ [] → two ≡ one ++ y ∷ [] → all ≡ two ++ map shown (slice_range xs 1 (length xs))
        → Some all ≡ behind (entry_alternative again 3 (map shown xs))
    followed_by one two all [] v x y lt there at is e1 e2 e = absurd cc
    followed_by one two all (z ∷ xs) v x y lt there at is e1 e2 e =
        let rest : List A = map shown xs in
        ap Some
        (e ∙ ap (λ l. two ++ l) (range_shown (z ∷ xs) 1) ∙ ap (λ l. l ++ rest) (e2 ∙ ap (λ l. l ++ y ∷ []) e1)
        ∙ append_assoc (done ++ shown x ∷ []) (y ∷ []) rest ∙ append_assoc done (shown x ∷ []) (y ∷ rest) ∙ ap (λ w. done ++ shown w ∷ y ∷ rest) at)
        ∙ ap (λ o. behind (option_map (λ w. shown z ∷ w ∷ rest) o)) (is ∙ ap (λ w. again (shown w)) there)

    pub not_followed : (xs : List X) (x : X) → x ≡ get_or xs 0 x → None ≡ again (shown x) → None ≡ behind (entry_alternative again 3 (map shown xs))
    not_followed [] x at is = refl
    not_followed (z ∷ xs) x at is = ap (λ o. behind (option_map (λ w. shown z ∷ w ∷ map shown xs) o)) (is ∙ ap (λ w. again (shown w)) at)

  module _ (done : List A) where
    pub none_exchanged : (xs : List X) → length xs < 2 → None ≡ option_map (λ ys. done ++ ys) (exchanged (map shown xs))
    none_exchanged [] lt = refl
    none_exchanged (x ∷ []) lt = refl
    none_exchanged (x ∷ y ∷ xs) lt = absurd (omega (arith, lt))

    pub two_exchanged : (one two all : List A) (xs : List X) (x y : X) → 2 ≤ length xs → y ≡ get_or xs 1 y → x ≡ get_or xs 0 x
        → one ≡ done ++ shown y ∷ [] → two ≡ one ++ shown x ∷ [] → all ≡ two ++ map shown (slice_range xs 2 (length xs))
        → Some all ≡ option_map (λ ys. done ++ ys) (exchanged (map shown xs))
    two_exchanged one two all [] x y le at1 at0 e1 e2 e = absurd (omega (arith, le))
    two_exchanged one two all (z ∷ []) x y le at1 at0 e1 e2 e = absurd (omega (arith, le))
    two_exchanged one two all (z ∷ w ∷ xs) x y le at1 at0 e1 e2 e =
        let rest : List A = map shown xs in
        ap Some
        (e ∙ ap (λ l. two ++ l) (range_shown (z ∷ w ∷ xs) 2) ∙ ap (λ l. l ++ rest) (e2 ∙ ap (λ l. l ++ shown x ∷ []) e1)
        ∙ append_assoc (done ++ shown y ∷ []) (shown x ∷ []) rest ∙ append_assoc done (shown y ∷ []) (shown x ∷ rest)
        ∙ ap (λ v. done ++ shown v ∷ shown x ∷ rest) at1 ∙ ap (λ v. done ++ shown w ∷ shown v ∷ rest) at0)
