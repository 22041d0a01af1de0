-- Labels byte by byte, by where in one the byte is.
use Rattle.std.proofs.Common.{◌≡◌, ◌⊎◌, inl, inr, ⊎_elim, ℕ, ◌≤◌, List, ◌∷◌, arith, subst, sym}
use Rattle.smith_input.specs.Kebab.{AreInWord, IsDigit, IsLetter}
use Rattle.smith_syntax.specs.Labels.{AreInAcronym, BeginsWith, IsCapital, IsFragment}
use Rattle.smith_syntax.proofs.Labels.{capital_goes, small_goes}

no_hyphen : (c : ℕ) → IsLetter c ⊎ IsDigit c → c ≡ 45 → ⊥
no_hyphen c (inl l) e = omega (arith, e, l.0)
no_hyphen c (inr d) e = omega (arith, e, d.0)

no_hyphen_either : (c : ℕ) → IsCapital c ⊎ IsDigit c → c ≡ 45 → ⊥
no_hyphen_either c (inl l) e = omega (arith, e, l.0)
no_hyphen_either c (inr d) e = omega (arith, e, d.0)

module _ (c : ℕ) (cs : List ℕ) where
  pub word_more : IsLetter c ⊎ IsDigit c → BeginsWith AreInWord (c ∷ cs) → BeginsWith AreInWord cs
  word_more w b = ⊎_elim (λ (h : (c ≡ 45) × BeginsWith IsFragment cs). absurd (no_hyphen c w h.0))
      (λ (m : (IsLetter c ⊎ IsDigit c) × BeginsWith AreInWord cs). m.1) (small_goes c cs b)

  pub word_ends : (IsLetter c ⊎ IsDigit c → ⊥) → BeginsWith AreInWord (c ∷ cs) → (c ≡ 45) × BeginsWith IsFragment cs
  word_ends not b = ⊎_elim (λ (h : (c ≡ 45) × BeginsWith IsFragment cs). h)
      (λ (m : (IsLetter c ⊎ IsDigit c) × BeginsWith AreInWord cs). absurd (not m.0)) (small_goes c cs b)

  pub acronym_more : IsCapital c ⊎ IsDigit c → BeginsWith AreInAcronym (c ∷ cs) → BeginsWith AreInAcronym cs
  acronym_more w b = ⊎_elim (λ (h : (c ≡ 45) × BeginsWith IsFragment cs). absurd (no_hyphen_either c w h.0))
      (λ (m : (IsCapital c ⊎ IsDigit c) × BeginsWith AreInAcronym cs). m.1) (capital_goes c cs b)

  pub acronym_ends : (IsCapital c ⊎ IsDigit c → ⊥) → BeginsWith AreInAcronym (c ∷ cs) → (c ≡ 45) × BeginsWith IsFragment cs
  acronym_ends not b = ⊎_elim (λ (h : (c ≡ 45) × BeginsWith IsFragment cs). h)
      (λ (m : (IsCapital c ⊎ IsDigit c) × BeginsWith AreInAcronym cs). absurd (not m.0)) (capital_goes c cs b)

  -- after digits
  abbrev AfterDigits : Type 0
  AfterDigits = BeginsWith AreInWord (c ∷ cs) ⊎ BeginsWith AreInAcronym (c ∷ cs)

  pub digit_more : IsDigit c → AfterDigits → BeginsWith AreInWord cs ⊎ BeginsWith AreInAcronym cs
  digit_more d b = ⊎_elim (λ w. inl (word_more (inr d) w)) (λ a. inr (acronym_more (inr d) a)) b

  pub hyphen_next : c ≡ 45 → AfterDigits → BeginsWith IsFragment cs
  hyphen_next e b = ⊎_elim (λ w. (word_ends (λ h. no_hyphen c h e) w).1) (λ a. (acronym_ends (λ h. no_hyphen_either c h e) a).1) b

  pub letter_more : (IsDigit c → ⊥) → (c ≡ 45 → ⊥) → AfterDigits → (IsLetter c × BeginsWith AreInWord cs) ⊎ (IsCapital c × BeginsWith AreInAcronym cs)
  letter_more digit hyphen b = ⊎_elim
      (λ (w : BeginsWith AreInWord (c ∷ cs)). ⊎_elim (λ (h : (c ≡ 45) × BeginsWith IsFragment cs). absurd (hyphen h.0))
      (λ (m : (IsLetter c ⊎ IsDigit c) × BeginsWith AreInWord cs). ⊎_elim (λ l. inl (l, m.1)) (λ (d : IsDigit c). absurd (digit d)) m.0) (small_goes c cs w))
      (λ (a : BeginsWith AreInAcronym (c ∷ cs)). ⊎_elim (λ (h : (c ≡ 45) × BeginsWith IsFragment cs). absurd (hyphen h.0))
      (λ (m : (IsCapital c ⊎ IsDigit c) × BeginsWith AreInAcronym cs). ⊎_elim (λ l. inr (l, m.1)) (λ (d : IsDigit c). absurd (digit d)) m.0)
      (capital_goes c cs a))
      b
