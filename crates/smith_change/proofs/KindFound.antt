-- Where the sort of a place is found.
use Rattle.std.proofs.Common.{◌≡◌, ℕ, ◌+◌, ◌-◌, ◌<◌, ◌≤◌, Bool, true, false, ap, sym, refl, ◌∙◌, arith, is_some, rules}
use Rattle.std.proofs.Common.{⊎_elim, ◌⊎◌, inl, inr}
use Rattle.std.proofs.lemmas.Bool.{cases_lt}
use Rattle.smith_read.specs.Search.{among, is_here, past}
use Rattle.smith_read.specs.declared.search.Search.{Search}
use Rattle.smith_read.specs.declared.search.Search.TheVariants.{Ahead, Over}
use Rattle.smith_read.proofs.Seeking.{among_less, among_more, past_less, past_more, past_past}

-- among the first places, or later

abbrev pub is_among : ℕ → Search → Bool
is_among n s = is_some (among n s)

pub here_among : (s : Search) → is_here s ≡ is_among 1 s
here_among (Ahead k) = ⊎_elim
    (λ lt. let zero : k ≡ 0 = omega (arith, lt) in rw zero refl)
    (λ ge. let no : is_here (Ahead k) ≡ false = eqb_no k ge in no ∙ sym (ap is_some (among_more 1 k ge)))
    (cases_lt k 1)
  where
    eqb_no : (k : ℕ) → 1 ≤ k → is_here (Ahead k) ≡ false
    eqb_no k ge = search rules
here_among Over = refl

pub among_first : (n m : ℕ) (s : Search) → is_among n s ≡ true → is_among (n + m) s ≡ true
among_first n m (Ahead k) is =
    ⊎_elim (λ lt. ap is_some (among_less (n + m) k (omega arith)))
    (λ ge. let no = ap is_some (among_more n k ge) in absurd cc) (cases_lt k n)
among_first n m Over is = absurd cc

pub past_first : (n m : ℕ) (s : Search) → is_among n s ≡ true → past n s ≡ past (n + m) s
past_first n m (Ahead k) is =
    ⊎_elim (λ lt. past_less n k lt ∙ sym (past_less (n + m) k (omega arith)))
    (λ ge. let no = ap is_some (among_more n k ge) in absurd cc) (cases_lt k n)
past_first n m Over is = absurd cc

pub among_later : (n m : ℕ) (s : Search) → is_among n s ≡ false → is_among (n + m) s ≡ is_among m (past n s)
among_later n m (Ahead k) is =
    ⊎_elim (λ lt. let yes = ap is_some (among_less n k lt) in absurd cc)
    (λ ge. by ge (cases_lt k (n + m)) ∙ sym (ap (is_among m) (past_more n k ge))) (cases_lt k n)
  where
    by : n ≤ k → (k < n + m) ⊎ (n + m ≤ k) → is_among (n + m) (Ahead k) ≡ is_among m (Ahead (k - n))
    by ge (inl lt) = ap is_some (among_less (n + m) k lt) ∙ sym (ap is_some (among_less m (k - n) (omega arith)))
    by ge (inr more) = ap is_some (among_more (n + m) k more) ∙ sym (ap is_some (among_more m (k - n) (omega arith)))
among_later n m Over is = refl

-- Places in a row: what is left of them has r places, of which the first is an entry's own.
module _ (s t : Search) (r rest : ℕ) (w : Bool) (v : Search) (on : t ≡ past 1 s) (found : is_among r s ≡ w) (moved : past r s ≡ v) where
  pub here_step : r ≡ 1 + rest → is_here s ≡ true → (true ≡ w) × (t ≡ v)
  here_step e is =
      let one : is_among 1 s ≡ true = sym (here_among s) ∙ is in
      (sym (among_first 1 rest s one) ∙ (sym (ap (λ n. is_among n s) e) ∙ found), on ∙ (past_first 1 rest s one ∙ (sym (ap (λ n. past n s) e) ∙ moved)))

  pub next_step : r ≡ 1 + rest → is_here s ≡ false → (is_among rest t ≡ w) × (past rest t ≡ v)
  next_step e is =
      let one : is_among 1 s ≡ false = sym (here_among s) ∙ is in (
        ap (is_among rest) on ∙ (sym (among_later 1 rest s one) ∙ (sym (ap (λ n. is_among n s) e) ∙ found)),
        ap (past rest) on ∙ (past_past rest 1 s ∙ (sym (ap (λ n. past n s) e) ∙ moved)),
      )

  module _ (n : ℕ) (e : r ≡ 1 + (n + rest)) (not_here : is_here s ≡ false) (u : Search) (after : u ≡ past n t) where
    abbrev inside : (is_among (n + rest) t ≡ w) × (past (n + rest) t ≡ v)
    inside =
        let one : is_among 1 s ≡ false = sym (here_among s) ∙ not_here in (
          ap (is_among (n + rest)) on ∙ (sym (among_later 1 (n + rest) s one) ∙ (sym (ap (λ n. is_among n s) e) ∙ found)),
          ap (past (n + rest)) on ∙ (past_past (n + rest) 1 s ∙ (sym (ap (λ n. past n s) e) ∙ moved)),
        )

    pub inside_step : is_among n t ≡ true → (true ≡ w) × (u ≡ v)
    inside_step is = (sym (among_first n rest t is) ∙ inside.0, after ∙ (past_first n rest t is ∙ inside.1))

    pub later_step : is_among n t ≡ false → (is_among rest u ≡ w) × (past rest u ≡ v)
    later_step is =
        (ap (is_among rest) after ∙ (sym (among_later n rest t is) ∙ inside.0), ap (past rest) after ∙ (past_past rest n t ∙ inside.1))

pub ruleset kinds = (here_among, among_first, past_first, among_later, past_past)
