-- What is sought, place by place.
use Rattle.std.proofs.Common.{◌≡◌, ℕ, suc, ◌+◌, ◌-◌, ◌<◌, ◌≤◌, true, false, Option, Some, None, ap, sym, refl, ◌∙◌, arith, nat_lt, ⊎_elim, rules}
use Rattle.std.proofs.lemmas.Bool.{cases_lt}
use Rattle.std.proofs.lemmas.Bool.Decides.{nat_tests}
use Rattle.std.specs.Prelude.{if◌then◌else◌}
use Rattle.smith_read.specs.Search.{among, past, sought}
use Rattle.smith_read.specs.declared.search.Search.{Search}
use Rattle.smith_read.specs.declared.search.Search.TheVariants.{Ahead, Over}

-- A place some way ahead, or past: what is true of it after that many items.
module _ {A : Type 0} (over : A) (ahead : ℕ → A) (pass : ℕ → A → A)
    (passed : (n m : ℕ) → pass n (ahead m) ≡ (if nat_lt m n then over else ahead (m - n))) (stays : (n : ℕ) → pass n over ≡ over) where
  pub pass_less : (n m : ℕ) → m < n → pass n (ahead m) ≡ over
  pass_less n m h = let t : nat_lt m n ≡ true = grind (arith, nat_tests) in passed n m ∙ ap (λ b. if b then over else ahead (m - n)) t

  pub pass_more : (n m : ℕ) → n ≤ m → pass n (ahead m) ≡ ahead (m - n)
  pass_more n m h = let t : nat_lt m n ≡ false = grind (arith, nat_tests) in passed n m ∙ ap (λ b. if b then over else ahead (m - n)) t

  pass_in : (a b m : ℕ) → b ≤ m → pass a (ahead (m - b)) ≡ pass (b + a) (ahead m)
  pass_in a b m h =
      ⊎_elim
      (λ lt. pass_less a (m - b) lt ∙ sym (pass_less (b + a) m (omega arith)))
      (λ ge. pass_more a (m - b) ge ∙ (let e : m - b - a ≡ m - (b + a) = omega arith in ap ahead e) ∙ sym (pass_more (b + a) m (omega arith)))
      (cases_lt (m - b) a)

  pub pass_both : (a b m : ℕ) → pass a (pass b (ahead m)) ≡ pass (b + a) (ahead m)
  pass_both a b m =
      ⊎_elim
      (λ lt. ap (pass a) (pass_less b m lt) ∙ stays a ∙ sym (pass_less (b + a) m (omega arith)))
      (λ ge. ap (pass a) (pass_more b m ge) ∙ pass_in a b m ge)
      (cases_lt m b)

pub past_none : (s : Search) → past 0 s ≡ s
past_none (Ahead m) = search rules
past_none Over = refl

pub past_less : (n m : ℕ) → m < n → past n (Ahead m) ≡ Over
past_less = pass_less Over Ahead past (λ n m. refl) (λ n. refl)

pub past_more : (n m : ℕ) → n ≤ m → past n (Ahead m) ≡ Ahead (m - n)
past_more = pass_more Over Ahead past (λ n m. refl) (λ n. refl)

pub past_past : (a b : ℕ) (s : Search) → past a (past b s) ≡ past (b + a) s
past_past a b (Ahead m) = pass_both Over Ahead past (λ n k. refl) (λ n. refl) a b m
past_past a b Over = refl

pub ahead_one : (m : ℕ) → past 1 (Ahead (suc m)) ≡ Ahead m
ahead_one m = past_more 1 (suc m) (omega arith) ∙ (let e : suc m - 1 ≡ m = omega arith in rw e refl)

-- which it is

pub among_less : (n m : ℕ) → m < n → among n (Ahead m) ≡ Some m
among_less n m h = let t : nat_lt m n ≡ true = grind (arith, nat_tests) in rw t refl

pub among_more : (n m : ℕ) → n ≤ m → among n (Ahead m) ≡ None
among_more n m h = let t : nat_lt m n ≡ false = grind (arith, nat_tests) in rw t refl

pub among_none : (s : Search) → among 0 s ≡ None
among_none (Ahead m) = among_more 0 m (omega arith)
among_none Over = refl

module _ {A : Type 0} where
  -- by its number, if it has one
  abbrev pub by_number : Option ℕ → (ℕ → Option A) → A → Option A
  by_number o g x = elim o [ None ↦ Some x | Some k ↦ g k ]

  pub sought_less : (n m : ℕ) (g : ℕ → Option A) (x : A) → m < n → sought n (Ahead m) g x ≡ g m
  sought_less n m g x h = ap (λ o. by_number o g x) (among_less n m h)

  pub sought_more : (n m : ℕ) (g : ℕ → Option A) (x : A) → n ≤ m → sought n (Ahead m) g x ≡ Some x
  sought_more n m g x h = ap (λ o. by_number o g x) (among_more n m h)

  pub sought_none : (s : Search) (g : ℕ → Option A) (x : A) → sought 0 s g x ≡ Some x
  sought_none s g x = ap (λ o. by_number o g x) (among_none s)

abbrev pub and_then : {A B : Type 0} → Option A → (A → Option B) → Option B
and_then None f = None
and_then (Some x) f = f x
