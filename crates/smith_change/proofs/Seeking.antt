-- What is sought, place by place.
use Rattle.std.proofs.Common.{◌≡◌, ℕ, ◌+◌, ◌-◌, ◌<◌, ◌≤◌, true, false, Option, Some, None, ap, sym, refl, subst, ◌∙◌, arith, nat_lt, ⊎_elim, rules}
use Rattle.std.proofs.lemmas.Bool.{cases_lt}
use Rattle.std.proofs.lemmas.Bool.Decides.{nat_tests}
use Rattle.std.specs.Prelude.{IsSomeAnd, MatchOption}
use Rattle.std.specs.Option.{IsSome, option_map, option_zip}
use Rattle.smith_change.specs.Rows.{first_or, in_turn}
use Rattle.smith_read.specs.Search.{among, is_here, past, sought}
use Rattle.smith_read.proofs.Seeking.{and_then, by_number, past_less, past_more, past_past, sought_less, sought_more}
use Rattle.smith_read.specs.declared.search.Search.{Search}
use Rattle.smith_read.specs.declared.search.Search.TheVariants.{Ahead, Over}

-- among the first places, or later

pub turn_here : {C : Type 0} (n k : ℕ) (first later : ℕ → C) → k < n → in_turn n first later k ≡ first k
turn_here n k first later h = let t : nat_lt k n ≡ true = grind (arith, nat_tests) in rw t refl

pub turn_there : {C : Type 0} (n k : ℕ) (first later : ℕ → C) → n ≤ k → in_turn n first later k ≡ later (k - n)
turn_there n k first later h = let t : nat_lt k n ≡ false = grind (arith, nat_tests) in rw t refl

-- A first that has n places, and a second that has m.
module _ {A B C : Type 0} (cons : A → B → C) (n m : ℕ) (f : ℕ → Option A) (g : ℕ → Option B) (x : A) (y : B) where
  abbrev in_first : ℕ → Option C
  in_first j = option_map (λ z. cons z y) (f j)

  abbrev in_second : ℕ → Option C
  in_second j = option_map (cons x) (g j)

  abbrev pub both : ℕ → Option C
  both k = in_turn n (λ j. option_map (λ z. cons z y) (f j)) (λ j. option_map (cons x) (g j)) k

  -- the first, and then the second
  abbrev pub one_by_one : Search → Option A → Option C
  one_by_one s o = and_then o (λ z. option_map (cons z) (sought m (past n s) g y))

  first_by : (o : Option A) → option_map (λ z. cons z y) o ≡ and_then o (λ z. option_map (cons z) (Some y))
  first_by None = refl
  first_by (Some z) = refl

  first_turn : (k : ℕ) → k < n → sought (n + m) (Ahead k) both (cons x y) ≡ one_by_one (Ahead k) (sought n (Ahead k) f x)
  first_turn k lt =
      sought_less (n + m) k both (cons x y) (omega arith) ∙ turn_here n k in_first in_second lt ∙ first_by (f k)
      ∙ sym (ap (one_by_one (Ahead k)) (sought_less n k f x lt) ∙ ap (λ s. and_then (f k) (λ z. option_map (cons z) (sought m s g y))) (past_less n k lt))

  later : (k : ℕ) → n ≤ k → one_by_one (Ahead k) (sought n (Ahead k) f x) ≡ option_map (cons x) (sought m (Ahead (k - n)) g y)
  later k ge = ap (one_by_one (Ahead k)) (sought_more n k f x ge) ∙ ap (λ s. option_map (cons x) (sought m s g y)) (past_more n k ge)

  second_turn : (k : ℕ) → n ≤ k → k < n + m → sought (n + m) (Ahead k) both (cons x y) ≡ option_map (cons x) (sought m (Ahead (k - n)) g y)
  second_turn k ge lt =
      sought_less (n + m) k both (cons x y) lt ∙ turn_there n k in_first in_second ge ∙ sym (ap (option_map (cons x)) (sought_less m (k - n) g y (omega arith)))

  no_turn : (k : ℕ) → n + m ≤ k → sought (n + m) (Ahead k) both (cons x y) ≡ option_map (cons x) (sought m (Ahead (k - n)) g y)
  no_turn k ge = sought_more (n + m) k both (cons x y) ge ∙ sym (ap (option_map (cons x)) (sought_more m (k - n) g y (omega arith)))

  pub sought_both : (s : Search) → sought (n + m) s both (cons x y) ≡ one_by_one s (sought n s f x)
  sought_both (Ahead k) =
      ⊎_elim (first_turn k)
      (λ ge. ⊎_elim (second_turn k ge) (no_turn k) (cases_lt k (n + m)) ∙ sym (later k ge)) (cases_lt k n)
  sought_both Over = refl

-- What is found of the two, seen otherwise.
module _ {X Y A B C : Type 0} (f1 : X → A) (f2 : Y → B) (h : X × Y → C) (cons : A → B → C) (same : (x : X) (y : Y) → h (x, y) ≡ cons (f1 x) (f2 y))
    (n m : ℕ) (f : ℕ → Option A) (g : ℕ → Option B) (a : A) (b : B) (s t : Search) where
  pub found_both : (p : Option X) (q : Option Y) → option_map f1 p ≡ sought n s f a → (IsSome p → t ≡ past n s) → option_map f2 q ≡ sought m t g b
      → option_map h (option_zip p q) ≡ sought (n + m) s (both cons n m f g a b) (cons a b)
  found_both None q is on more = sym (sought_both cons n m f g a b s ∙ sym (ap (one_by_one cons n m f g a b s) is))
  found_both (Some x) None is on more =
      sym (sought_both cons n m f g a b s ∙ sym (ap (one_by_one cons n m f g a b s) is)
      ∙ ap (λ u. option_map (cons (f1 x)) (sought m u g b)) (sym (on refl)) ∙ sym (ap (option_map (cons (f1 x))) more))
  found_both (Some x) (Some y) is on more =
      ap Some (same x y)
      ∙ sym (sought_both cons n m f g a b s ∙ sym (ap (one_by_one cons n m f g a b s) is)
      ∙ ap (λ u. option_map (cons (f1 x)) (sought m u g b)) (sym (on refl)) ∙ sym (ap (option_map (cons (f1 x))) more))

pub moved_both : {X Y : Type 0} (n m : ℕ) (s t u : Search) (p : Option X) (q : Option Y) → (IsSome p → t ≡ past n s)
    → (IsSome q → u ≡ past m t) → IsSome (option_zip p q) → u ≡ past (n + m) s
moved_both n m s t u None q on more is = absurd cc
moved_both n m s t u (Some x) None on more is = absurd cc
moved_both n m s t u (Some x) (Some y) on more is = more refl ∙ ap (past m) (on refl) ∙ past_past m n s

-- A place of its own, and then the places inside.
module _ {A : Type 0} (n : ℕ) (own : Option A) (later : ℕ → Option A) (x : A) where
  pub sought_here : (s : Search) → is_here s ≡ true → sought (1 + n) s (first_or own later) x ≡ own
  sought_here (Ahead k) is = search rules
  sought_here Over is = absurd cc

  pub sought_later : (s : Search) → is_here s ≡ false → sought (1 + n) s (first_or own later) x ≡ sought n (past 1 s) later x
  sought_later (Ahead k) is = search rules
  sought_later Over is = refl

-- What was here is behind, whatever is inside.
pub past_here : (n : ℕ) (s : Search) → is_here s ≡ true → past 1 s ≡ past (1 + n) s
past_here n s is = over s is ∙ sym (ap (past n) (over s is)) ∙ past_past n 1 s
  where
    over : (u : Search) → is_here u ≡ true → past 1 u ≡ Over
    over (Ahead m) e = search rules
    over Over e = absurd cc

-- what is sought, seen otherwise
pub sought_map : {A B : Type 0} (h : A → B) (n : ℕ) (s : Search) (f : ℕ → Option A) (x : A)
    → sought n s (λ j. option_map h (f j)) (h x) ≡ option_map h (sought n s f x)
sought_map h n s f x = by (among n s)
  where
    by : (o : Option ℕ) → by_number o (λ j. option_map h (f j)) (h x) ≡ option_map h (by_number o f x)
    by None = refl
    by (Some k) = refl

-- inside, seen otherwise
pub later_mapped : {A B : Type 0} (h : A → B) (n : ℕ) (own : Option B) (f : ℕ → Option A) (x : A) (s t : Search) (found : Option A)
    → is_here s ≡ false → t ≡ past 1 s → found ≡ sought n t f x
    → option_map h found ≡ sought (1 + n) s (first_or own (λ j. option_map h (f j))) (h x)
later_mapped h n own f x s t found is on e =
    ap (option_map h) e ∙ sym (sought_map h n t f x) ∙ ap (λ u. sought n u (λ j. option_map h (f j)) (h x)) on
    ∙ sym (sought_later n own (λ j. option_map h (f j)) (h x) s is)

-- Something is made only of what is there.
pub made_of_some : {V R : Type 0} (post : V → R → Type 0) (p : Option V) (r : Option R) → MatchOption p (r ≡ None) (λ v. IsSomeAnd r (post v))
    → IsSome r → IsSome p
made_of_some post None r cases there = let no = subst IsSome cases there in absurd cc
made_of_some post (Some v) r cases there = refl

-- What a function made of what is found, seen otherwise.
module _ {V R L D : Type 0} (seen : R → D) (h : L → D) (view : V → L) (post : V → R → Type 0) (is : (v : V) (r : R) → post v r → seen r ≡ h (view v)) where
  made_of : (p : Option V) (r : Option R) → MatchOption p (r ≡ None) (λ v. IsSomeAnd r (post v)) → option_map seen r ≡ option_map h (option_map view p)
  made_of None r cases = ap (option_map seen) cases
  made_of (Some v) None cases = absurd cases
  made_of (Some v) (Some r) cases = ap Some (is v r cases)

  module _ (n : ℕ) (f : ℕ → Option L) (x : L) (s : Search) (p : Option V) (r : Option R) (cases : MatchOption p (r ≡ None) (λ v. IsSomeAnd r (post v))) where
    pub found_made : option_map view p ≡ sought n s f x → option_map seen r ≡ sought n s (λ j. option_map h (f j)) (h x)
    found_made found = made_of p r cases ∙ ap (option_map h) found ∙ sym (sought_map h n s f x)

    pub found_later : (own : Option D) (t : Search) → is_here t ≡ false → s ≡ past 1 t → option_map view p ≡ sought n s f x
        → option_map seen r ≡ sought (1 + n) t (first_or own (λ j. option_map h (f j))) (h x)
    found_later own t not_here on found = made_of p r cases ∙ later_mapped h n own f x t s (option_map view p) not_here on found

pub ruleset seeking = (sought_later, sought_here, sought_map, past_past)
