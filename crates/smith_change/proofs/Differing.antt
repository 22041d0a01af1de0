-- Lists of tokens that differ in one token, or by one edit of one list.
use Rattle.std.proofs.Common.{◌≡◌, ℕ, suc, ◌-◌, Bool, true, false, Option, Some, None, ap, sym, refl, ◌∙◌, ⊎_elim, nat_lt, append_assoc}
use Rattle.std.proofs.Common.{List, [], ◌∷◌, ◌++◌, map, length}
use Rattle.std.proofs.lemmas.List.{map-append, length-map, append-nil}
use Rattle.std.proofs.Common.{◌⊎◌, inl, inr}
use Rattle.std.specs.Prelude.{if◌then◌else◌, ◌==◌}
use Rattle.std.specs.List.{flat_map}
use Rattle.std.specs.Option.{option_map}
use Rattle.smith_change.specs.Differs.{IsEdit, added, entries_tokens, exchanged, left_out}
use Rattle.smith_change.specs.Rows.{entry_alternative, exchanged as first_exchanged, first_or, followed, in_turn, row_changed}
use Rattle.smith_change.specs.Tokens.{Token, count, list_tokens}

-- One token is another. If that is the same token after all, something is so.
pub record OneToken (was is : List Token) (P : Type 0) : Type 0 where
  pub before : List Token
  pub old : Token
  pub new : Token
  pub after : List Token
  pub of_old : was ≡ before ++ old ∷ after
  pub of_new : is ≡ before ++ new ∷ after
  pub same : old ≡ new → P

-- The entries of one list are others.
pub record OneList (was is : List Token) : Type 0 where
  pub before : List Token
  pub old : List (List Token)
  pub new : List (List Token)
  pub after : List Token
  pub of_old : was ≡ before ++ (entries_tokens old ++ after)
  pub of_new : is ≡ before ++ (entries_tokens new ++ after)
  pub edited : IsEdit old new

abbrev pub Differ : List Token → List Token → Type 0 → Type 0
Differ was is P = OneToken was is P ⊎ OneList was is

pub one_token : (before after : List Token) (old new : Token) {P : Type 0} → (old ≡ new → P) → Differ (before ++ old ∷ after) (before ++ new ∷ after) P
one_token before after old new same =
    inl (record { before = before; old = old; new = new; after = after; of_old = refl; of_new = refl; same = same })

module _ {was is : List Token} {P : Type 0} where
  pub so : {Q : Type 0} → (P → Q) → Differ was is P → Differ was is Q
  so f (inl d) = inl (record { before = d.before; old = d.old; new = d.new; after = d.after; of_old = d.of_old; of_new = d.of_new; same = λ e. f (d.same e) })
  so f (inr d) = inr d

  -- after these
  pub behind : (front : List Token) → Differ was is P → Differ (front ++ was) (front ++ is) P
  behind front (inl d) = inl (record {
    before = front ++ d.before;
    old = d.old;
    new = d.new;
    after = d.after;
    of_old = ap (λ ts. front ++ ts) d.of_old ∙ sym (append_assoc front d.before (d.old ∷ d.after));
    of_new = ap (λ ts. front ++ ts) d.of_new ∙ sym (append_assoc front d.before (d.new ∷ d.after));
    same = d.same;
  })
  behind front (inr d) = inr (record {
    before = front ++ d.before;
    old = d.old;
    new = d.new;
    after = d.after;
    of_old = ap (λ ts. front ++ ts) d.of_old ∙ sym (append_assoc front d.before (entries_tokens d.old ++ d.after));
    of_new = ap (λ ts. front ++ ts) d.of_new ∙ sym (append_assoc front d.before (entries_tokens d.new ++ d.after));
    edited = d.edited;
  })

  -- before these
  pub ahead : (back : List Token) → Differ was is P → Differ (was ++ back) (is ++ back) P
  ahead back (inl d) = inl (record {
    before = d.before;
    old = d.old;
    new = d.new;
    after = d.after ++ back;
    of_old = ap (λ ts. ts ++ back) d.of_old ∙ append_assoc d.before (d.old ∷ d.after) back;
    of_new = ap (λ ts. ts ++ back) d.of_new ∙ append_assoc d.before (d.new ∷ d.after) back;
    same = d.same;
  })
  ahead back (inr d) = inr (record {
    before = d.before;
    old = d.old;
    new = d.new;
    after = d.after ++ back;
    of_old = ap (λ ts. ts ++ back) d.of_old ∙ append_assoc d.before (entries_tokens d.old ++ d.after) back
        ∙ ap (λ ts. d.before ++ ts) (append_assoc (entries_tokens d.old) d.after back);
    of_new = ap (λ ts. ts ++ back) d.of_new ∙ append_assoc d.before (entries_tokens d.new ++ d.after) back
        ∙ ap (λ ts. d.before ++ ts) (append_assoc (entries_tokens d.new) d.after back);
    edited = d.edited;
  })

-- where a place is

pub map_cases : {A B : Type 0} (h : A → B) (o : Option A) (y : B) → option_map h o ≡ Some y → (x : A) × (o ≡ Some x) × (h x ≡ y)
map_cases h None y e = absurd cc
map_cases h (Some x) y e = (x, refl, cc)

pub turn_cases : {A : Type 0} (n : ℕ) (f g : ℕ → Option A) (k : ℕ) (y : A) → in_turn n f g k ≡ Some y
    → ((j : ℕ) × (f j ≡ Some y)) ⊎ ((j : ℕ) × (g j ≡ Some y))
turn_cases n f g k y e = go (nat_lt k n) e
  where
    go : (b : Bool) → (if b then f k else g (k - n)) ≡ Some y → ((j : ℕ) × (f j ≡ Some y)) ⊎ ((j : ℕ) × (g j ≡ Some y))
    go true e = inl (k, e)
    go false e = inr (k - n, e)

pub first_cases : {A : Type 0} (own : Option A) (g : ℕ → Option A) (k : ℕ) (y : A) → first_or own g k ≡ Some y
    → (own ≡ Some y) ⊎ ((j : ℕ) × (g j ≡ Some y))
first_cases own g k y e = ⊎_elim (λ p. inl p.1) inr (turn_cases 1 (λ j. own) g k y e)

-- the same, with what follows from each

pub by_turn : {A C : Type 0} (n : ℕ) (f g : ℕ → Option A) (k : ℕ) (y : A) → in_turn n f g k ≡ Some y
    → ((j : ℕ) → f j ≡ Some y → C) → ((j : ℕ) → g j ≡ Some y → C) → C
by_turn n f g k y e first second = ⊎_elim (λ p. first p.0 p.1) (λ p. second p.0 p.1) (turn_cases n f g k y e)

pub by_first : {A C : Type 0} (own : Option A) (g : ℕ → Option A) (k : ℕ) (y : A) → first_or own g k ≡ Some y
    → (own ≡ Some y → C) → ((j : ℕ) → g j ≡ Some y → C) → C
by_first own g k y e first second = ⊎_elim first (λ p. second p.0 p.1) (first_cases own g k y e)

pub if_cases : {A : Type 0} (b : Bool) (x o : Option A) (y : A) → (if b then x else o) ≡ Some y → (x ≡ Some y) ⊎ (o ≡ Some y)
if_cases true x o y e = inl e
if_cases false x o y e = inr e

pub only_is : {A : Type 0} (b : Bool) (x y : A) → (if b then Some x else None) ≡ Some y → x ≡ y
only_is true x y e = cc
only_is false x y e = absurd cc

-- one entry left out, one added, or two neighbours exchanged
pub data EntryEdit {A : Type 0} : List A → List A → Type 0 where
  one_left_out : (before after : List A) (x : A) → EntryEdit (before ++ x ∷ after) (before ++ after)
  one_added : (before after : List A) (x : A) → EntryEdit (before ++ after) (before ++ x ∷ after)
  two_exchanged : (before after : List A) (x y : A) → EntryEdit (before ++ x ∷ y ∷ after) (before ++ y ∷ x ∷ after)

pub edit_behind : {A : Type 0} (z : A) (xs ys : List A) → EntryEdit xs ys → EntryEdit (z ∷ xs) (z ∷ ys)
edit_behind z _ _ (one_left_out before after x) = one_left_out (z ∷ before) after x
edit_behind z _ _ (one_added before after x) = one_added (z ∷ before) after x
edit_behind z _ _ (two_exchanged before after x y) = two_exchanged (z ∷ before) after x y

pub edit_mapped : {A B : Type 0} (f : A → B) (xs ys : List A) → EntryEdit xs ys → IsEdit (map f xs) (map f ys)
edit_mapped f _ _ (one_left_out before after x) =
    rw (map-append f before (x ∷ after), map-append f before after) (left_out (map f before) (map f after) (f x))
edit_mapped f _ _ (one_added before after x) =
    rw (map-append f before (x ∷ after), map-append f before after) (added (map f before) (map f after) (f x))
edit_mapped f _ _ (two_exchanged before after x y) =
    rw (map-append f before (x ∷ y ∷ after), map-append f before (y ∷ x ∷ after)) (exchanged (map f before) (map f after) (f x) (f y))

module _ {A : Type 0} (again : A → Option A) (a : ℕ) where
  pub entry_edited : (xs ys : List A) → entry_alternative again a xs ≡ Some ys → EntryEdit xs ys
  entry_edited [] ys e = absurd cc
  entry_edited (x ∷ rest) ys e =
      ⊎_elim
      (λ out. let is : rest ≡ ys = cc in rw (sym is) (one_left_out [] rest x))
      (λ e1. ⊎_elim
      (λ twice. let is : x ∷ x ∷ rest ≡ ys = cc in rw (sym is) (one_added (x ∷ []) rest x))
      (λ e2. ⊎_elim
      (λ swapped. by_exchange rest ys swapped)
      (λ e3. ⊎_elim (λ named. by_name (again x) ys named) (λ none. absurd cc) (if_cases (a == 3) (followed (again x) x rest) None ys e3))
      (if_cases (a == 2) (first_exchanged (x ∷ rest)) _ ys e2))
      (if_cases (a == 1) (Some (x ∷ x ∷ rest)) _ ys e1))
      (if_cases (a == 0) (Some rest) _ ys e)
    where
      by_exchange : (zs ys : List A) → first_exchanged (x ∷ zs) ≡ Some ys → EntryEdit (x ∷ zs) ys
      by_exchange [] ys e = absurd cc
      by_exchange (z ∷ zs) ys e = let is : z ∷ x ∷ zs ≡ ys = cc in rw (sym is) (two_exchanged [] zs x z)

      by_name : (o : Option A) (ys : List A) → followed o x rest ≡ Some ys → EntryEdit (x ∷ rest) ys
      by_name None ys e = absurd cc
      by_name (Some y) ys e = let is : x ∷ y ∷ rest ≡ ys = cc in rw (sym is) (one_added (x ∷ []) rest y)

-- Entries in a row, by their tokens: one of them differs, or they are edited.
module _ {A : Type 0} (tokens : A → List Token) where
  abbrev pub RowDiffers : List A → List A → Type 0
  RowDiffers xs ys = (Differ (flat_map tokens xs) (flat_map tokens ys) (xs ≡ ys) × (length xs ≡ length ys)) ⊎ EntryEdit xs ys

  module _ (size : A → ℕ) (changed : ℕ → ℕ → A → Option A) (again : A → Option A) (a : ℕ)
      (each : (k : ℕ) (x y : A) → changed a k x ≡ Some y → Differ (tokens x) (tokens y) (x ≡ y)) where
    module _ (x : A) (xs : List A) where
      abbrev here : ℕ → Option (List A)
      here j = option_map (λ y. y ∷ xs) (changed a j x)

      abbrev there : ℕ → Option (List A)
      there j = option_map (λ zs. x ∷ zs) (row_changed size changed again a j xs)

      in_it : (ys : List A) (j : ℕ) → here j ≡ Some ys → RowDiffers (x ∷ xs) ys
      in_it ys j e =
          let m = map_cases (λ y. y ∷ xs) (changed a j x) ys e in
          let d : Differ (tokens x ++ flat_map tokens xs) (tokens m.0 ++ flat_map tokens xs) (x ∷ xs ≡ m.0 ∷ xs) =
          ahead (flat_map tokens xs) (so (λ s. ap (λ y. y ∷ xs) s) (each j x m.0 m.1)) in
          rw (sym m.2) (inl (d, refl))

      after_it : ((j : ℕ) (zs : List A) → row_changed size changed again a j xs ≡ Some zs → RowDiffers xs zs) → (ys : List A) (j : ℕ)
          → there j ≡ Some ys → RowDiffers (x ∷ xs) ys
      after_it rest ys j e =
          let m = map_cases (λ zs. x ∷ zs) (row_changed size changed again a j xs) ys e in
          rw (sym m.2)
          (⊎_elim
          (λ d. inl (behind (tokens x) (so (λ s. ap (λ zs. x ∷ zs) s) d.0), ap suc d.1))
          (λ d. inr (edit_behind x xs m.0 d))
          (rest j m.0 m.1))

      inside : ((j : ℕ) (zs : List A) → row_changed size changed again a j xs ≡ Some zs → RowDiffers xs zs) → (ys : List A)
          → ((j : ℕ) × (in_turn (size x) here there j ≡ Some ys)) → RowDiffers (x ∷ xs) ys
      inside rest ys p = ⊎_elim (λ q. in_it ys q.0 q.1) (λ q. after_it rest ys q.0 q.1) (turn_cases (size x) here there p.0 ys p.1)

    pub row_differs : (k : ℕ) (xs ys : List A) → row_changed size changed again a k xs ≡ Some ys → RowDiffers xs ys
    row_differs k [] ys e = absurd cc
    row_differs k (x ∷ xs) ys e =
        ⊎_elim (λ own. inr (entry_edited again a (x ∷ xs) ys own)) (inside x xs (λ j zs h. row_differs j xs zs h) ys)
        (first_cases (entry_alternative again a (x ∷ xs)) (in_turn (size x) (here x xs) (there x xs)) k ys e)

  flat_mapped : (xs : List A) → flat_map tokens xs ≡ flat_map (λ t. t) (map tokens xs)
  flat_mapped [] = refl
  flat_mapped (x ∷ xs) = ap (λ ts. tokens x ++ ts) (flat_mapped xs)

  -- as the tokens of each
  listed : (xs : List A) → list_tokens tokens xs ≡ entries_tokens (map tokens xs) ++ []
  listed xs =
      ap (λ n. count n ∷ flat_map tokens xs) (sym (length-map xs tokens))
      ∙ ap (λ ts. count (length (map tokens xs)) ∷ ts) (flat_mapped xs ∙ sym (append-nil (flat_map (λ t. t) (map tokens xs))))

  pub as_list : {P : Type 0} (xs ys : List A) → IsEdit (map tokens xs) (map tokens ys) → Differ (list_tokens tokens xs) (list_tokens tokens ys) P
  as_list xs ys d = inr (record {
    before = [];
    old = map tokens xs;
    new = map tokens ys;
    after = [];
    of_old = listed xs;
    of_new = listed ys;
    edited = d;
  })

  -- what a list of them is
  pub list_differs : (xs ys : List A) → RowDiffers xs ys → Differ (list_tokens tokens xs) (list_tokens tokens ys) (xs ≡ ys)
  list_differs xs ys (inl d) = rw (sym d.1) (behind (count (length xs) ∷ []) d.0)
  list_differs xs ys (inr d) = as_list xs ys (edit_mapped tokens xs ys d)
