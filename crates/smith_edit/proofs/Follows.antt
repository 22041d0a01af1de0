-- Index spaces, and what they become.
use Rattle.std.proofs.Common.{◌≡◌, ℕ, zero, suc, ◌<◌, List, [], ◌∷◌, ◌++◌, Option, Some, length, length-append, ap, sym, refl, subst, arith}
use Rattle.std.proofs.Common.{⊎_elim, append-nil}
use Rattle.std.proofs.lemmas.Option.{slice_get_within}
use Rattle.std.specs.Prelude.{slice_get}
use Rattle.smith_edit.specs.Renumbering.{Renumbering, entry_at, index_kept, index_left, kept_index, new_index, with_entry}
use Rattle.smith_edit.specs.declared.renumbering.Fate.{Fate}
use Rattle.smith_edit.specs.declared.renumbering.Fate.TheVariants.{Kept, Removed}
use Rattle.smith_edit.specs.declared.renumbering.Renumbered.{Renumbered}
use Rattle.smith_edit.proofs.LowIndexes.{entry_or, get_more}
use Rattle.smith_edit.proofs.Perhaps.{Perhaps, gives, nothing}

pub get_still : {A : Type 0} (xs ys : List A) (i : ℕ) (x : A) → slice_get xs i ≡ Some x → slice_get (xs ++ ys) i ≡ Some x
get_still [] ys i x h = absurd cc
get_still (z ∷ zs) ys zero x h = h
get_still (z ∷ zs) ys (suc i) x h = get_still zs ys i x h

pub get_last : {A : Type 0} (xs : List A) (x : A) → slice_get (xs ++ x ∷ []) (length xs) ≡ Some x
get_last [] x = refl
get_last (y ∷ ys) x = get_last ys x

pub some_at : {A : Type 0} (xs : List A) (i : ℕ) → i < length xs → (x : A) × (slice_get xs i ≡ Some x)
some_at [] i h = absurd (omega (arith, h))
some_at (x ∷ xs) zero h = (x, refl)
some_at (x ∷ xs) (suc i) h = some_at xs i (omega (arith, h))

-- as long a list has as many items
pub get_other : {A B : Type 0} (xs : List A) (ys : List B) (i : ℕ) (x : A) → length ys ≡ length xs → slice_get xs i ≡ Some x
    → (y : B) × (slice_get ys i ≡ Some y)
get_other xs ys i x e h = some_at ys i (omega (arith, e, slice_get_within xs i x h))

-- the record of an entry that is there
pub entry_there : (s : Renumbering) (i : ℕ) (r : Renumbered) → slice_get s.entries i ≡ Some r → entry_at s i ≡ r
entry_there s i r h = ap (λ (o : Option Renumbered). entry_or o i) h

no_item : {A B : Type 0} (i : ℕ) (x : A) → slice_get [] i ≡ Some x → B
no_item i x h = absurd cc

-- not removed
abbrev pub IsLeft : Fate → Type 0
IsLeft Removed = ⊥
IsLeft f = Unit {0}

module _ {A : Type 0} (Rel : Fate → A → A → Type 0) where
  -- what an entry is in the new space
  abbrev pub Stays : Fate → ℕ → A → List A → Type 0
  Stays Removed i x new = Unit {0}
  Stays f i x new = (y : A) × (slice_get new i ≡ Some y) × Rel f x y

  pub stays_more : (f : Fate) (i : ℕ) (x : A) (new more : List A) → Stays f i x new → Stays f i x (new ++ more)
  stays_more Removed i x new more h = tt
  stays_more f i x new more h = (h.0, get_still new more i h.0 h.1, h.2)

  -- the entries of the old space, as they became the entries of the new one
  pub record Follows (s : Renumbering) (old new : List A) : Type 0 where
    pub count : length s.entries ≡ length old
    pub next : s.next ≡ length new
    pub found : (i : ℕ) (x : A) (r : Renumbered) → slice_get old i ≡ Some x → slice_get s.entries i ≡ Some r → Stays r.fate r.index x new

  -- an index of what is there

  abbrev pub Becomes : List A → A → ℕ → Type 0
  Becomes new x j = (g : Fate) × (y : A) × (slice_get new j ≡ Some y) × Rel g x y

  index_by : (f : Fate) (i : ℕ) (x : A) (new : List A) → Stays f i x new → Perhaps (Becomes new x) (index_left (record { index = i; fate = f }))
  index_by Removed i x new h = nothing tt
  index_by f i x new h = gives i (f, h.0, h.1, h.2)

  pub index_follows : (s : Renumbering) (old new : List A) → Follows s old new → (i : ℕ) (x : A) → slice_get old i ≡ Some x
      → Perhaps (Becomes new x) (new_index s i)
  index_follows s old new f i x at =
      let (r, is) = get_other old s.entries i x f.count at in
      subst (λ q. Perhaps (Becomes new x) (index_left q)) (sym (entry_there s i r is)) (index_by r.fate r.index x new (f.found i x r at is))

  abbrev pub Remains : List A → A → ℕ → Type 0
  Remains new x j = (y : A) × (slice_get new j ≡ Some y) × Rel Kept x y

  kept_by : (f : Fate) (i : ℕ) (x : A) (new : List A) → Stays f i x new → Perhaps (Remains new x) (index_kept (record { index = i; fate = f }))
  kept_by Kept i x new h = gives i h
  kept_by f i x new h = nothing tt

  pub kept_follows : (s : Renumbering) (old new : List A) → Follows s old new → (i : ℕ) (x : A) → slice_get old i ≡ Some x
      → Perhaps (Remains new x) (kept_index s i)
  kept_follows s old new f i x at =
      let (r, is) = get_other old s.entries i x f.count at in
      subst (λ q. Perhaps (Remains new x) (index_kept q)) (sym (entry_there s i r is)) (kept_by r.fate r.index x new (f.found i x r at is))

  -- one more entry

  pub none_yet : (n : ℕ) (new : List A) → n ≡ length new → Follows (record { next = n; entries = [] }) [] new
  none_yet n new e = record { count = refl; next = e; found = λ i x r at is. no_item i x at }

  old_found : (s : Renumbering) (f : Fate) (old new more : List A) (x : A) → Follows s old new → (i : ℕ) (z : A) (r : Renumbered)
      → slice_get (old ++ x ∷ []) i ≡ Some z → slice_get s.entries i ≡ Some r → Stays r.fate r.index z (new ++ more)
  old_found s f old new more x h i z r at is =
      ⊎_elim
      (λ inner. stays_more r.fate r.index z new more (h.found i z r inner is))
      (λ last. absurd (omega (arith, last.0, h.count, slice_get_within s.entries i r is)))
      (get_more old x z i at)

  last_found : (s : Renumbering) (f : Fate) (old new more : List A) (x : A) → Follows s old new → Stays f s.next x (new ++ more)
      → (i : ℕ) (z : A) (r : Renumbered)
      → slice_get (old ++ x ∷ []) i ≡ Some z → i ≡ length s.entries → record { index = s.next; fate = f } ≡ r → Stays r.fate r.index z (new ++ more)
  last_found s f old new more x h stays i z r at last is =
      ⊎_elim
      (λ inner. absurd (omega (arith, last, h.count, slice_get_within old i z inner)))
      (λ at_end. subst (λ (q : Renumbered). Stays q.fate q.index z (new ++ more)) is (subst (λ y. Stays f s.next y (new ++ more)) at_end.1 stays))
      (get_more old x z i at)

  more_found : (s : Renumbering) (f : Fate) (old new more : List A) (x : A) → Follows s old new → Stays f s.next x (new ++ more)
      → (i : ℕ) (z : A) (r : Renumbered) → slice_get (old ++ x ∷ []) i ≡ Some z → slice_get (with_entry s f).entries i ≡ Some r
      → Stays r.fate r.index z (new ++ more)
  more_found s f old new more x h stays i z r at is =
      ⊎_elim
      (λ inside. old_found s f old new more x h i z r at inside)
      (λ last. last_found s f old new more x h stays i z r at last.0 last.1)
      (get_more s.entries (record { index = s.next; fate = f }) r i is)

  push_count : (s : Renumbering) (f : Fate) (old : List A) (x : A) → length s.entries ≡ length old → length (with_entry s f).entries ≡ length (old ++ x ∷ [])
  push_count s f old x e = omega (arith, e, length-append s.entries (record { index = s.next; fate = f } ∷ []), length-append old (x ∷ []))

  pub follows_removed : (s : Renumbering) (old new : List A) (x : A) → Follows s old new → Follows (with_entry s Removed) (old ++ x ∷ []) new
  follows_removed s old new x h = record {
    count = push_count s Removed old x h.count;
    next = h.next;
    found = λ i z r at is. subst (Stays r.fate r.index z) (append-nil new) (more_found s Removed old new [] x h tt i z r at is);
  }

  pub follows_left : (f : Fate) → IsLeft f → (s : Renumbering) (old new : List A) (x y : A) → Follows s old new → Rel f x y
      → Follows (with_entry s f) (old ++ x ∷ []) (new ++ y ∷ [])
  follows_left Removed left s old new x y h rel = absurd left
  follows_left f left s old new x y h rel = record {
    count = push_count s f old x h.count;
    next = omega (arith, h.next, length-append new (y ∷ []));
    found = more_found s f old new (y ∷ []) x h (y, subst (λ n. slice_get (new ++ y ∷ []) n ≡ Some y) (sym h.next) (get_last new y), rel);
  }
