-- Texts, and lists that a loop reads.
use Rattle.std.proofs.Common.{◌≡◌, ℕ, suc, ◌+◌, ◌-◌, ◌<◌, ◌≤◌, List, [], ◌∷◌, ◌++◌, take, drop, length, Bool, true, false, cond, Some, None}
use Rattle.std.proofs.Common.{refl, ap, sym, ◌∙◌, arith, append_assoc}
use Rattle.std.proofs.lemmas.List.{append-nil}
use Rattle.std.proofs.lemmas.Str.{is_utf8-from_IsUtf8, IsUtf8-from_is_utf8}
use Rattle.std.proofs.lemmas.Bool.{le-ltb}
use Rattle.std.specs.Str.{is_utf8, IsUtf8}
use Rattle.smith_read.specs.Reading.{Found, ◌>>=◌, u_at, utf8_at, text_at, times_at}

pub utf8_read : (t rest : List ℕ) → IsUtf8 t → utf8_at t rest ≡ Some (t, rest)
utf8_read t rest h = rw (is_utf8-from_IsUtf8 t h) refl

pub utf8_refused : (t rest : List ℕ) → (IsUtf8 t → ⊥) → utf8_at t rest ≡ None
utf8_refused t rest h = by_test (is_utf8 t) refl
  where
    by_test : (x : Bool) → is_utf8 t ≡ x → cond {A = Found (List ℕ)} x (Some (t, rest)) None ≡ None
    by_test true e = absurd (h (IsUtf8-from_is_utf8 t e))
    by_test false e = refl

pub text_after : (bs rest : List ℕ) (n : ℕ) → u_at bs ≡ Some (n, rest) → n ≤ length rest → text_at bs ≡ utf8_at (take n rest) (drop n rest)
unfolding text_at
text_after bs rest n e l = rw (e, le-ltb (length rest) n l) refl

module _ {A : Type 0} (reading : List ℕ → Found A) where
  -- what was read before, and what is still read
  abbrev pub with_front : List A → Found (List A) → Found (List A)
  with_front front read = read >>= λ x. Some (front ++ x.0, x.1)

  regroup : (front : List A) (x : A) (read : Found (List A)) → with_front front (read >>= λ xs. Some (x ∷ xs.0, xs.1)) ≡ with_front (front ++ x ∷ []) read
  regroup front x None = refl
  regroup front x (Some xs) = ap (λ (ys : List A). Some (ys, xs.1)) (sym (append_assoc front (x ∷ []) xs.0))

  pub goes_on : (front : List A) (count i : ℕ) (bytes : List ℕ) (x : A) (after : List ℕ) (total : Found (List A)) → i < count → reading bytes ≡ Some (x, after)
      → with_front front (times_at reading (count - i) bytes) ≡ total → with_front (front ++ x ∷ []) (times_at reading (count - (i + 1)) after) ≡ total
  unfolding times_at
  goes_on front count i bytes x after total lt h so_far =
      let k : count - i ≡ suc (count - (i + 1)) = omega arith in
      let one : with_front front (times_at reading (count - i) bytes) ≡ with_front (front ++ x ∷ []) (times_at reading (count - (i + 1)) after) =
      rw (k, h) (regroup front x (times_at reading (count - (i + 1)) after)) in
      sym one ∙ so_far

  -- nothing is read at one of them
  pub stops : (front : List A) (count i : ℕ) (bytes : List ℕ) (total : Found (List A)) → i < count
      → with_front front (times_at reading (count - i) bytes) ≡ total → reading bytes ≡ None → total ≡ None
  unfolding times_at
  stops front count i bytes total lt so_far h = grind arith

  pub is_done : (front : List A) (count i : ℕ) (bytes : List ℕ) (total : Found (List A)) → count ≤ i
      → with_front front (times_at reading (count - i) bytes) ≡ total → total ≡ Some (front, bytes)
  unfolding times_at
  is_done front count i bytes total le so_far = grind (arith, append-nil)
