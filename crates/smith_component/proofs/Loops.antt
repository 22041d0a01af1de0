-- What turns keep, a loop keeps.
use Rattle.std.proofs.Common.{◌≡◌, ℕ, ◌+◌, ◌<◌, ◌≤◌, Bool, false, List, length, sym, subst, arith, ⊎_elim}
use Rattle.std.proofs.lemmas.Bool.{cases_lt}
use Rattle.smith_input.specs.Loops.{Loop, no_more, by_itself, an_item}
use Rattle.smith_input.specs.Reading.{IsTail, More}
use Rattle.smith_input.proofs.Reading.{more_past, more_tail, more_within, tail_trans}

-- What a turn leaves is a tail of what there was at first.
pub turn_left : {bits done least most : ℕ} {answer : Bool} {first b mid rest : List ℕ} → IsTail rest mid → More bits done least most b answer mid
    → IsTail b first
    → IsTail rest first
turn_left turn more before = tail_trans turn (tail_trans (more_tail more) before)

more_done : {bits done least most : ℕ} {b rest : List ℕ} → least ≤ most → done ≤ most → More bits done least most b false rest → least ≤ done
more_done {bits} {done} {least} {most} h few m = ⊎_elim (λ lt. more_past lt m) (λ le. omega arith) (cases_lt done most)

module _ {S A : Type 0} {Ends : S → List ℕ → List ℕ → S → Type 0} {Item : S → List ℕ → A → List ℕ → S → Type 0} {bits least most : ℕ} (P : ℕ → S → Type 0) where
  pub loop_keeps : ((n : ℕ) (s : S) (b r : List ℕ) (t : S) → P n s → Ends s b r t → P n t)
      → ((n : ℕ) (s : S) (b : List ℕ) (x : A) (r : List ℕ) (t : S) → n < most → P n s → Item s b x r t → P (n + 1) t)
      → (done : ℕ) (s : S) (b : List ℕ) (xs : List A) (rest : List ℕ) (t : S) → done ≤ most → P done s → Loop Ends Item bits least most done s b xs rest t
      → (n : ℕ) × (n ≤ most) × P n t
  loop_keeps over items done s b xs rest t h p (no_more m e) = (done, h, subst (P done) (sym e) p)
  loop_keeps over items done s b xs rest t h p (by_itself {mid = mid} m e) = (done, h, over done s mid rest t p e)
  loop_keeps over items done s b xs rest u h p (an_item {t = t} {mid = mid} {after = after} {x = x} {xs = ys} m i l) =
      let lt : done < most = more_within m in
      loop_keeps over items (done + 1) t after ys rest u (omega (arith, lt)) (items done s mid x after t lt p i) l

  -- If a loop does not end by itself before it has made as many turns as it must, it makes that many.
  pub loop_reaches : ((n : ℕ) (s : S) (b r : List ℕ) (t : S) → P n s → Ends s b r t → (least ≤ n) × P n t)
      → ((n : ℕ) (s : S) (b : List ℕ) (x : A) (r : List ℕ) (t : S) → n < most → P n s → Item s b x r t → P (n + 1) t) → least ≤ most
      → (done : ℕ) (s : S) (b : List ℕ) (xs : List A) (rest : List ℕ) (t : S) → done ≤ most → P done s → Loop Ends Item bits least most done s b xs rest t
      → (n : ℕ) × (least ≤ n) × (n ≡ done + length xs) × P n t
  loop_reaches over items o done s b xs rest t h p (no_more m e) = (done, more_done o h m, omega arith, subst (P done) (sym e) p)
  loop_reaches over items o done s b xs rest t h p (by_itself {mid = mid} m e) =
      let r = over done s mid rest t p e in
      (done, r.0, omega arith, r.1)
  loop_reaches over items o done s b xs rest u h p (an_item {t = t} {mid = mid} {after = after} {x = x} {xs = ys} m i l) =
      let lt : done < most = more_within m in
      let k = loop_reaches over items o (done + 1) t after ys rest u (omega (arith, lt)) (items done s mid x after t lt p i) l in
      (k.0, k.1, omega (arith, k.2), k.3)
