-- Loops over members as a script spells them.
use Rattle.std.proofs.Common.{◌≡◌, ℕ, zero, suc, ◌+◌, ◌<◌, ◌≤◌, List, [], ◌∷◌, ◌++◌, drop, length, get_or, refl, ap, sym, ◌∙◌, arith}
use Rattle.std.proofs.Math.Seq.{drop-cons}
use Rattle.smith_input.specs.Script.{script_end, script_loop, script_more}

module _ {S A : Type 0} (script : S → A → List ℕ) (next : S → A → S) (min max : ℕ) where
  -- a turn, and the ones after it
  pub loop_at : (xs : List A) (i : ℕ) (s : S) (x : A) → i < length xs → x ≡ get_or xs i x
      → script_loop script next min max i s (drop i xs)
      ≡ script_more min i ++ script s x ++ script_loop script next min max (i + 1) (next s x) (drop (suc i) xs)
  loop_at xs i s x h e =
      ap (script_loop script next min max i s) (drop-cons xs i x h)
      ∙ ap (λ y. script_more min i ++ script s y ++ script_loop script next min max (i + 1) (next s y) (drop (suc i) xs)) (sym e)

  -- no turn is left
  pub loop_over : (xs : List A) (i : ℕ) (s : S) → length xs ≤ i → script_loop script next min max i s (drop i xs) ≡ script_end i max
  loop_over [] zero s h = refl
  loop_over [] (suc i) s h = refl
  loop_over (x ∷ xs) zero s h = absurd (omega arith)
  loop_over (x ∷ xs) (suc i) s h = over xs i (omega arith) where
    over : (xs : List A) (j : ℕ) → length xs ≤ j → script_loop script next min max (suc i) s (drop j xs) ≡ script_end (suc i) max
    over [] zero h = refl
    over [] (suc j) h = refl
    over (y ∷ ys) zero h = absurd (omega arith)
    over (y ∷ ys) (suc j) h = over ys j (omega arith)

-- a script that ignores the state
pub any_state : {S T A : Type 0} (f : A → List ℕ) (next : S → A → S) (other : T → A → T) (min max done : ℕ) (s : S) (t : T) (xs : List A)
    → script_loop (λ u x. f x) next min max done s xs ≡ script_loop (λ u x. f x) other min max done t xs
any_state f next other min max done s t [] = refl
any_state f next other min max done s t (x ∷ xs) =
    ap (λ later. script_more min done ++ f x ++ later) (any_state f next other min max (done + 1) (next s x) (other t x) xs)
