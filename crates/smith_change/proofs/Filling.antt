-- Members filled up, one by one.
use Rattle.std.proofs.Common.{◌≡◌, ℕ, suc, ◌+◌, ◌-◌, ◌<◌, ◌≤◌, Some, None, ap, sym, refl, ◌∙◌, arith, append_assoc, List, [], ◌∷◌, ◌++◌}
use Rattle.std.proofs.Common.{length, map}
use Rattle.std.proofs.lemmas.List.{append-nil, length-map, map-append}
use Rattle.smith_format.specs.Piece.{Piece, ◌⊕◌}
use Rattle.smith_change.specs.Rows.{filled, new_members}

some_same : {A : Type 0} (x y : A) → Some x ≡ Some y → x ≡ y
some_same x y e = cc

pub fill_step : {X A : Type 0} (shown : X → A) (new : ℕ → A) (all all2 : List X) (x : X) (i end : ℕ) (whole : List A) → i < end
    → Some (shown x) ≡ Some (new i) → all2 ≡ all ++ x ∷ [] → map shown all ++ new_members new i (end - i) ≡ whole
    → map shown all2 ++ new_members new (i + 1) (end - (i + 1)) ≡ whole
fill_step shown new all all2 x i end whole lt is more h =
    let left : end - i ≡ suc (end - (i + 1)) = omega arith in
    let rest : List _ = new_members new (i + 1) (end - (i + 1)) in
    rw (more, map-append shown all (x ∷ []), some_same (shown x) (new i) is, append_assoc (map shown all) (new i ∷ []) rest)
    (sym (ap (λ n. map shown all ++ new_members new i n) left) ∙ h)

pub fill_end : {X A : Type 0} (shown : X → A) (new : ℕ → A) (all items : List X) (i end most : ℕ) → end ≤ i → end ≡ most - length items
    → map shown all ++ new_members new i (end - i) ≡ map shown items ++ new_members new 0 end → map shown all ≡ filled new most (map shown items)
fill_end shown new all items i end most ge is h =
    let none : end - i ≡ 0 = omega (arith, ge) in
    sym (ap (λ n. map shown all ++ new_members new i n) none ∙ append-nil (map shown all)) ∙ h
    ∙ ap (λ n. map shown items ++ new_members new 0 n) (is ∙ ap (λ n. most - n) (sym (length-map items shown)))

-- a piece after nothing
pub nothing_before : (p : Piece) → (Some []) ⊕ p ≡ p
unfolding ◌⊕◌
nothing_before None = refl
nothing_before (Some b) = refl
