-- One more byte on a page.
use Rattle.std.proofs.Common.{◌≡◌, ℕ, zero, suc, ◌+◌, ◌<◌, List, [], ◌∷◌, ◌++◌, length, take, get_or, refl, ap, sym, ◌∙◌, append_assoc, arith, length-take-le}
use Rattle.std.specs.Prelude.{map}
use Rattle.std.specs.List.{join_with_byte}
use Rattle.std.proofs.lemmas.List.{take_more, map-append, length-map}

-- one piece after others
join_more : (c : ℕ) (pieces : List (List ℕ)) (piece : List ℕ) → 0 < length pieces
    → join_with_byte c (pieces ++ piece ∷ []) ≡ (join_with_byte c pieces ++ c ∷ []) ++ piece
join_more c [] piece h = absurd (omega arith)
join_more c (x ∷ []) piece h = sym (append_assoc x (c ∷ []) piece)
join_more c (x ∷ y ∷ pieces) piece h =
    let rest = join_more c (y ∷ pieces) piece (omega arith) in
    ap (λ t. x ++ (c ∷ t)) rest ∙ simp append_assoc

-- the pieces of the first bytes, separated by spaces
abbrev pub parted : (ℕ → List ℕ) → ℕ → List ℕ → List ℕ
parted piece n bytes = join_with_byte 32 (map piece (take n bytes))

-- the first byte has no space in front
pub parted_first : (piece : ℕ → List ℕ) (i : ℕ) (bytes : List ℕ) → i ≡ 0 → i < length bytes
    → parted piece i bytes ++ piece (get_or bytes i 0) ≡ parted piece (i + 1) bytes
parted_first piece i [] z h = absurd (omega arith)
parted_first piece zero (x ∷ bytes) z h = refl
parted_first piece (suc i) (x ∷ bytes) z h = absurd (omega arith)

-- any other byte has one
pub parted_more : (piece : ℕ → List ℕ) (i : ℕ) (bytes : List ℕ) → 0 < i → i < length bytes
    → (parted piece i bytes ++ 32 ∷ []) ++ piece (get_or bytes i 0) ≡ parted piece (i + 1) bytes
parted_more piece i bytes z h =
    let some : 0 < length (map piece (take i bytes)) = omega (arith, length-map (take i bytes) piece, length-take-le i bytes (omega arith)) in
    let one = join_more 32 (map piece (take i bytes)) (piece (get_or bytes i 0)) some in
    let split = map-append piece (take i bytes) (get_or bytes i 0 ∷ []) in
    sym (ap (λ b. join_with_byte 32 (map piece b)) (take_more bytes i 0 h) ∙ ap (join_with_byte 32) split ∙ one)
