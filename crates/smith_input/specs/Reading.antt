-- What a read returns, and which bytes it leaves. A byte past the end counts as zero, and nothing is taken for it.
use Rattle.std.specs.Prelude.{◌≡◌, ℕ, zero, suc, ◌+◌, ◌-◌, ◌*◌, ◌^◌, ◌%◌, ◌<◌, ◌≤◌, ◌↔◌, Bool, true, false, IsTrue, List, [], ◌∷◌, ◌++◌, drop, slice_index}

-- the number that the first w bytes spell, most significant first, with zeros past the end
abbrev pub spelled : ℕ → List ℕ → ℕ
spelled zero bytes = 0
spelled (suc w) [] = 0
spelled (suc w) (x ∷ bytes) = x * 256 ^ w + spelled w bytes

-- w bytes distinguish n things, and fewer do not
pub record IsWidth (n w : ℕ) : Type 0 where
  pub enough : n ≤ 256 ^ w
  pub least : (v : ℕ) → n ≤ 256 ^ v → w ≤ v

-- A choice among n reads k from the bytes, and leaves rest: the number that the bytes spell is k plus a multiple of n.
pub record Reads (n : ℕ) (bytes : List ℕ) (k : ℕ) (rest : List ℕ) : Type 0 where
  pub width : ℕ
  pub is_width : IsWidth n width
  pub below : k < n
  pub turns : ℕ
  pub spells : spelled width bytes ≡ k + turns * n
  pub left : rest ≡ drop width bytes

-- A boolean is the lowest bit of one byte.
pub record Flips (bytes : List ℕ) (answer : Bool) (rest : List ℕ) : Type 0 where
  pub bit : IsTrue answer ↔ (slice_index bytes 0 % 2 ≡ 1)
  pub left : rest ≡ drop 1 bytes

-- One of how many numbers in a row ends a loop: the one whose lowest bits are all 0, so many of them and at least one.
abbrev pub one_ends_in : ℕ → ℕ
one_ends_in bits = 2 * 2 ^ (bits - 1)

-- A loop goes on unless the lowest bits of one byte are all 0, so many of them and at least one.
pub record GoesOn (bits : ℕ) (bytes : List ℕ) (answer : Bool) (rest : List ℕ) : Type 0 where
  pub bit : IsTrue answer ↔ (0 < slice_index bytes 0 % one_ends_in bits)
  pub left : rest ≡ drop 1 bytes

-- Whether a loop that has made that many turns makes another: never from max on, always below min, and otherwise by the
-- lowest bits of a byte.
pub record More (bits done min max : ℕ) (bytes : List ℕ) (answer : Bool) (rest : List ℕ) : Type 0 where
  pub full : max ≤ done → (answer ≡ false) × (rest ≡ bytes)
  pub forced : done < max → done < min → (answer ≡ true) × (rest ≡ bytes)
  pub asked : done < max → min ≤ done → GoesOn bits bytes answer rest

-- the bytes without some of the first
abbrev pub IsTail : List ℕ → List ℕ → Type 0
IsTail rest bytes = (n : ℕ) × (rest ≡ drop n bytes)

-- The bytes alone decide what is read, and the rest.
abbrev pub IsDecided : {A : Type 0} → (List ℕ → A → List ℕ → Type 0) → Type 0
IsDecided {A} Read = (bytes : List ℕ) (x y : A) (left rest : List ℕ) → Read bytes x left → Read bytes y rest → (x ≡ y) × (left ≡ rest)

-- What is read leaves a tail of the bytes.
abbrev pub LeavesTail : {A : Type 0} → (List ℕ → A → List ℕ → Type 0) → Type 0
LeavesTail {A} Read = (bytes : List ℕ) (x : A) (rest : List ℕ) → Read bytes x rest → IsTail rest bytes

-- This script, followed by any bytes, is read as x and leaves those bytes.
abbrev pub IsReadAs : {A : Type 0} → (List ℕ → A → List ℕ → Type 0) → List ℕ → A → Type 0
IsReadAs Read script x = (rest : List ℕ) → Read (script ++ rest) x rest
