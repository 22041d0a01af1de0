-- Pieces: how they are joined, bytes as they are, texts, and numbers that have an encoding.
use Rattle.std.proofs.Common.{◌≡◌, ℕ, ◌+◌, ◌⊎◌, inl, inr, length-append, List, [], ◌∷◌, ◌++◌, refl, ap, append_assoc, Some, None, append-nil, ◌<◌, length}
use Rattle.std.proofs.Common.{get_or, sym, ◌∙◌, IsUtf8, Bool, true, false, cond, nat_lt, ◌^◌, ◌≤◌, pos}
use Rattle.smith_format.specs.Piece.{Piece, ◌⊕◌, byte, bytes, raw, utf8, text, u, number, s_index}
use Rattle.smith_format.specs.Writing.{piece_length}
use Rattle.std.specs.List.{list_all}
use Rattle.std.specs.Str.{is_utf8}
use Rattle.std.proofs.lemmas.Str.{is_utf8-from_IsUtf8}
use Rattle.std.proofs.lemmas.List.Sums.{list_all-from_AllPass}
use Rattle.std.proofs.lemmas.Bool.{lt-ltb, cases_lt, cond_below, cond_above}
use Rattle.std.proofs.lemmas.List.Elements.{All-from_get_or}
use Rattle.smith_format.specs.Numbers.{unsigned, signed}

pub assoc : (a b c : Piece) → (a ⊕ b) ⊕ c ≡ a ⊕ (b ⊕ c)
unfolding ◌⊕◌
assoc None b c = refl
assoc (Some a) None c = refl
assoc (Some a) (Some b) None = refl
assoc (Some a) (Some b) (Some c) = ap Some (append_assoc a b c)

pub right_none : (a : Piece) → a ⊕ None ≡ None
unfolding ◌⊕◌
right_none None = refl
right_none (Some a) = refl

pub left_none : (a : Piece) → None ⊕ a ≡ None
unfolding ◌⊕◌
left_none a = refl

pub right_nil : (a : Piece) → a ⊕ Some [] ≡ a
unfolding ◌⊕◌
right_nil None = refl
right_nil (Some a) = ap Some (append-nil a)

pub left_nil : (a : Piece) → Some [] ⊕ a ≡ a
unfolding ◌⊕◌
left_nil None = refl
left_nil (Some a) = refl

pub joined : (a b : List ℕ) → Some a ⊕ Some b ≡ Some (a ++ b)
unfolding ◌⊕◌
joined a b = refl

pub two_bytes : (m n : ℕ) (p : Piece) → bytes (m ∷ n ∷ []) ⊕ p ≡ byte m ⊕ (byte n ⊕ p)
two_bytes m n p = ap (λ h. h ⊕ p) (sym (joined (m ∷ []) (n ∷ []))) ∙ assoc (byte m) (byte n) p

-- the length of two pieces, if both have an encoding
pub length_join : (p q : Piece) → (p ⊕ q ≡ None) ⊎ (piece_length (p ⊕ q) ≡ piece_length p + piece_length q)
unfolding ◌⊕◌
length_join None q = inl refl
length_join (Some a) None = inl refl
length_join (Some a) (Some b) = inr (length-append a b)

pub none_join : (p q : Piece) → p ⊕ q ≡ None → (p ≡ None) ⊎ (q ≡ None)
unfolding ◌⊕◌
none_join None q h = inl refl
none_join (Some a) None h = inr refl
none_join (Some a) (Some b) h = cc

-- p is some bytes, and so is q
pub record Parts (p q : Piece) (b : List ℕ) : Type 0 where
  pub left : List ℕ
  pub right : List ℕ
  pub p_is : p ≡ Some left
  pub q_is : q ≡ Some right
  pub is : b ≡ left ++ right

pub parts_are : (p q : Piece) (b : List ℕ) → p ⊕ q ≡ Some b → Parts p q b
unfolding ◌⊕◌
parts_are None q b e = cc
parts_are (Some c) None b e = cc
parts_are (Some c) (Some d) b e = record { left = c; right = d; p_is = refl; q_is = refl; is = let f : b ≡ c ++ d = cc in f }

-- bytes as they are, and text
pub utf8_is : (t : List ℕ) → IsUtf8 t → utf8 t ≡ Some t
unfolding utf8
utf8_is t h = rw (is_utf8-from_IsUtf8 t h) refl

pub text_is : (t : List ℕ) → IsUtf8 t → text t ≡ u (length t) ⊕ Some t
unfolding text
text_is t h = ap (λ p. u (length t) ⊕ p) (utf8_is t h)

pub raw_is : (bs : List ℕ) → ((i : ℕ) → get_or bs i 0 < 256) → raw bs ≡ Some bs
unfolding raw
raw_is bs h =
    let e : list_all (λ b. nat_lt b 256) bs ≡ true = list_all-from_AllPass (λ b. nat_lt b 256) bs
    (All-from_get_or (λ b. nat_lt b 256 ≡ true) bs 0 (λ i _. lt-ltb (get_or bs i 0) 256 (h i))) in rw e refl

guarded : (x : Bool) (t : List ℕ) (p : Piece) (b : List ℕ) → cond x (Some t) None ⊕ p ≡ Some b → Some t ⊕ p ≡ Some b
guarded true t p b e = e
guarded false t p b e = let z : None ≡ Some b = sym (left_none p) ∙ e in cc

guard : (x : Bool) (t : List ℕ) (b : List ℕ) → cond x (Some t) None ≡ Some b → t ≡ b
guard true t b e = cc
guard false t b e = cc

pub utf8_then : (t : List ℕ) (p : Piece) (b : List ℕ) → utf8 t ⊕ p ≡ Some b → Some t ⊕ p ≡ Some b
unfolding utf8
utf8_then t p b e = guarded (is_utf8 t) t p b e

pub raw_whole : (t b : List ℕ) → raw t ≡ Some b → t ≡ b
unfolding raw
raw_whole t b e = guard (list_all (λ c. nat_lt c 256) t) t b e

-- numbers with a bound
pub u_fits : (n : ℕ) → n < 2 ^ 32 → u n ≡ Some (unsigned n)
unfolding u
u_fits n h = sym (cond_below n _ (Some (unsigned n)) None h)

pub u_none : (n : ℕ) → 2 ^ 32 ≤ n → u n ≡ None
unfolding u
u_none n h = sym (cond_above n _ (Some (unsigned n)) None None h refl)

pub number_fits : (n : ℕ) → n < 2 ^ 64 → number n ≡ Some (unsigned n)
unfolding number
number_fits n h = sym (cond_below n _ (Some (unsigned n)) None h)

pub number_none : (n : ℕ) → 2 ^ 64 ≤ n → number n ≡ None
unfolding number
number_none n h = sym (cond_above n _ (Some (unsigned n)) None None h refl)

pub s_index_fits : (n : ℕ) → n < 2 ^ 32 → s_index n ≡ Some (signed (pos n))
unfolding s_index
s_index_fits n h = sym (cond_below n _ (Some (signed (pos n))) None h)

pub s_index_none : (n : ℕ) → 2 ^ 32 ≤ n → s_index n ≡ None
unfolding s_index
s_index_none n h = sym (cond_above n _ (Some (signed (pos n))) None None h refl)

-- both cases, for `grind`
pub u_cases : (n : ℕ) → ((u n ≡ Some (unsigned n)) × (n < 2 ^ 32)) ⊎ ((u n ≡ None) × (2 ^ 32 ≤ n))
u_cases n = elim (cases_lt n (2 ^ 32)) [ inl l ↦ inl (u_fits n l, l) | inr l ↦ inr (u_none n l, l) ]

pub number_cases : (n : ℕ) → ((number n ≡ Some (unsigned n)) × (n < 2 ^ 64)) ⊎ ((number n ≡ None) × (2 ^ 64 ≤ n))
number_cases n = elim (cases_lt n (2 ^ 64)) [ inl l ↦ inl (number_fits n l, l) | inr l ↦ inr (number_none n l, l) ]

pub s_index_cases : (n : ℕ) → ((s_index n ≡ Some (signed (pos n))) × (n < 2 ^ 32)) ⊎ ((s_index n ≡ None) × (2 ^ 32 ≤ n))
s_index_cases n = elim (cases_lt n (2 ^ 32)) [ inl l ↦ inl (s_index_fits n l, l) | inr l ↦ inr (s_index_none n l, l) ]
