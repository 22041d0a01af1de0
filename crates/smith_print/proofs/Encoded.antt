-- What follows from an encoding: its parts have one too, so numbers are below their bounds, and texts are bytes.
use Rattle.std.proofs.Common.{◌≡◌, ℕ, Bool, true, false, List, [], ◌∷◌, Some, None, refl, sym, ◌∙◌, arith, nat_lt, inl, inr}
use Rattle.std.proofs.lemmas.Bool.{and_parts, ltb-true}
use Rattle.std.proofs.lemmas.Str.{IsUtf8-from_is_utf8}
use Rattle.std.specs.List.{AllByRecursion, list_all}
use Rattle.std.specs.Str.{is_utf8}
use Rattle.std.specs.Prelude.{if◌then◌else◌}
use Rattle.smith_input.proofs.Utf8Bytes.{utf8_bytes}
use Rattle.smith_format.proofs.Piece.{number_cases, parts_are, s_index_cases, u_cases}
use Rattle.smith_format.specs.Piece.{Piece, ◌⊕◌, byte, each, framed, many, number, raw, s_index, text, u, utf8}
use Rattle.smith_format.proofs.Steps.{framed_nothing}
use Rattle.smith_core.specs.StandInText.{listed}
use Rattle.smith_print.proofs.Apart.{AreBytes}
use Rattle.smith_print.proofs.Told.{IsNumber}

-- has an encoding
abbrev pub IsEncoded : Piece → Type 0
IsEncoded p = (b : List ℕ) × (p ≡ Some b)

pub front : (p q : Piece) → IsEncoded (p ⊕ q) → IsEncoded p
front p q t = let s = parts_are p q t.0 t.1 in (s.left, s.p_is)

pub back : (p q : Piece) → IsEncoded (p ⊕ q) → IsEncoded q
back p q t = let s = parts_are p q t.0 t.1 in (s.right, s.q_is)

pub each_encoded : {A : Type 0} (f : A → Piece) (xs : List A) → IsEncoded (each f xs) → AllByRecursion (λ x. IsEncoded (f x)) xs
each_encoded f [] t = tt
each_encoded f (x ∷ xs) t = (front (f x) (each f xs) t, each_encoded f xs (back (f x) (each f xs) t))

pub many_encoded : {A : Type 0} (f : A → Piece) (xs : List A) → IsEncoded (many f xs) → AllByRecursion (λ x. IsEncoded (f x)) xs
many_encoded f xs t = each_encoded f xs (back _ (each f xs) t)

pub index_number : (n : ℕ) → IsEncoded (u n) → IsNumber n
index_number n t = elim (u_cases n) [ inl h ↦ omega (arith, h.1) | inr h ↦ let z : None ≡ Some t.0 = sym h.0 ∙ t.1 in absurd cc ]

pub signed_number : (n : ℕ) → IsEncoded (s_index n) → IsNumber n
signed_number n t = elim (s_index_cases n) [ inl h ↦ omega (arith, h.1) | inr h ↦ let z : None ≡ Some t.0 = sym h.0 ∙ t.1 in absurd cc ]

pub bound_number : (n : ℕ) → IsEncoded (number n) → IsNumber n
bound_number n t = elim (number_cases n) [ inl h ↦ h.1 | inr h ↦ let z : None ≡ Some t.0 = sym h.0 ∙ t.1 in absurd cc ]

tested : (x : Bool) (a : List ℕ) → IsEncoded (if x then Some a else None) → x ≡ true
tested true a t = λ i. true
tested false a t = absurd (let z : None ≡ Some t.0 = t.1 in cc)

pub text_bytes : (n : List ℕ) → IsEncoded (text n) → AreBytes n
unfolding text utf8
text_bytes n t = utf8_bytes n (IsUtf8-from_is_utf8 n (tested (is_utf8 n) n (back _ (utf8 n) t)))

pub raw_bytes : (bs : List ℕ) → IsEncoded (raw bs) → AreBytes bs
unfolding raw
raw_bytes bs t = all_below bs (tested (list_all (λ b. nat_lt b 256) bs) bs t)
  where
    all_below : (xs : List ℕ) → list_all (λ b. nat_lt b 256) xs ≡ true → AreBytes xs
    all_below [] e = tt
    all_below (x ∷ xs) e = let z = and_parts (nat_lt x 256) (list_all (λ b. nat_lt b 256) xs) e in (ltb-true x 256 z.0, all_below xs z.1)

framed_encoded : (p : Piece) → IsEncoded (framed p) → IsEncoded p
framed_encoded (Some b) t = (b, refl)
framed_encoded None t = absurd (let z : None ≡ Some t.0 = sym framed_nothing ∙ t.1 in cc)

pub listed_encoded : {A : Type 0} (id : ℕ) (f : A → Piece) (xs : List A) → IsEncoded (listed id f xs) → AllByRecursion (λ x. IsEncoded (f x)) xs
listed_encoded id f [] t = tt
listed_encoded id f (x ∷ xs) t = many_encoded f (x ∷ xs) (framed_encoded (many f (x ∷ xs)) (back (byte id) (framed (many f (x ∷ xs))) t))
