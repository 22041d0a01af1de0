-- The lengths of pieces.
use Rattle.std.proofs.Common.{◌≡◌, ℕ, suc, ◌+◌, ◌^◌, ◌<◌, ◌≤◌, ◌⊎◌, inl, inr, ◌↔◌, IsUtf8, List, [], ◌∷◌, length, take, drop, get_or}
use Rattle.std.proofs.Common.{ap, subst, sym, ◌∙◌, arith, take_all, Option, Some, None, SomeIff, Result, Ok, Err, IsErrAnd}
use Rattle.smith_input.specs.declared.error.Error.{Error}
use Rattle.smith_input.specs.declared.error.Error.TheVariants.{TooLong}
use Rattle.smith_format.specs.Numbers.{unsigned}
use Rattle.smith_format.specs.Piece.{Piece, ◌⊕◌, byte, bytes, u, number, s_index, text, each, many, framed, sized}
use Rattle.smith_format.specs.Writing.{Takes, TakesTooMuch, IsLengthOf, Measures, piece_length}
use Rattle.smith_format.proofs.Piece.{assoc, right_none, left_none, length_join, none_join, u_fits, u_none, u_cases, s_index_none}
use Rattle.smith_format.proofs.Piece.{text_is, number_none, number_cases, s_index_cases}
use Rattle.smith_format.proofs.Many.{each_more, each_at}
use Rattle.smith_format.proofs.Steps.{framed_bytes, framed_nothing}

pub takes_bytes : (n : ℕ) (b : List ℕ) → n ≡ length b → Takes n (Some b)
takes_bytes n b e = record { spelled = λ h. cc; long = e }

pub takes_then : {m n : ℕ} {p q : Piece} → Takes m p → Takes n q → Takes (m + n) (p ⊕ q)
takes_then {m} {n} {p} {q} t s =
    record {
      spelled = λ h. elim (none_join p q h) [ inl e ↦ t.spelled e | inr e ↦ s.spelled e ];
      long = elim (length_join p q) [
        | inl e ↦ absurd (elim (none_join p q e) [ inl f ↦ t.spelled f | inr f ↦ s.spelled f ])
        | inr e ↦ omega
            (arith, t.long, s.long)
      ];
    }

pub takes_u : (n : ℕ) → n < 2 ^ 32 → Takes (length (unsigned n)) (u n)
takes_u n h = let e = u_fits n h in record { spelled = λ f. cc; long = sym (ap piece_length e) }

-- what is too long
pub too_much_none : {p : Piece} → p ≡ None → TakesTooMuch p
too_much_none e = record { is = inl e }

pub too_much_long : {n : ℕ} {p : Piece} → Takes n p → 2 ^ 32 ≤ n → TakesTooMuch p
too_much_long t h = record { is = inr (omega (arith, t.long)) }

too_much_join : (p q : Piece) → 2 ^ 32 ≤ piece_length p + piece_length q → (p ⊕ q ≡ None) ⊎ (2 ^ 32 ≤ piece_length (p ⊕ q))
too_much_join p q h = elim (length_join p q) [ inl e ↦ inl e | inr e ↦ inr (omega arith) ]

pub too_much_left : {p : Piece} (q : Piece) → TakesTooMuch p → TakesTooMuch (p ⊕ q)
too_much_left {p} q t = record { is = elim t.is [ inl e ↦ inl (ap (λ x. x ⊕ q) e ∙ left_none q) | inr h ↦ too_much_join p q (omega arith) ] }

pub too_much_right : (p : Piece) {q : Piece} → TakesTooMuch q → TakesTooMuch (p ⊕ q)
too_much_right p {q} t = record { is = elim t.is [ inl e ↦ inl (ap (λ x. p ⊕ x) e ∙ right_none p) | inr h ↦ too_much_join p q (omega arith) ] }

-- a length that may exceed what 32 bits hold
pub length_is : (r : Option ℕ) {k n : ℕ} {p : Piece} → SomeIff r (k < 2 ^ 32) k → Takes n p → k ≡ n → IsLengthOf r p
length_is (Some m) {k} {n} {p} s t e = (subst (λ (l : ℕ). Takes l p) (sym (s.1 ∙ e)) t, let f = s.1 in omega (arith, s.0))
length_is None {k} {n} s t e = too_much_long t (omega (arith, s))

-- a sum that may exceed what 32 bits hold
pub length_then : (r : Option ℕ) {m n : ℕ} {p q : Piece} → SomeIff r (m + n < 2 ^ 32) (m + n) → Takes m p → Takes n q → IsLengthOf r (p ⊕ q)
length_then (Some k) {m} {n} {p} {q} s t w = (subst (λ (l : ℕ). Takes l (p ⊕ q)) (sym s.1) (takes_then t w), let e = s.1 in omega (arith, s.0))
length_then None {m} {n} s t w = too_much_long (takes_then t w) (omega (arith, s))

-- Something after its length has an encoding if what it holds has one of at most 4,294,967,295 bytes.
pub framed_cases : (p : Piece) → ((framed p ≡ None) × TakesTooMuch p)
    ⊎ (Takes (piece_length p) p × (piece_length p < 2 ^ 32) × Takes (length (unsigned (piece_length p)) + piece_length p) (framed p))
framed_cases None = inl (framed_nothing, too_much_none (λ i. None))
framed_cases (Some b) = elim (u_cases (length b)) [
  | inl h ↦
      let t = takes_bytes (length b) b (λ i. length b) in
      inr (t, h.1, subst (λ (q : Piece). Takes (length (unsigned (length b)) + length b) q) (sym (framed_bytes b)) (takes_then (takes_u (length b) h.1) t))
  | inr h ↦ inl (framed_bytes b ∙ ap (λ x. x ⊕ Some b) h.0 ∙ left_none (Some b), record { is = inr h.1 })
]

pub framed_none : (p : Piece) → TakesTooMuch p → framed p ≡ None
framed_none p t = elim (framed_cases p) [ inl h ↦ h.0 | inr h ↦ absurd (elim t.is [ inl e ↦ h.0.spelled e | inr l ↦ omega (arith, h.1) ]) ]

pub takes_framed : {n : ℕ} {p : Piece} → Takes n p → n < 2 ^ 32 → Takes (length (unsigned n) + n) (framed p)
takes_framed {n} {p} t l = elim (framed_cases p) [
  | inl h ↦ absurd (elim h.1.is [ inl e ↦ t.spelled e | inr m ↦ omega (arith, t.long) ])
  | inr h ↦ subst (λ (k : ℕ). Takes (length (unsigned k) + k) (framed p)) (sym t.long) h.2
]

pub sized_none : (id : ℕ) (p : Piece) → TakesTooMuch p → sized id p ≡ None
sized_none id p t = ap (λ x. byte id ⊕ x) (framed_none p t) ∙ right_none (byte id)

pub takes_sized : (id : ℕ) {n : ℕ} {p : Piece} → Takes n p → n < 2 ^ 32 → Takes (1 + (length (unsigned n) + n)) (sized id p)
takes_sized id t l = takes_then (takes_bytes 1 (id ∷ []) (omega arith)) (takes_framed t l)

-- loops
module _ {A : Type 0} (f : A → Piece) where
  -- n is the length of what a loop has measured so far
  pub record Sum (xs : List A) (i n : ℕ) : Type 0 where
    pub is : Takes n (each f (take i xs))

  pub sum_none : (xs : List A) → Sum xs 0 0
  sum_none xs = record { is = takes_bytes 0 [] (omega arith) }

  pub sum_next : (xs : List A) (i : ℕ) (x : A) (m n k : ℕ) → Sum xs i m → i < length xs → x ≡ get_or xs i x → Takes n (f x) → k ≡ m + n → Sum xs (i + 1) k
  sum_next xs i x m n k s h e t q =
      record {
        is = subst (λ (z : Piece). Takes k z) (sym (each_more f xs i x h e))
            (subst (λ (z : ℕ). Takes z (each f (take i xs) ⊕ f x)) (sym q) (takes_then s.is t));
      }

  pub sum_all : (xs : List A) (i n : ℕ) → Sum xs i n → length xs ≤ i → Takes n (each f xs)
  sum_all xs i n s h = subst (λ (q : List A). Takes n (each f q)) (take_all i xs h) s.is

  -- one of them is too long
  pub each_too_much : (xs : List A) (i : ℕ) (x : A) → i < length xs → x ≡ get_or xs i x → TakesTooMuch (f x) → TakesTooMuch (each f xs)
  each_too_much xs i x h e t = subst (λ (q : Piece). TakesTooMuch q) (sym (each_at f xs i x h e)) (too_much_right _ (too_much_left _ t))

  -- those so far and the next are too long
  pub each_reaches : (xs : List A) (i : ℕ) (x : A) (m n : ℕ) → i < length xs → x ≡ get_or xs i x → Sum xs i m → Takes n (f x) → 2 ^ 32 ≤ m + n
      → TakesTooMuch (each f xs)
  each_reaches xs i x m n h e s t l =
      subst (λ (q : Piece). TakesTooMuch q) (sym (each_at f xs i x h e ∙ sym (assoc (each f (take i xs)) (f x) (each f (drop (suc i) xs)))))
      (too_much_left _ (too_much_long (takes_then s.is t) l))

  -- one of them has no encoding
  pub each_none : (xs : List A) (i : ℕ) (x : A) → i < length xs → x ≡ get_or xs i x → f x ≡ None → each f xs ≡ None
  each_none xs i x h e n = each_at f xs i x h e ∙ ap (λ q. each f (take i xs) ⊕ (q ⊕ each f (drop (suc i) xs))) n
      ∙ ap (λ q. each f (take i xs) ⊕ q) (left_none _) ∙ right_none _

  pub many_too_much : (xs : List A) → TakesTooMuch (each f xs) → TakesTooMuch (many f xs)
  many_too_much xs t = too_much_right (u (length xs)) t

-- the exit of a `?` that passes on that something is too long
pub measures_none : (r : Result ℕ Error) (e : Error) {p : Piece} → IsErrAnd r (λ y. y ≡ e) → e ≡ TooLong → p ≡ None → Measures r p
measures_none (Ok n) e is f g = absurd is
measures_none (Err y) e is f g = (is ∙ f, g)

-- if there is no encoding
too_large : {F N : Type 0} {n : Piece} {b : List ℕ} → ((n ≡ Some b) × F) ⊎ ((n ≡ None) × N) → n ≡ None → N
too_large (inl h) e = let f = h.0 in cc
too_large (inr h) e = h.1

pub u_none_where : (n : ℕ) → (u n ≡ None) ↔ (2 ^ 32 ≤ n)
u_none_where n = (λ e. too_large (u_cases n) e, u_none n)

pub number_none_where : (n : ℕ) → (number n ≡ None) ↔ (2 ^ 64 ≤ n)
number_none_where n = (λ e. too_large (number_cases n) e, number_none n)

pub s_index_none_where : (n : ℕ) → (s_index n ≡ None) ↔ (2 ^ 32 ≤ n)
s_index_none_where n = (λ e. too_large (s_index_cases n) e, s_index_none n)

behind : (b : List ℕ) → (u (length b) ⊕ Some b ≡ None) ↔ (2 ^ 32 ≤ length b)
behind b = (
  λ e. elim (none_join _ _ e) [ inl n ↦ (u_none_where (length b)).0 n | inr n ↦ absurd (let f : Some b ≡ None = n in cc) ],
  λ h. ap (λ q. q ⊕ Some b) (u_none (length b) h) ∙ left_none (Some b),
)

pub text_none_where : (t : List ℕ) → IsUtf8 t → (text t ≡ None) ↔ (2 ^ 32 ≤ length t)
text_none_where t h = let e = text_is t h in let w = behind t in (λ n. w.0 (sym e ∙ n), λ l. e ∙ w.1 l)

pub sized_none_where : (id : ℕ) (c : List ℕ) → (sized id (bytes c) ≡ None) ↔ (2 ^ 32 ≤ length c)
sized_none_where id c = (
  λ e. elim (none_join _ _ e) [ inl n ↦ absurd (let f : byte id ≡ None = n in cc) | inr n ↦ (behind c).0 (sym (framed_bytes c) ∙ n) ],
  λ h. ap (λ q. byte id ⊕ q) (framed_bytes c ∙ (behind c).1 h) ∙ right_none (byte id),
)

pub ruleset measuring = (left_none, right_none, length_join, none_join, u_cases, number_cases, text_is, framed_cases)
