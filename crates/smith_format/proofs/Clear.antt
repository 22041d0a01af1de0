-- Two readings of the same bytes, piece by piece.
use Rattle.std.proofs.Common.{◌≡◌, ℕ, zero, suc, ◌+◌, ◌/◌, ◌%◌, ◌<◌, ◌≤◌, ◌⊎◌, inl, inr, List, [], ◌∷◌, ◌++◌, length, refl, ap, sym, ◌∙◌, arith}
use Rattle.std.proofs.Common.{Some, None, ℤ, pos, negsuc}
use Rattle.std.proofs.lemmas.Bool.{cases_lt}
use Rattle.std.proofs.lemmas.List.{append_cancel_left}
use Rattle.smith_format.specs.Numbers.{digits, unsigned, signed, as_it_is, turned}
use Rattle.smith_format.specs.Piece.{Piece, ◌⊕◌, u, number, s, s_index, raw, text, utf8, each, many, framed, sized, byte, bytes}
use Rattle.smith_format.specs.Clear.{Rests, Agree, IsClear, IsExact}
use Rattle.smith_format.proofs.Piece.{utf8_then, raw_whole, assoc, left_nil, left_none, right_nil, parts_are, u_cases, number_cases, s_index_cases}
use Rattle.smith_format.proofs.Steps.{framed_bytes, framed_nothing}
use Rattle.smith_format.proofs.Digits.{digits_more, digits_last, digits_next, digits_enough}

-- the bytes after a known prefix
pub tail : (a : List ℕ) (p q : Piece) (b : List ℕ) → Some a ⊕ p ≡ Some b → Some a ⊕ q ≡ Some b → Rests p q
unfolding ◌⊕◌
tail a None q b e f = cc
tail a (Some c) None b e f = cc
tail a (Some c) (Some d) b e f =
    let g : a ++ d ≡ a ++ c = cc in
    record { rest = c; first = refl; second = ap Some (append_cancel_left a d c g) }

pub head : (n : ℕ) (a : List ℕ) (p : Piece) (b : List ℕ) → Some (n ∷ a) ⊕ p ≡ Some b → (t : List ℕ) × (b ≡ n ∷ t)
unfolding ◌⊕◌
head n a None b e = cc
head n a (Some c) b e = let f : b ≡ n ∷ (a ++ c) = cc in (a ++ c, f)

pub then_head : (n : ℕ) (a : List ℕ) (p q : Piece) (b : List ℕ) → (Some (n ∷ a) ⊕ p) ⊕ q ≡ Some b → (t : List ℕ) × (b ≡ n ∷ t)
then_head n a p q b e = head n a (p ⊕ q) b (sym (assoc (Some (n ∷ a)) p q) ∙ e)

pub then_tail : (a : List ℕ) (s t p q : Piece) (b : List ℕ) → (Some a ⊕ s) ⊕ p ≡ Some b → (Some a ⊕ t) ⊕ q ≡ Some b → Rests (s ⊕ p) (t ⊕ q)
then_tail a s t p q b e f = tail a (s ⊕ p) (t ⊕ q) b (sym (assoc (Some a) s p) ∙ e) (sym (assoc (Some a) t q) ∙ f)

-- the first bytes of the same bytes
pub clash : (m n : ℕ) (b : List ℕ) → (t : List ℕ) × (b ≡ m ∷ t) → (t : List ℕ) × (b ≡ n ∷ t) → m ≡ n
clash m n b x y = let e = x.1 in let f = y.1 in let g : m ∷ x.0 ≡ n ∷ y.0 = cc in cc

-- a sort, and then more
pub then_agree : {A : Type 0} (f : A → Piece) → IsClear f → (x y : A) (s t p q : Piece) (b : List ℕ) → (f x ⊕ s) ⊕ p ≡ Some b → (f y ⊕ t) ⊕ q ≡ Some b
    → Agree x y (s ⊕ p) (t ⊕ q)
then_agree f c x y s t p q b e g = c.law x y (s ⊕ p) (t ⊕ q) b (sym (assoc (f x) s p) ∙ e) (sym (assoc (f y) t q) ∙ g)

-- What is made of both is the same too.
pub agree_by : {A B : Type 0} (g : A → B) {x y : A} {p q : Piece} → Agree x y p q → Agree (g x) (g y) p q
agree_by g a = record { same = ap g a.same; rests = a.rests }

-- the same for what fills its bytes
pub exact : {A : Type 0} (f : A → Piece) → IsClear f → IsExact f
exact f c = record { law = λ x y b e h. (c.law x y (Some []) (Some []) b (right_nil (f x) ∙ e) (right_nil (f y) ∙ h)).same }

split_append : (a c b d : List ℕ) → length a ≡ length c → a ++ b ≡ c ++ d → (a ≡ c) × (b ≡ d)
split_append [] [] b d n e = (refl, e)
split_append [] (y ∷ c) b d n e = absurd (omega arith)
split_append (x ∷ a) [] b d n e = absurd (omega arith)
split_append (x ∷ a) (y ∷ c) b d n e =
    let h : x ≡ y = cc in
    let t : a ++ b ≡ c ++ d = cc in
    let m : length a ≡ length c = omega arith in
    let r = split_append a c b d m t in (let r0 = r.0 in cc, r.1)

-- bytes of a known length
pub same_length : (a c : List ℕ) (p q : Piece) (b : List ℕ) → length a ≡ length c → Some a ⊕ p ≡ Some b → Some c ⊕ q ≡ Some b → Agree a c p q
same_length a c p q b n e f =
    let g = parts_are (Some a) p b e in
    let h = parts_are (Some c) q b f in
    let a' : a ≡ g.left = let z = g.p_is in cc in
    let c' : c ≡ h.left = let z = h.p_is in cc in
    let w : a ++ g.right ≡ c ++ h.right = ap (λ l. l ++ g.right) a' ∙ sym g.is ∙ h.is ∙ ap (λ l. l ++ h.right) (sym c') in
    let r = split_append a c g.right h.right n w in
    record { same = r.0; rests = record { rest = g.right; first = g.q_is; second = h.q_is ∙ ap Some (sym r.1) } }

-- a byte that determines which of a sort it is
pub clear_byte : {A : Type 0} (f : A → ℕ) → ((x y : A) → f x ≡ f y → x ≡ y) → IsClear (λ x. byte (f x))
clear_byte f same =
    record {
      law = λ x y p q b e h.
          let a = same_length (f x ∷ []) (f y ∷ []) p q b (λ i. 1) e h in
          record { same = same x y (let z = a.same in cc); rests = a.rests };
    }

-- encodings are distinguished by their bytes, whatever follows them
pub closed : {A : Type 0} (f : A → List ℕ) → ((x y : A) (a c : List ℕ) → f x ++ a ≡ f y ++ c → (x ≡ y) × (a ≡ c)) → IsClear (λ x. Some (f x))
closed f told =
    record {
      law = λ x y p q b e h.
          let g = parts_are (Some (f x)) p b e in
          let k = parts_are (Some (f y)) q b h in
          let g' : f x ≡ g.left = let z = g.p_is in cc in
          let k' : f y ≡ k.left = let z = k.p_is in cc in
          let r = told x y g.right k.right (ap (λ d. d ++ g.right) g' ∙ sym g.is ∙ k.is ∙ ap (λ d. d ++ k.right) (sym k')) in
          record { same = r.0; rests = record { rest = g.right; first = g.q_is; second = k.q_is ∙ ap Some (sym r.1) } };
    }

-- Two numbers with the same bytes are told from their last digits on, however each writes seven bits.
module _ (bits others : ℕ → ℕ) (last : ℕ) (low : 0 < last) (high : last ≤ 128) (Told : ℕ → ℕ → Type 0)
    (small : (n : ℕ) → n < 128 → (bits n < 128) × (others n < 128))
    (at_last : (m n : ℕ) → m < last → n < last → bits m ≡ others n → Told m n)
    (above : (m n : ℕ) → Told (m / 128) (n / 128) → bits (m % 128) ≡ others (n % 128) → Told m n) where
  digits_told : (k m n : ℕ) (a c : List ℕ) → m ≤ k → n ≤ k → digits bits last k m ++ a ≡ digits others last k n ++ c → Told m n × (a ≡ c)
  digits_told zero m n a c f g e =
      let v : bits m ∷ a ≡ others n ∷ c = rw (digits_last bits last 0 m (omega arith), digits_last others last 0 n (omega arith)) at e in
      let h : bits m ≡ others n = cc in
      let t : a ≡ c = cc in (at_last m n (omega arith) (omega arith) h, t)
  digits_told (suc k) m n a c f g e = elim (cases_lt m last) [
    | inl l ↦ elim (cases_lt n last) [
      | inl r ↦
          let v : bits m ∷ a ≡ others n ∷ c = rw (digits_last bits last (suc k) m l, digits_last others last (suc k) n r) at e in
          let h : bits m ≡ others n = cc in
          let t : a ≡ c = cc in (at_last m n l r h, t)
      | inr r ↦
          let v : bits m ∷ a ≡ (128 + others (n % 128)) ∷ (digits others last k (n / 128) ++ c) =
          rw (digits_last bits last (suc k) m l, digits_more others last k n r) at e in
          let h : bits m ≡ 128 + others (n % 128) = cc in absurd (omega (arith, (small m (omega arith)).0))
    ]
    | inr l ↦ elim (cases_lt n last) [
      | inl r ↦
          let v : (128 + bits (m % 128)) ∷ (digits bits last k (m / 128) ++ a) ≡ others n ∷ c =
          rw (digits_more bits last k m l, digits_last others last (suc k) n r) at e in
          let h : 128 + bits (m % 128) ≡ others n = cc in absurd (omega (arith, (small n (omega arith)).1))
      | inr r ↦
          let v : (128 + bits (m % 128)) ∷ (digits bits last k (m / 128) ++ a) ≡ (128 + others (n % 128)) ∷ (digits others last k (n / 128) ++ c) =
          rw (digits_more bits last k m l, digits_more others last k n r) at e in
          let h : 128 + bits (m % 128) ≡ 128 + others (n % 128) = cc in
          let t : digits bits last k (m / 128) ++ a ≡ digits others last k (n / 128) ++ c = cc in
          let d = digits_told k (m / 128) (n / 128) a c (omega arith) (omega arith) t in
          let s : bits (m % 128) ≡ others (n % 128) = omega arith in (above m n d.0 s, d.1)
    ]
  ]

  -- numbers with as many digits as they need
  whole_told : (m n : ℕ) (a c : List ℕ) → digits bits last m m ++ a ≡ digits others last n n ++ c → Told m n × (a ≡ c)
  whole_told m n a c e =
      digits_told (m + n) m n a c (omega arith) (omega arith)
      (ap (λ d. d ++ a) (digits_enough bits last (m + n) m m low (omega arith) (omega arith)) ∙ e
      ∙ ap (λ d. d ++ c) (digits_enough others last n (m + n) n low (omega arith) (omega arith)))

plain_told : (last : ℕ) → 0 < last → last ≤ 128 → (m n : ℕ) (a c : List ℕ) → digits as_it_is last m m ++ a ≡ digits as_it_is last n n ++ c → (m ≡ n) × (a ≡ c)
plain_told last low high = whole_told as_it_is as_it_is last low high (λ m n. m ≡ n) (λ n h. (h, h)) (λ m n f g e. e) (λ m n d s. omega arith)

turned_told : (m n : ℕ) (a c : List ℕ) → digits turned 64 m m ++ a ≡ digits turned 64 n n ++ c → (m ≡ n) × (a ≡ c)
turned_told =
    whole_told turned turned 64 (omega arith) (omega arith) (λ m n. m ≡ n) (λ n h. (omega arith, omega arith)) (λ m n f g e. omega arith)
    (λ m n d s. omega arith)

-- a number and one whose bits are turned differ in their last bytes
never_told : (m n : ℕ) (a c : List ℕ) → digits as_it_is 64 m m ++ a ≡ digits turned 64 n n ++ c → ⊥ × (a ≡ c)
never_told =
    whole_told as_it_is turned 64 (omega arith) (omega arith) (λ m n. ⊥) (λ n h. (h, omega arith)) (λ m n f g e. omega arith) (λ m n d s. d)

-- numbers
pub unsigned_clear : (m n : ℕ) (a c : List ℕ) → unsigned m ++ a ≡ unsigned n ++ c → (m ≡ n) × (a ≡ c)
unfolding unsigned
unsigned_clear m n a c e = plain_told 128 (omega arith) (omega arith) m n a c e

pub signed_clear : (y z : ℤ) (a c : List ℕ) → signed y ++ a ≡ signed z ++ c → (y ≡ z) × (a ≡ c)
unfolding signed
signed_clear (pos m) (pos n) a c e = let r = plain_told 64 (omega arith) (omega arith) m n a c e in (ap pos r.0, r.1)
signed_clear (pos m) (negsuc n) a c e = absurd (never_told m n a c e).0
signed_clear (negsuc m) (pos n) a c e = absurd (never_told n m c a (sym e)).0
signed_clear (negsuc m) (negsuc n) a c e = let r = turned_told m n a c e in (ap negsuc r.0, r.1)

clear_unsigned : IsClear (λ n. Some (unsigned n))
clear_unsigned = closed unsigned unsigned_clear

pub clear_s : IsClear s
clear_s = closed signed signed_clear

-- a number that has an encoding
has : {F N : Type 0} (n e p : Piece) (b : List ℕ) → ((n ≡ e) × F) ⊎ ((n ≡ None) × N) → n ⊕ p ≡ Some b → e ⊕ p ≡ Some b
has n e p b (inl h) is = ap (λ q. q ⊕ p) (sym h.0) ∙ is
has n e p b (inr h) is = let g : None ≡ Some b = sym (left_none p) ∙ ap (λ q. q ⊕ p) (sym h.0) ∙ is in cc

s_index_is : (n : ℕ) (p : Piece) (b : List ℕ) → s_index n ⊕ p ≡ Some b → s (pos n) ⊕ p ≡ Some b
s_index_is n p b e = has (s_index n) (s (pos n)) p b (s_index_cases n) e

pub clear_u : IsClear u
clear_u = record { law = λ m n p q b e h. clear_unsigned.law m n p q b (has (u m) _ p b (u_cases m) e) (has (u n) _ q b (u_cases n) h) }

pub clear_number : IsClear number
clear_number =
    record { law = λ m n p q b e h. clear_unsigned.law m n p q b (has (number m) _ p b (number_cases m) e) (has (number n) _ q b (number_cases n) h) }

pub clear_s_index : IsClear s_index
clear_s_index =
    record {
      law = λ m n p q b e h.
          let r = clear_s.law (pos m) (pos n) p q b (s_index_is m p b e) (s_index_is n q b h) in
          record { same = let z = r.same in cc; rests = r.rests };
    }

-- the first byte of an index where a value type may appear
pub s_index_head : (n : ℕ) (p : Piece) (b : List ℕ) → s_index n ⊕ p ≡ Some b → (h : ℕ) × (t : List ℕ) × (b ≡ h ∷ t) × ((h < 64) ⊎ (128 ≤ h))
unfolding signed
s_index_head n p b e = elim (cases_lt n 64) [
  | inl f ↦ let r = head n [] p b (ap (λ d. Some d ⊕ p) (sym (digits_last as_it_is 64 n n f)) ∙ s_index_is n p b e) in (n, r.0, r.1, inl f)
  | inr f ↦
      let r = head (128 + n % 128) (digits as_it_is 64 (n / 128) (n / 128)) p b
      (ap (λ d. Some d ⊕ p) (sym (digits_next as_it_is 64 n (omega arith) f)) ∙ s_index_is n p b e) in (128 + n % 128, r.0, r.1, inr (omega arith))
]

pub clear_text : IsClear text
unfolding text
clear_text = record {
  law = λ t r p q b e h.
      let n = then_agree u clear_u (length t) (length r) (utf8 t) (utf8 r) p q b e h in
      same_length t r p q n.rests.rest n.same (utf8_then t p n.rests.rest n.rests.first) (utf8_then r q n.rests.rest n.rests.second);
}

-- What follows its length: the same contents, and the same bytes after them.
pub record SameContents (c d p q : Piece) : Type 0 where
  pub contents : List ℕ
  pub first : c ≡ Some contents
  pub second : d ≡ Some contents
  pub rests : Rests p q

pub same_framed : (c d p q : Piece) (b : List ℕ) → framed c ⊕ p ≡ Some b → framed d ⊕ q ≡ Some b → SameContents c d p q
same_framed None d p q b e h = let z : None ≡ Some b = sym (left_none p) ∙ ap (λ x. x ⊕ p) (sym framed_nothing) ∙ e in cc
same_framed (Some c) None p q b e h = let z : None ≡ Some b = sym (left_none q) ∙ ap (λ x. x ⊕ q) (sym framed_nothing) ∙ h in cc
same_framed (Some c) (Some d) p q b e h =
    let n = then_agree u clear_u (length c) (length d) (Some c) (Some d) p q b (ap (λ x. x ⊕ p) (sym (framed_bytes c)) ∙ e)
    (ap (λ x. x ⊕ q) (sym (framed_bytes d)) ∙ h) in
    let r = same_length c d p q n.rests.rest n.same n.rests.first n.rests.second in
    record { contents = c; first = refl; second = ap Some (sym r.same); rests = r.rests }

pub same_section : (id : ℕ) (c d p q : Piece) (b : List ℕ) → sized id c ⊕ p ≡ Some b → sized id d ⊕ q ≡ Some b → SameContents c d p q
same_section id c d p q b e h = let t = then_tail (id ∷ []) (framed c) (framed d) p q b e h in same_framed c d p q t.rest t.first t.second

pub section_head : (id : ℕ) (c p : Piece) (b : List ℕ) → sized id c ⊕ p ≡ Some b → (t : List ℕ) × (b ≡ id ∷ t)
section_head id c p b e = then_head id [] (framed c) p b e

module _ {A : Type 0} (f : A → Piece) (x : IsExact f) where
  pub clear_sized : (id : ℕ) → IsClear (λ a. sized id (f a))
  clear_sized id =
      record {
        law = λ a c p q b e h.
            let t = same_section id (f a) (f c) p q b e h in
            record { same = x.law a c t.contents t.first t.second; rests = t.rests };
      }

module _ {A : Type 0} (f : A → Piece) (c : IsClear f) where
  pub clear_each : (xs ys : List A) (p q : Piece) (b : List ℕ) → length xs ≡ length ys → each f xs ⊕ p ≡ Some b → each f ys ⊕ q ≡ Some b → Agree xs ys p q
  clear_each [] [] p q b n e h = record { same = refl; rests = record { rest = b; first = sym (left_nil p) ∙ e; second = sym (left_nil q) ∙ h } }
  clear_each [] (y ∷ ys) p q b n e h = absurd (omega arith)
  clear_each (x ∷ xs) [] p q b n e h = absurd (omega arith)
  clear_each (x ∷ xs) (y ∷ ys) p q b n e h =
      let a = then_agree f c x y (each f xs) (each f ys) p q b e h in
      let m : length xs ≡ length ys = omega arith in
      let r = clear_each xs ys p q a.rests.rest m a.rests.first a.rests.second in
      record { same = λ i. a.same i ∷ r.same i; rests = r.rests }

  -- the same after known bytes
  pub clear_after : (a : List ℕ) → IsClear (λ x. Some a ⊕ f x)
  clear_after a =
      record { law = λ x y p q b e h. let t = then_tail a (f x) (f y) p q b e h in c.law x y p q t.rest t.first t.second }

  pub clear_many : IsClear (many f)
  clear_many = record {
    law = λ xs ys p q b e h.
        let n = then_agree u clear_u (length xs) (length ys) (each f xs) (each f ys) p q b e h in
        clear_each xs ys p q n.rests.rest n.same n.rests.first n.rests.second;
  }

module _ {A B : Type 0} (f : A → Piece) (c : IsClear f) (g : B → Piece) (d : IsClear g) where
  pub clear_both : IsClear (λ (x : A × B). f x.0 ⊕ g x.1)
  clear_both = record {
    law = λ x y p q b e h.
        let a = then_agree f c x.0 y.0 (g x.1) (g y.1) p q b e h in
        let r = d.law x.1 y.1 p q a.rests.rest a.rests.first a.rests.second in
        record { same = λ i. (a.same i, r.same i); rests = r.rests };
  }

-- a sort, and then what fills the rest
pub exact_both : {A B : Type 0} (f : A → Piece) (g : B → Piece) → IsClear f → IsExact g → IsExact (λ (x : A × B). f x.0 ⊕ g x.1)
exact_both f g c d =
    record {
      law = λ x y b e h.
          let a = c.law x.0 y.0 (g x.1) (g y.1) b e h in
          let r = d.law x.1 y.1 a.rests.rest a.rests.first a.rests.second in λ i. (a.same i, r i);
    }

pub exact_raw : IsExact raw
exact_raw = record { law = λ x y b e h. raw_whole x b e ∙ sym (raw_whole y b h) }

pub exact_bytes : IsExact bytes
exact_bytes = record { law = λ x y b e h. cc }
