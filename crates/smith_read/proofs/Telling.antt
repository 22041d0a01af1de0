-- What is read is what is spelled: bytes, numbers, texts, and what is made of other sorts.
use Rattle.std.proofs.Common.{◌≡◌, ℕ, zero, suc, ◌+◌, ◌-◌, ◌*◌, ◌/◌, ◌%◌, ◌^◌, ◌<◌, ◌≤◌, inl, inr, List, [], ◌∷◌, ◌++◌, length, take, drop, Option, Some}
use Rattle.std.proofs.Common.{None, refl, ap, sym, ◌∙◌, subst, arith, Bool, true, false, cond, nat_lt, eqb}
use Rattle.std.proofs.lemmas.Bool.{ltb-false, lt-ltb, le-ltb, eqb-true, eq-eqb}
use Rattle.std.proofs.lemmas.List.{take_at, drop_at, take-append-drop, length-append, length-take-le}
use Rattle.std.specs.Str.{is_utf8}
use borrow.Author.Tests.{ltb-true}
use Rattle.smith_format.specs.Numbers.{digits, as_it_is, unsigned, signed}
use Rattle.smith_format.specs.Piece.{Piece, ◌⊕◌, byte, u, s_index, text, utf8, each, many, number}
use Rattle.smith_format.proofs.Piece.{assoc, joined, left_nil, left_none, parts_are, u_fits, u_cases, number_fits, number_cases, s_index_fits, s_index_none}
use Rattle.smith_format.proofs.Digits.{digits_last, digits_more, digits_next}
use Rattle.smith_read.specs.Reading.{Found, ◌>>=◌, at_least, at_most, byte_at, digits_at, number_at, u_at, index_at, seen, both_at, utf8_at, text_at}
use Rattle.smith_read.specs.Reading.{times_at, many_at, after_byte, skip_at, behind, limit_at}
use Rattle.smith_format.specs.Clear.{Agree, IsClear}
use Rattle.smith_read.specs.Tells.{Begins, Tells}
use Rattle.smith_read.proofs.Digits.{byte_is, number_none}
use Rattle.std.proofs.lemmas.Option.{same_Some}

-- a step that returned something
pub bind_some : {A B : Type 0} (r : Option A) (f : A → Option B) (y : B) → r >>= f ≡ Some y → (x : A) × (r ≡ Some x) × (f x ≡ Some y)
bind_some (Some x) f y e = (x, refl, e)
bind_some None f y e = absurd cc

-- a choice by a number that returned something
pub chain : {B P : Type 0} (tag n : ℕ) (x y : Option B) (z : B) → (tag ≡ n → x ≡ Some z → P) → (y ≡ Some z → P) → cond (eqb tag n) x y ≡ Some z → P
chain {B} {P} tag n x y z here there e = by_test (eqb tag n) refl e
  where
    by_test : (t : Bool) → eqb tag n ≡ t → cond t x y ≡ Some z → P
    by_test true f g = here (eqb-true tag n f) g
    by_test false f g = there g

-- nothing else is left to choose
pub nothing : {B P : Type 0} (z : B) → None ≡ Some z → P
nothing z e = absurd cc

pub seen_is : {A B : Type 0} (g : A → B) (r : Found A) (y : B × List ℕ) → seen g r ≡ Some y → (x : A × List ℕ) × (r ≡ Some x) × ((g x.0, x.1) ≡ y)
seen_is g r y e = let b = bind_some r (λ x. Some (g x.0, x.1)) y e in (b.0, b.1, same_Some _ _ b.2)

-- two pieces, read one after another
pub both_begin : (p q : Piece) (b mid rest : List ℕ) → p ⊕ Some mid ≡ Some b → q ⊕ Some rest ≡ Some mid → (p ⊕ q) ⊕ Some rest ≡ Some b
both_begin p q b mid rest e f = assoc p q (Some rest) ∙ ap (λ r. p ⊕ r) f ∙ e

pub record Parted (p q : Piece) (b rest : List ℕ) : Type 0 where
  pub mid : List ℕ
  pub front : p ⊕ Some mid ≡ Some b
  pub back : q ⊕ Some rest ≡ Some mid

pub parted : (p q : Piece) (b rest : List ℕ) → (p ⊕ q) ⊕ Some rest ≡ Some b → Parted p q b rest
parted p q b rest e =
    let f : p ⊕ (q ⊕ Some rest) ≡ Some b = sym (assoc p q (Some rest)) ∙ e in
    let g = parts_are p (q ⊕ Some rest) b f in
    record { mid = g.right; front = ap (λ r. p ⊕ r) (sym g.q_is) ∙ f; back = g.q_is }

-- ---- bytes

pub byte_begins : (b : List ℕ) (t : ℕ × List ℕ) → byte_at b ≡ Some t → Begins byte b t
byte_begins b t e = joined (t.0 ∷ []) t.1 ∙ ap Some (sym (byte_is b t.1 t.0 e).0)

pub byte_read : (b : List ℕ) (t : ℕ × List ℕ) → t.0 < 256 → Begins byte b t → byte_at b ≡ Some t
unfolding byte_at
byte_read b t l e = grind (arith, same_Some, joined, lt-ltb)

pub skip_begins : (n : ℕ) (b rest : List ℕ) → skip_at n b ≡ Some rest → byte n ⊕ Some rest ≡ Some b
unfolding skip_at
skip_begins n b rest e = grind (arith, bind_some, chain, same_Some, byte_begins, nothing)

abbrev some_list_of : List ℕ → Option (List ℕ)
some_list_of b = Some b

pub skip_read : (n : ℕ) (b rest : List ℕ) → n < 256 → byte n ⊕ Some rest ≡ Some b → skip_at n b ≡ Some rest
unfolding skip_at
skip_read n b rest l e =
    let same : cond (eqb n n) (some_list_of rest) None ≡ Some rest = ap (λ t. cond t (some_list_of rest) None) (eq-eqb n n refl) in
    ap (λ r. r >>= after_byte n) (byte_read b (n, rest) l e) ∙ same

abbrev pub first_byte : List ℕ → ℕ
first_byte [] = 0
first_byte (b ∷ bs) = b

-- ---- numbers

module _ (last : ℕ) (low : 0 < last) (high : last ≤ 128) where
  pub digits_read : (k n : ℕ) (rest : List ℕ) → n ≤ k → digits_at last (digits as_it_is last k n ++ rest) ≡ Some (n, rest)
  unfolding digits_at
  digits_read zero n rest l = rw (digits_last as_it_is last 0 n (omega arith), lt-ltb n last (omega arith)) refl
  digits_read (suc k) n rest l = by_test (λ h. digits_read k (n / 128) rest h) (nat_lt n last) refl
    where
      by_test : (n / 128 ≤ k → digits_at last (digits as_it_is last k (n / 128) ++ rest) ≡ Some (n / 128, rest)) → (x : Bool) → nat_lt n last ≡ x
          → digits_at last (digits as_it_is last (suc k) n ++ rest) ≡ Some (n, rest)
      by_test ih true e = rw (digits_last as_it_is last (suc k) n (ltb-true n last e), e) refl
      by_test ih false e =
          let le = ltb-false n last e in
          let same : 128 + n % 128 - 128 + 128 * (n / 128) ≡ n = omega arith in
          rw (
            digits_more as_it_is last k n le,
            le-ltb (128 + n % 128) last (omega arith),
            le-ltb (128 + n % 128) 128 (omega arith),
            lt-ltb
                (128 + n % 128) 256 (omega arith),
            ih (omega arith),
            same,
            e,
          ) refl

  pub digits_begin : (b : List ℕ) (x : ℕ × List ℕ) → digits_at last b ≡ Some x → b ≡ digits as_it_is last x.0 x.0 ++ x.1
  unfolding digits_at
  digits_begin [] x e = absurd cc
  digits_begin (b ∷ bs) x e = by_test (λ d f. digits_begin bs d f) (nat_lt b last) (nat_lt b 128) (nat_lt b 256) refl refl refl e
    where
      longer : (h n : ℕ) (r : List ℕ) → bs ≡ digits as_it_is last h h ++ r → 128 ≤ b → b < 256 → last ≤ n → n ≡ b - 128 + 128 * h
          → b ∷ bs ≡ digits as_it_is last n n ++ r
      longer h n r f g l m i =
          let p : 128 + n % 128 ≡ b = omega arith in
          let q : n / 128 ≡ h = omega arith in
          ap (λ t. b ∷ t) f ∙ sym (rw (digits_next as_it_is last n low m, p, q) refl)

      least : (n : ℕ) (r : List ℕ) → at_least last n r ≡ Some x → (last ≤ n) × ((n, r) ≡ x)
      least n r f = inner (nat_lt n last) refl f
        where
          inner : (t : Bool) → nat_lt n last ≡ t → cond {A = Found ℕ} t None (Some (n, r)) ≡ Some x → (last ≤ n) × ((n, r) ≡ x)
          inner true g i = absurd cc
          inner false g i = (ltb-false n last g, same_Some _ _ i)

      by_test : ((d : ℕ × List ℕ) → digits_at last bs ≡ Some d → bs ≡ digits as_it_is last d.0 d.0 ++ d.1) → (x1 y1 z1 : Bool) → nat_lt b last ≡ x1
          → nat_lt b 128 ≡ y1 → nat_lt b 256 ≡ z1
          → cond {A = Found ℕ} x1 (Some (b, bs)) (cond y1 None (cond z1 (digits_at last bs >>= λ d. at_least last (b - 128 + 128 * d.0) d.1) None)) ≡ Some x
          → b ∷ bs ≡ digits as_it_is last x.0 x.0 ++ x.1
      by_test ih true y1 z1 f g h i = subst (λ (p : ℕ × List ℕ). b ∷ bs ≡ digits as_it_is last p.0 p.0 ++ p.1) (same_Some (b, bs) x i)
          (sym (rw (digits_last as_it_is last b b (ltb-true b last f)) refl))
      by_test ih false true z1 f g h i = absurd cc
      by_test ih false false false f g h i = absurd cc
      by_test ih false false true f g h i =
          let d = bind_some (digits_at last bs) (λ d. at_least last (b - 128 + 128 * d.0) d.1) x i in
          let m = least (b - 128 + 128 * d.0.0) d.0.1 d.2 in
          subst (λ (p : ℕ × List ℕ). b ∷ bs ≡ digits as_it_is last p.0 p.0 ++ p.1) m.1
          (longer d.0.0 (b - 128 + 128 * d.0.0) d.0.1 (ih d.0 d.1) (ltb-false b 128 g) (ltb-true b 256 h) m.0 refl)

  pub number_begins : (most : ℕ) (b : List ℕ) (x : ℕ × List ℕ) → number_at last most b ≡ Some x → (b ≡ digits as_it_is last x.0 x.0 ++ x.1) × (x.0 ≤ most)
  unfolding number_at
  number_begins most b x e =
      let d = bind_some (digits_at last b) (at_most most) x e in
      inner d.0 (nat_lt most d.0.0) refl (digits_begin b d.0 d.1) d.2
    where
      inner : (d : ℕ × List ℕ) (t : Bool) → nat_lt most d.0 ≡ t → b ≡ digits as_it_is last d.0 d.0 ++ d.1 → cond {A = Found ℕ} t None (Some d) ≡ Some x
          → (b ≡ digits as_it_is last x.0 x.0 ++ x.1) × (x.0 ≤ most)
      inner d true f g h = absurd cc
      inner d false f g h = subst (λ (p : ℕ × List ℕ). (b ≡ digits as_it_is last p.0 p.0 ++ p.1) × (p.0 ≤ most)) (same_Some d x h) (g, ltb-false most d.0 f)

  pub number_read : (most n : ℕ) (rest : List ℕ) → n ≤ most → number_at last most (digits as_it_is last n n ++ rest) ≡ Some (n, rest)
  unfolding number_at
  number_read most n rest l = rw (digits_read n n rest (omega arith), le-ltb most n l) refl

pub tells_u : Tells u u_at
unfolding u_at unsigned
tells_u = record {
  sound = λ b x e.
      let r = number_begins 128 (omega arith) (omega arith) 4294967295 b x e in
      ap (λ p. p ⊕ Some x.1) (u_fits x.0 (omega (arith, r.1))) ∙ joined _ _ ∙ ap Some (sym r.0);
  whole = λ b x e.
      elim (u_cases x.0) [
        | inl h ↦ let f = same_Some _ _ (sym (joined (unsigned x.0) x.1) ∙ ap (λ p. p ⊕ Some x.1) (sym h.0) ∙ e) in
            ap u_at (sym f) ∙ number_read 128 (omega arith) (omega arith) 4294967295 x.0 x.1 (omega (arith, h.1))
        | inr h ↦ let z : None ≡ Some b = sym (left_none (Some x.1)) ∙ ap (λ p. p ⊕ Some x.1) (sym h.0) ∙ e in absurd cc
      ];
}

index_read : (b : List ℕ) (x : ℕ × List ℕ) → Begins s_index b x → (t : Bool) → nat_lt x.0 (2 ^ 32) ≡ t → number_at 64 4294967295 b ≡ Some x
unfolding signed
index_read b x e true f = grind (arith, same_Some, joined, s_index_fits, number_read)
index_read b x e false f = let z : None ≡ Some b = sym (left_none (Some x.1)) ∙ ap (λ p. p ⊕ Some x.1) (sym (s_index_none x.0 (ltb-false x.0 (2 ^ 32) f)))
    ∙ e in absurd cc

pub tells_index : Tells s_index index_at
unfolding index_at signed
tells_index = record {
  sound = λ b x e.
      let r = number_begins 64 (omega arith) (omega arith) 4294967295 b x e in
      ap (λ p. p ⊕ Some x.1) (s_index_fits x.0 (omega (arith, r.1))) ∙ joined _ _ ∙ ap Some (sym r.0);
  whole = λ b x e. index_read b x e (nat_lt x.0 (2 ^ 32)) refl;
}

-- the first byte of an index
pub index_byte : (b : List ℕ) (x : ℕ × List ℕ) → index_at b ≡ Some x → (t : ℕ × List ℕ) × (byte_at b ≡ Some t)
unfolding index_at
index_byte b x e = by_case (byte_at b) refl
  where
    by_case : (r : Found ℕ) → byte_at b ≡ r → (t : ℕ × List ℕ) × (r ≡ Some t)
    by_case (Some t) f = (t, refl)
    by_case None f = let z : None ≡ Some x = sym (number_none 64 4294967295 b (omega arith) (omega arith) f) ∙ e in absurd cc

-- ---- texts

utf8_cases : (t rest : List ℕ) (x : List ℕ × List ℕ) → utf8_at t rest ≡ Some x → (utf8 t ≡ Some t) × ((t, rest) ≡ x)
unfolding utf8
utf8_cases t rest x e = by_test (is_utf8 t) refl e
  where
    by_test : (y : Bool) → is_utf8 t ≡ y → cond {A = Found (List ℕ)} y (Some (t, rest)) None ≡ Some x
        → (cond (is_utf8 t) (Some t) None ≡ Some t) × ((t, rest) ≡ x)
    by_test true f g = (rw f refl, same_Some _ _ g)
    by_test false f g = absurd cc

text_front : (b : List ℕ) (x : List ℕ × List ℕ) (n : ℕ × List ℕ) → u_at b ≡ Some n
    → cond {A = Found (List ℕ)} (nat_lt (length n.1) n.0) None (utf8_at (take n.0 n.1) (drop n.0 n.1)) ≡ Some x → text x.0 ⊕ Some x.1 ≡ Some b
unfolding text
text_front b x n e f = by_test (nat_lt (length n.1) n.0) refl f
  where
    by_test : (y : Bool) → nat_lt (length n.1) n.0 ≡ y → cond {A = Found (List ℕ)} y None (utf8_at (take n.0 n.1) (drop n.0 n.1)) ≡ Some x
        → (u (length x.0) ⊕ utf8 x.0) ⊕ Some x.1 ≡ Some b
    by_test true g h = absurd cc
    by_test false g h =
        let c = utf8_cases _ _ x h in
        let l : length (take n.0 n.1) ≡ n.0 = length-take-le n.0 n.1 (ltb-false _ _ g) in
        let i : utf8 (take n.0 n.1) ⊕ Some (drop n.0 n.1) ≡ Some n.1 = ap (λ p. p ⊕ Some (drop n.0 n.1)) c.0 ∙ joined _ _
        ∙ ap Some (take-append-drop n.0 n.1) in
        let j = both_begin (u (length (take n.0 n.1))) (utf8 (take n.0 n.1)) b n.1 (drop n.0 n.1) (ap (λ m. u m ⊕ Some n.1) l ∙ tells_u.sound b n e) i in
        subst (λ (p : List ℕ × List ℕ). (u (length p.0) ⊕ utf8 p.0) ⊕ Some p.1 ≡ Some b) c.1 j

utf8_whole : (t rest b : List ℕ) → utf8 t ⊕ Some rest ≡ Some b → (utf8_at t rest ≡ Some (t, rest)) × (b ≡ t ++ rest)
unfolding utf8
utf8_whole t rest b e = by_test (is_utf8 t) e
  where
    by_test : (y : Bool) → cond y (Some t) None ⊕ Some rest ≡ Some b → (cond {A = Found (List ℕ)} y (Some (t, rest)) None ≡ Some (t, rest)) × (b ≡ t ++ rest)
    by_test true g = (refl, same_Some _ _ (sym g ∙ joined t rest))
    by_test false g = let z : None ≡ Some b = sym (left_none (Some rest)) ∙ g in absurd cc

pub tells_text : Tells text text_at
unfolding text_at text
tells_text = record {
  sound = λ b x e.
      let n = bind_some (u_at b) (λ n. cond (nat_lt (length n.1) n.0) None (utf8_at (take n.0 n.1) (drop n.0 n.1))) x e in
      text_front b x n.0 n.1 n.2;
  whole = λ b x e.
      let p = parted (u (length x.0)) (utf8 x.0) b x.1 e in
      let n = tells_u.whole b (length x.0, p.mid) p.front in
      let w = utf8_whole x.0 x.1 p.mid p.back in
      let l : nat_lt (length (x.0 ++ x.1)) (length x.0) ≡ false = le-ltb _ _ (omega (arith, length-append x.0 x.1)) in
      rw (n, w.1, l, take_at x.0 x.1 (length x.0) refl, drop_at x.0 x.1 (length x.0) refl) w.0;
}

-- ---- sorts made of others

pub tells_both : {A B : Type 0} {f : A → Piece} {g : B → Piece} {r : List ℕ → Found A} {s : List ℕ → Found B} → Tells f r → Tells g s
    → Tells (λ (x : A × B). f x.0 ⊕ g x.1) (both_at r s)
tells_both {A} {B} {f} {g} {r} {s} c d = record {
  sound = λ b x e.
      let m = bind_some (r b) (λ x. s x.1 >>= λ y. Some ((x.0, y.0), y.1)) x e in
      let n = bind_some (s m.0.1) (λ y. Some ((m.0.0, y.0), y.1)) x m.2 in
      subst (λ (p : (A × B) × List ℕ). (f p.0.0 ⊕ g p.0.1) ⊕ Some p.1 ≡ Some b) (same_Some _ _ n.2)
      (both_begin (f m.0.0) (g n.0.0) b m.0.1 n.0.1 (c.sound b m.0 m.1) (d.sound m.0.1 n.0 n.1));
  whole = λ b x e.
      let p = parted (f x.0.0) (g x.0.1) b x.1 e in
      rw (c.whole b (x.0.0, p.mid) p.front, d.whole p.mid (x.0.1, x.1) p.back) refl;
}

-- the same value, seen otherwise
pub tells_seen : {A B : Type 0} {f : A → Piece} {F : B → Piece} {r : List ℕ → Found A} (of : A → B) (back : B → A) → ((y : B) → of (back y) ≡ y)
    → ((x : A) → F (of x) ≡ f x) → Tells f r → Tells F (λ b. seen of (r b))
tells_seen {A} {B} {f} {F} {r} of back same is c = record {
  sound = λ b y e.
      let x = seen_is of (r b) y e in
      subst (λ (p : B × List ℕ). F p.0 ⊕ Some p.1 ≡ Some b) x.2 (ap (λ p. p ⊕ Some x.0.1) (is x.0.0) ∙ c.sound b x.0 x.1);
  whole = λ b y e.
      let h : f (back y.0) ⊕ Some y.1 ≡ Some b = ap (λ p. p ⊕ Some y.1) (sym (is (back y.0)) ∙ ap F (same y.0)) ∙ e in
      rw (c.whole b (back y.0, y.1) h, same y.0) refl;
}

module _ {A : Type 0} {f : A → Piece} {r : List ℕ → Found A} (c : Tells f r) where
  pub times_sound : (n : ℕ) (b : List ℕ) (x : List A × List ℕ) → times_at r n b ≡ Some x → (each f x.0 ⊕ Some x.1 ≡ Some b) × (length x.0 ≡ n)
  unfolding times_at
  times_sound zero b x e = subst (λ (p : List A × List ℕ). (each f p.0 ⊕ Some p.1 ≡ Some b) × (length p.0 ≡ 0)) (same_Some ([], b) x e)
      (left_nil (Some b), refl)
  times_sound (suc n) b x e =
      let m = bind_some (r b) (λ x. times_at r n x.1 >>= λ xs. Some (x.0 ∷ xs.0, xs.1)) x e in
      let k = bind_some (times_at r n m.0.1) (λ xs. Some (m.0.0 ∷ xs.0, xs.1)) x m.2 in
      let i = times_sound n m.0.1 k.0 k.1 in
      subst (λ (p : List A × List ℕ). (each f p.0 ⊕ Some p.1 ≡ Some b) × (length p.0 ≡ suc n)) (same_Some (m.0.0 ∷ k.0.0, k.0.1) x k.2)
      (both_begin (f m.0.0) (each f k.0.0) b m.0.1 k.0.1 (c.sound b m.0 m.1) i.0, ap suc i.1)

  pub times_whole : (xs : List A) (b rest : List ℕ) → each f xs ⊕ Some rest ≡ Some b → times_at r (length xs) b ≡ Some (xs, rest)
  unfolding times_at
  times_whole [] b rest e = ap (λ t. Some ([], t)) (same_Some _ _ (sym e ∙ left_nil (Some rest)))
  times_whole (x ∷ xs) b rest e =
      let p = parted (f x) (each f xs) b rest e in
      rw (c.whole b (x, p.mid) p.front, times_whole xs p.mid rest p.back) refl

  pub tells_many : Tells (many f) (many_at r)
  unfolding many_at
  tells_many = record {
    sound = λ b x e.
        let n = bind_some (u_at b) (λ n. times_at r n.0 n.1) x e in
        let t = times_sound n.0.0 n.0.1 x n.2 in
        both_begin (u (length x.0)) (each f x.0) b n.0.1 x.1 (ap (λ m. u m ⊕ Some n.0.1) t.1 ∙ tells_u.sound b n.0 n.1) t.0;
    whole = λ b x e.
        let p = parted (u (length x.0)) (each f x.0) b x.1 e in
        rw (tells_u.whole b (length x.0, p.mid) p.front) (times_whole x.0 p.mid x.1 p.back);
  }

-- ---- rows: a byte that says which, and what follows it

pub row_sound : {A B : Type 0} {f : A → Piece} {r : List ℕ → Found A} (F : B → Piece) (of : A → B) (n : ℕ) → Tells f r → ((x : A) → F (of x) ≡ byte n ⊕ f x)
    → (b : List ℕ) (t : ℕ × List ℕ) (y : B × List ℕ) → byte_at b ≡ Some t → t.0 ≡ n → seen of (r t.1) ≡ Some y → Begins F b y
row_sound {A} {B} {f} {r} F of n c is b t y e i g =
    let x = seen_is of (r t.1) y g in
    subst (λ (p : B × List ℕ). F p.0 ⊕ Some p.1 ≡ Some b) x.2
    (ap (λ p. p ⊕ Some x.0.1) (is x.0.0) ∙ both_begin (byte n) (f x.0.0) b t.1 x.0.1 (ap (λ m. byte m ⊕ Some t.1) (sym i) ∙ byte_begins b t e)
    (c.sound t.1 x.0 x.1))

-- what follows the byte, and that it is read
pub record Row {A B : Type 0} (of : A → B) (r : List ℕ → Found A) (n : ℕ) (b : List ℕ) (x : A) (rest : List ℕ) : Type 0 where
  pub after : List ℕ
  pub front : byte_at b ≡ Some (n, after)
  pub is : seen of (r after) ≡ Some (of x, rest)

pub row_whole : {A B : Type 0} {f : A → Piece} {r : List ℕ → Found A} (of : A → B) (n : ℕ) → n < 256 → Tells f r → (b : List ℕ) (x : A) (rest : List ℕ)
    → (byte n ⊕ f x) ⊕ Some rest ≡ Some b → Row of r n b x rest
row_whole {A} {B} {f} {r} of n l c b x rest e =
    let p = parted (byte n) (f x) b rest e in
    record { after = p.mid; front = byte_read b (n, p.mid) l p.front; is = rw (c.whole p.mid (x, rest) p.back) refl }

-- a sort that is read by its first byte
pub record Told {B : Type 0} (after : ℕ → List ℕ → Found B) (b : List ℕ) (y : B × List ℕ) : Type 0 where
  pub first : ℕ × List ℕ
  pub front : byte_at b ≡ Some first
  pub is : after first.0 first.1 ≡ Some y

pub tells_after : {B : Type 0} {F : B → Piece} (after : ℕ → List ℕ → Found B)
    → ((b : List ℕ) (t : ℕ × List ℕ) (y : B × List ℕ) → byte_at b ≡ Some t → after t.0 t.1 ≡ Some y → Begins F b y)
    → ((b : List ℕ) (x : B) (rest : List ℕ) → Begins F b (x, rest) → Told after b (x, rest)) → Tells F (λ b. byte_at b >>= λ t. after t.0 t.1)
tells_after after begins read = record {
  sound = λ b y e. let t = bind_some (byte_at b) (λ t. after t.0 t.1) y e in begins b t.0 y t.1 t.2;
  whole = λ b y e. let t = read b y.0 y.1 e in rw t.front t.is;
}

pub row_told : {A B : Type 0} {f : A → Piece} {r : List ℕ → Found A} (after : ℕ → List ℕ → Found B) (of : A → B) (n : ℕ) → n < 256 → Tells f r
    → ((bs : List ℕ) → after n bs ≡ seen of (r bs)) → {b : List ℕ} {x : A} {rest : List ℕ} → (byte n ⊕ f x) ⊕ Some rest ≡ Some b → Told after b (of x, rest)
row_told after of n l c is {b} {x} {rest} e = let w = row_whole of n l c b x rest e in record { first = (n, w.after); front = w.front; is = is w.after ∙ w.is }

-- a byte that is alone
pub lone_sound : {B : Type 0} (F : B → Piece) (v : B) (n : ℕ) → F v ≡ byte n → (b : List ℕ) (t : ℕ × List ℕ) (y : B × List ℕ) → byte_at b ≡ Some t → t.0 ≡ n
    → Some (v, t.1) ≡ Some y → Begins F b y
lone_sound {B} F v n is b t y e i g = subst (λ (p : B × List ℕ). F p.0 ⊕ Some p.1 ≡ Some b) (same_Some (v, t.1) y g)
    (ap (λ p. p ⊕ Some t.1) (is ∙ ap byte (sym i)) ∙ byte_begins b t e)

pub lone_told : {B : Type 0} (after : ℕ → List ℕ → Found B) (v : B) (n : ℕ) → n < 256 → {b rest : List ℕ} → after n rest ≡ Some (v, rest)
    → byte n ⊕ Some rest ≡ Some b → Told after b (v, rest)
lone_told after v n l {b} {rest} is e = record { first = (n, rest); front = byte_read b (n, rest) l e; is = is }

pub tells_behind : {A : Type 0} {f : A → Piece} {r : List ℕ → Found A} (n : ℕ) → n < 256 → Tells f r → Tells (λ x. byte n ⊕ f x) (behind n r)
tells_behind {A} {f} {r} n l c = record {
  sound = λ b x e.
      let m = bind_some (skip_at n b) r x e in
      both_begin (byte n) (f x.0) b m.0 x.1 (skip_begins n b m.0 m.1) (c.sound m.0 x m.2);
  whole = λ b x e.
      let p = parted (byte n) (f x.0) b x.1 e in
      rw (skip_read n b p.mid l p.front) (c.whole p.mid x p.back);
}

-- the same sort, spelled otherwise
pub tells_as : {A : Type 0} {f g : A → Piece} {r : List ℕ → Found A} → ((x : A) → g x ≡ f x) → Tells f r → Tells g r
tells_as is c = grind (arith, is)

-- a bound of limits
pub tells_limit : Tells number limit_at
unfolding limit_at unsigned
tells_limit = record {
  sound = λ b x e.
      let r = number_begins 128 (omega arith) (omega arith) 18446744073709551615 b x e in
      ap (λ p. p ⊕ Some x.1) (number_fits x.0 (omega (arith, r.1))) ∙ joined _ _ ∙ ap Some (sym r.0);
  whole = λ b x e.
      elim (number_cases x.0) [
        | inl h ↦ let f = same_Some _ _ (sym (joined (unsigned x.0) x.1) ∙ ap (λ p. p ⊕ Some x.1) (sym h.0) ∙ e) in
            ap limit_at (sym f) ∙ number_read 128 (omega arith) (omega arith) 18446744073709551615 x.0 x.1 (omega (arith, h.1))
        | inr h ↦ let z : None ≡ Some b = sym (left_none (Some x.1)) ∙ ap (λ p. p ⊕ Some x.1) (sym h.0) ∙ e in absurd cc
      ];
}

pub seen_twice : {A B C : Type 0} (g : B → C) (f : A → B) (r : Found A) → seen g (seen f r) ≡ seen (λ x. g (f x)) r
seen_twice g f None = refl
seen_twice g f (Some x) = refl

-- Such a sort is read in one way: the law of `IsClear` follows.
pub clear_told : {A : Type 0} {f : A → Piece} {r : List ℕ → Found A} → Tells f r → IsClear f
clear_told {A} {f} {r} c = record { law = agree } where
  agree : (x y : A) (p q : Piece) (b : List ℕ) → f x ⊕ p ≡ Some b → f y ⊕ q ≡ Some b → Agree x y p q
  agree x y p q b e h =
      let s = parts_are (f x) p b e in
      let t = parts_are (f y) q b h in
      let m = c.whole b (x, s.right) (ap (λ z. f x ⊕ z) (sym s.q_is) ∙ e) in
      let n = c.whole b (y, t.right) (ap (λ z. f y ⊕ z) (sym t.q_is) ∙ h) in
      let g = same_Some (x, s.right) (y, t.right) (sym m ∙ n) in
      record { same = ap (λ z. z.0) g; rests = record { rest = s.right; first = s.q_is; second = t.q_is ∙ ap Some (sym (ap (λ z. z.1) g)) } }
