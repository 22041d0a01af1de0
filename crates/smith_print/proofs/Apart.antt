-- Words of the text format that are told apart.
use Rattle.std.proofs.Common.{◌≡◌, ℕ, ◌+◌, ◌-◌, ◌*◌, ◌/◌, ◌%◌, ◌<◌, ◌≤◌, List, [], ◌∷◌, ◌++◌, drop, get_or, refl, ap, sym, subst, ◌∙◌, append_assoc, arith}
use Rattle.std.proofs.Common.{Bool, true, false, cond, eqb, nat_lt}
use Rattle.std.proofs.lemmas.Bool.{eqb-true, le-ltb, lt-ltb, ltb-false, ltb-true}
use Rattle.std.proofs.lemmas.Fmt.{hex_one_digit}
use Rattle.std.specs.Fmt.{digit_glyph}
use Rattle.std.specs.List.{AllByRecursion, flat_map}
use Rattle.std.specs.Prelude.{codes, if◌then◌else◌, ◌==◌}
use Rattle.smith_syntax.specs.declared.types.PrimitiveValType.{PrimitiveValType}
use Rattle.smith_syntax.specs.declared.types.PrimitiveValType.TheVariants as prim
use Rattle.smith_print.specs.Values.{primitive_text}
use Rattle.smith_print.specs.Words.{character, quoted, stands}

-- ---- the words of primitive types, by their first two characters

abbrev primitive_of : ℕ → ℕ → PrimitiveValType
primitive_of f s =
    if f == 98 then prim.Bool
    else if f == 99 then prim.Char
    else if f == 102 then (if s == 51 then prim.F32 else prim.F64)
    else if f == 115 then (if s == 56 then prim.S8 else if s == 49 then prim.S16 else if s == 51 then prim.S32 else if s == 54 then prim.S64 else prim.String)
    else (if s == 56 then prim.U8 else if s == 49 then prim.U16 else if s == 51 then prim.U32 else prim.U64)

read_primitive : (p : PrimitiveValType) → primitive_of (get_or (primitive_text p) 0 0) (get_or (primitive_text p) 1 0) ≡ p
read_primitive prim.Bool = refl
read_primitive prim.S8 = refl
read_primitive prim.U8 = refl
read_primitive prim.S16 = refl
read_primitive prim.U16 = refl
read_primitive prim.S32 = refl
read_primitive prim.U32 = refl
read_primitive prim.S64 = refl
read_primitive prim.U64 = refl
read_primitive prim.F32 = refl
read_primitive prim.F64 = refl
read_primitive prim.Char = refl
read_primitive prim.String = refl

pub primitives_apart : (p q : PrimitiveValType) → primitive_text p ≡ primitive_text q → p ≡ q
primitives_apart p q e = sym (read_primitive p) ∙ ap (λ w. primitive_of (get_or w 0 0) (get_or w 1 0)) e ∙ read_primitive q

-- ---- strings

abbrev glyph_value : ℕ → ℕ
glyph_value g = cond (nat_lt g 58) (g - 48) (g - 87)

value_is : (d : ℕ) → d < 16 → glyph_value (digit_glyph false d) ≡ d
value_is d low = by_test (nat_lt d 10) refl
  where
    by_test : (t : Bool) → nat_lt d 10 ≡ t → glyph_value (digit_glyph false d) ≡ d
    by_test true e =
        let l : d < 10 = omega (arith, ltb-true d 10 e) in
        let is : nat_lt (48 + d) 58 ≡ true = lt-ltb (48 + d) 58 (omega (arith, l)) in
        rw (e, is) (omega arith)
    by_test false e =
        let l : 10 ≤ d = omega (arith, ltb-false d 10 e) in
        let is : nat_lt (87 + d) 58 ≡ false = le-ltb (87 + d) 58 (omega (arith, l)) in
        rw (e, is) (omega arith)

-- the first byte that a string in the text has, and what follows that
abbrev first_of : List ℕ → ℕ × List ℕ
first_of bs =
    cond (eqb (get_or bs 0 0) 92) (16 * glyph_value (get_or bs 1 0) + glyph_value (get_or bs 2 0), drop 3 bs) (get_or bs 0 0, drop 1 bs)

first_is : (c : ℕ) (t : List ℕ) → c < 256 → first_of (character c ++ t) ≡ (c, t)
first_is c t low = by_test (stands c) refl
  where
    plain : stands c ≡ true → (o : Bool) → eqb c 92 ≡ o → first_of (c ∷ t) ≡ (c, t)
    plain e true f = let z : stands 92 ≡ true = subst (λ n. stands n ≡ true) (eqb-true c 92 f) e in absurd cc
    plain e false f = rw f refl

    by_test : (o : Bool) → stands c ≡ o → first_of (character c ++ t) ≡ (c, t)
    by_test true e = rw e (plain e (eqb c 92) refl)
    by_test false e =
        let high = c / 16 in
        let lower = c % 16 in
        let sum : 16 * high + lower ≡ c = omega arith in
        rw (e, hex_one_digit false high (omega arith), hex_one_digit false lower (omega arith), value_is high (omega arith), value_is lower (omega arith), sum)
        refl

no_mark : (c : ℕ) (t : List ℕ) → get_or (character c ++ t) 0 0 ≡ 34 → ⊥
no_mark c t e = by_test (stands c) refl
  where
    by_test : (o : Bool) → stands c ≡ o → ⊥
    by_test true f =
        let same : c ≡ 34 = rw f at e in
        let z : stands 34 ≡ true = subst (λ n. stands n ≡ true) same f in absurd cc
    by_test false f = let z : 92 ≡ 34 = rw f at e in absurd (omega (arith, z))

abbrev pub AreBytes : List ℕ → Type 0
AreBytes bs = AllByRecursion (λ b. b < 256) bs

inner_apart : (a b x y : List ℕ) → AreBytes a → AreBytes b → flat_map character a ++ (34 ∷ x) ≡ flat_map character b ++ (34 ∷ y) → (a ≡ b) × (x ≡ y)
inner_apart [] [] x y p q e = (refl, ap (drop 1) e)
inner_apart [] (d ∷ b) x y p q e =
    absurd (no_mark d (flat_map character b ++ (34 ∷ y))
    (ap (λ l. get_or l 0 0) (sym (append_assoc (character d) (flat_map character b) (34 ∷ y)) ∙ sym e)))
inner_apart (c ∷ a) [] x y p q e =
    absurd (no_mark c (flat_map character a ++ (34 ∷ x)) (ap (λ l. get_or l 0 0) (sym (append_assoc (character c) (flat_map character a) (34 ∷ x)) ∙ e)))
inner_apart (c ∷ a) (d ∷ b) x y p q e =
    let s = flat_map character a ++ (34 ∷ x) in
    let t = flat_map character b ++ (34 ∷ y) in
    let same : (c, s) ≡ (d, t) =
    sym (first_is c s p.0)
    ∙ ap first_of (sym (append_assoc (character c) (flat_map character a) (34 ∷ x)) ∙ e ∙ append_assoc (character d) (flat_map character b) (34 ∷ y))
    ∙ first_is d t q.0 in
    let rest = inner_apart a b x y p.1 q.1 (ap (λ z. z.1) same) in
    (ap (λ n. n ∷ a) (ap (λ z. z.0) same) ∙ ap (λ l. d ∷ l) rest.0, rest.1)

pub strings_apart : (a b x y : List ℕ) → AreBytes a → AreBytes b → quoted a ++ x ≡ quoted b ++ y → (a ≡ b) × (x ≡ y)
strings_apart a b x y p q e =
    inner_apart a b x y p q (ap (drop 1)
    (ap (λ l. 34 ∷ l) (sym (append_assoc (flat_map character a) (codes "\"") x)) ∙ e ∙ ap (λ l. 34 ∷ l) (append_assoc (flat_map character b) (codes "\"") y)))
