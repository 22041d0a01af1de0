-- How types of values and of functions are told apart.
use Rattle.std.proofs.Common.{◌≡◌, ℕ, ◌+◌, ◌*◌, ◌<◌, ◌≤◌, Bool, true, false, eqb, not, nat_lt, List, [], ◌∷◌, ◌++◌, get_or, Option, Some}
use Rattle.std.proofs.Common.{None, refl, ap, sym, append_assoc, arith, subst, lit<}
use Rattle.std.proofs.lemmas.Bool.{and_parts, eqb-true, ltb-true}
use Rattle.std.specs.List.{AllByRecursion, flat_map, list_all}
use Rattle.std.specs.Prelude.{codes, ◌&&◌}
use Rattle.smith_format.specs.Piece.{Piece, ◌⊕◌, byte, many, text}
use Rattle.smith_syntax.specs.Entries.{DefValType, Field, Signature, enum_type, flags_type, list_type, option_type, primitive_type, record_type}
use Rattle.smith_syntax.specs.Entries.{result_type, tuple_type, variant_type}
use Rattle.smith_syntax.specs.Grammar.{case, defvaltype, functype, labelvaltype, maybe_valtype, resultlist, valtype}
use Rattle.smith_syntax.specs.declared.types.ComponentValType.{ComponentValType}
use Rattle.smith_syntax.specs.declared.types.ComponentValType.TheVariants.{Indexed, Primitive}
use Rattle.smith_syntax.specs.declared.types.PrimitiveValType.{PrimitiveValType}
use Rattle.smith_syntax.specs.declared.types.PrimitiveValType.TheVariants as prim
use Rattle.smith_print.specs.Values.{case_text, defined_text, field_text, function_text, group, label_text, maybe_text, primitive_text, value_text}
use Rattle.smith_print.specs.Words.{quoted}
use Rattle.smith_print.proofs.Apart.{AreBytes, primitives_apart, strings_apart}
use Rattle.smith_print.proofs.Encoded
use Rattle.smith_print.proofs.Encoded.{IsEncoded, back, many_encoded, signed_number, text_bytes}
use Rattle.smith_print.proofs.Told.{Anything, IsWord, Stops, Told, after, before, both, ended, by_words, close, made, number_head, numbers}
use Rattle.smith_print.proofs.Told.{option, same, several, spaced, weaker}

pub strings : Told AreBytes Anything quoted
strings = record { law = λ a b x y p q n m e. strings_apart a b x y p q e }

-- ---- value types

-- letters and digits, the first of which is a letter
abbrev is_name : List ℕ → Bool
is_name w = nat_lt 96 (get_or w 0 0) && list_all (λ c. nat_lt 47 c) w

primitive_name : (p : PrimitiveValType) → is_name (primitive_text p) ≡ true
primitive_name prim.Bool = refl
primitive_name prim.S8 = refl
primitive_name prim.U8 = refl
primitive_name prim.S16 = refl
primitive_name prim.U16 = refl
primitive_name prim.S32 = refl
primitive_name prim.U32 = refl
primitive_name prim.S64 = refl
primitive_name prim.U64 = refl
primitive_name prim.F32 = refl
primitive_name prim.F64 = refl
primitive_name prim.Char = refl
primitive_name prim.String = refl

tested_word : (w : List ℕ) → list_all (λ c. nat_lt 47 c) w ≡ true → IsWord w
tested_word [] e = tt
tested_word (c ∷ w) e = let z = and_parts (nat_lt 47 c) (list_all (λ d. nat_lt 47 d) w) e in (ltb-true 47 c z.0, tested_word w z.1)

first_letter : (w x : List ℕ) → is_name w ≡ true → 96 < get_or (w ++ x) 0 0
first_letter [] x e = absurd (let z : false ≡ true = e in cc)
first_letter (c ∷ w) x e = ltb-true 96 c (and_parts (nat_lt 96 c) (list_all (λ d. nat_lt 47 d) (c ∷ w)) e).0

pub primitive_head : (p : PrimitiveValType) (x : List ℕ) → 96 < get_or (primitive_text p ++ x) 0 0
primitive_head p x = first_letter (primitive_text p) x (primitive_name p)

primitive_word : (p : PrimitiveValType) → IsWord (primitive_text p)
primitive_word p =
    let w = primitive_text p in tested_word w (and_parts (nat_lt 96 (get_or w 0 0)) (list_all (λ c. nat_lt 47 c) w) (primitive_name p)).1

primitives : Told (λ p. Unit {0}) Stops primitive_text
primitives = by_words primitive_text (λ p _. primitive_word p) (λ p q _ _ e. primitives_apart p q e)

value_head : (v : ComponentValType) (x : List ℕ) → IsEncoded (valtype v) → 48 ≤ get_or (value_text v ++ x) 0 0
value_head (Primitive p) x t = omega (arith, primitive_head p x)
value_head (Indexed i) x t = (number_head i x (signed_number i t)).0

value_apart : (v w : ComponentValType) (x y : List ℕ) → IsEncoded (valtype v) → IsEncoded (valtype w) → Stops x → Stops y
    → value_text v ++ x ≡ value_text w ++ y
    → (v ≡ w) × (x ≡ y)
value_apart (Primitive p) (Primitive q) x y t u n m e = same Primitive (primitives.law p q x y tt tt n m e)
value_apart (Primitive p) (Indexed j) x y t u n m e =
    absurd (omega (arith, ap (λ l. get_or l 0 0) e, primitive_head p x, (number_head j y (signed_number j u)).1))
value_apart (Indexed i) (Primitive q) x y t u n m e =
    absurd (omega (arith, ap (λ l. get_or l 0 0) e, primitive_head q y, (number_head i x (signed_number i t)).1))
value_apart (Indexed i) (Indexed j) x y t u n m e = same Indexed (numbers.law i j x y (signed_number i t) (signed_number j u) n m e)

pub values : Told (λ v. IsEncoded (valtype v)) Stops value_text
values = record { law = value_apart }

-- ---- members

pub fields : (front : List ℕ) → Told (λ f. IsEncoded (labelvaltype f)) Anything (field_text front)
fields front =
    weaker (after (both strings (after (ended values close (λ x. lit< tt)) (codes " ")) (λ v x _ _. tt)) front)
    (λ f t. (text_bytes f.0 (Encoded.front (text f.0) (valtype f.1) t), back (text f.0) (valtype f.1) t)) (λ x n. n)

-- a value type that may be missing, behind a space
maybe_value : Told (λ v. IsEncoded (maybe_valtype v)) (λ x. (spaced x ≡ false) × Stops x) (λ v. maybe_text (codes " ") v [])
maybe_value =
    option (after (before values [] (λ x n. n)) (codes " ")) spaced (λ v x _. (refl, lit< tt)) (λ v. maybe_text (codes " ") v []) refl (λ v. refl)
    (λ v. IsEncoded (maybe_valtype v)) (λ v t. back (byte 1) (valtype v) t)

cases : (front : List ℕ) → Told (λ c. IsEncoded (case c)) Anything (case_text front)
cases front =
    weaker (after (both strings (ended maybe_value close (λ x. (refl, lit< tt))) (λ v x _ _. tt)) front)
    (λ c t. (
      text_bytes c.0 (Encoded.front (text c.0) (maybe_valtype c.1 ⊕ byte 0) t),
      Encoded.front (maybe_valtype c.1) (byte 0) (back (text c.0) (maybe_valtype c.1 ⊕ byte 0) t),
    )) (λ x n. n)

labels : (front : List ℕ) → Told (λ n. IsEncoded (text n)) Anything (label_text front)
labels front = weaker (after strings front) text_bytes (λ x n. n)

-- a head, members that begin with a space, and a closing parenthesis
pub groups : {A : Type 0} {Good : A → Type 0} {Next : List ℕ → Type 0} {f : A → List ℕ} → Told Good Next f
    → ((a : A) (x : List ℕ) → get_or (f a ++ x) 0 0 ≡ 32) → ((x : List ℕ) → Stops x → Next x) → (head : List ℕ)
    → Told (AllByRecursion Good) Anything (group head f)
groups {f = f} t space next head =
    after (before (several t spaced (λ a x _. (ap (λ n. eqb n 32) (space a x), next (f a ++ x) (omega (arith, space a x))))) close
    (λ x _. (refl, next (close ++ x) (lit< tt)))) head

-- ---- types of values

-- a space before something other than a parenthesis
abbrev plain : List ℕ → Bool
plain l = spaced l && not (eqb (get_or l 1 0) 40)

no_parenthesis : (n : ℕ) → 48 ≤ n → not (eqb n 40) ≡ true
no_parenthesis n h = by_test (eqb n 40) refl
  where
    by_test : (t : Bool) → eqb n 40 ≡ t → not t ≡ true
    by_test true e = absurd (omega (arith, eqb-true n 40 e, h))
    by_test false e = refl

maybe_success : Told (λ v. IsEncoded (maybe_valtype v)) (λ x. (plain x ≡ false) × Stops x) (λ v. maybe_text (codes " ") v [])
maybe_success =
    option (after (before values [] (λ x n. n)) (codes " ")) plain
    (λ v x t. (
      no_parenthesis (get_or ((value_text v ++ []) ++ x) 0 0)
          (subst (λ l. 48 ≤ get_or l 0 0) (sym (append_assoc (value_text v) [] x)) (value_head v x t)),
      lit< tt,
    ))
    (λ v. maybe_text (codes " ") v []) refl (λ v. refl) (λ v. IsEncoded (maybe_valtype v)) (λ v t. back (byte 1) (valtype v) t)

maybe_failure : Told (λ v. IsEncoded (maybe_valtype v)) (λ x. (spaced x ≡ false) × Unit {0}) (λ v. maybe_text (codes " (error ") v close)
maybe_failure =
    option (after (ended values close (λ x. lit< tt)) (codes " (error ")) spaced (λ v x _. (refl, tt)) (λ v. maybe_text (codes " (error ") v close) refl
    (λ v. refl) (λ v. IsEncoded (maybe_valtype v)) (λ v t. back (byte 1) (valtype v) t)

results : Told (λ (r : Option ComponentValType × Option ComponentValType). IsEncoded (maybe_valtype r.0) × IsEncoded (maybe_valtype r.1)) Anything
    (λ r. codes "(result" ++ (maybe_text (codes " ") r.0 [] ++ (maybe_text (codes " (error ") r.1 close ++ close)))
results = after (both maybe_success (ended maybe_failure close (λ x. (refl, tt))) next) (codes "(result")
  where
    next : (v : Option ComponentValType) (x : List ℕ) → IsEncoded (maybe_valtype v) → Unit {0}
        → (plain ((maybe_text (codes " (error ") v close ++ close) ++ x) ≡ false) × Stops ((maybe_text (codes " (error ") v close ++ close) ++ x)
    next None x _ _ = (refl, lit< tt)
    next (Some v) x _ _ = (refl, lit< tt)

single : (head : List ℕ) → Told (λ v. IsEncoded (valtype v)) Anything (λ v. head ++ (value_text v ++ close))
single head = after (ended values close (λ x. lit< tt)) head

-- a number of the first characters, which tells types that have members apart
abbrev mark : List ℕ → ℕ
mark l = get_or l 1 0 + 256 * get_or l 3 0

elements_encoded : (n : ℕ) {A : Type 0} (f : A → Piece) (xs : List A) → IsEncoded (byte n ⊕ many f xs) → AllByRecursion (λ x. IsEncoded (f x)) xs
elements_encoded n f xs t = many_encoded f xs (back (byte n) (many f xs) t)

apart_from : (p : PrimitiveValType) (x : List ℕ) (y : List ℕ) → get_or y 0 0 ≡ 40 → primitive_text p ++ x ≡ y → ⊥
apart_from p x y h e = absurd (omega (arith, ap (λ l. get_or l 0 0) e, h, primitive_head p x))

defined_law : (a b : DefValType) (x y : List ℕ) → IsEncoded (defvaltype a) → IsEncoded (defvaltype b) → Stops x → Stops y
    → defined_text a ++ x ≡ defined_text b ++ y → (a ≡ b) × (x ≡ y)
defined_law (primitive_type p) (primitive_type q) x y t u n m e = same primitive_type (primitives.law p q x y tt tt n m e)
defined_law (record_type fs) (record_type gs) x y t u n m e =
    same record_type ((groups (fields (codes " (field ")) (λ a x. refl) (λ x n. tt) (codes "(record")).law fs gs x y (elements_encoded 0x72 labelvaltype fs t)
    (elements_encoded 0x72 labelvaltype gs u) tt tt e)
defined_law (variant_type fs) (variant_type gs) x y t u n m e =
    same variant_type ((groups (cases (codes " (case ")) (λ a x. refl) (λ x n. tt) (codes "(variant")).law fs gs x y (elements_encoded 0x71 case fs t)
    (elements_encoded 0x71 case gs u) tt tt e)
defined_law (list_type v) (list_type w) x y t u n m e =
    same list_type ((single (codes "(list ")).law v w x y (back (byte 0x70) (valtype v) t) (back (byte 0x70) (valtype w) u) tt tt e)
defined_law (tuple_type fs) (tuple_type gs) x y t u n m e =
    same tuple_type ((groups (after values (codes " ")) (λ a x. refl) (λ x n. n) (codes "(tuple")).law fs gs x y (elements_encoded 0x6f valtype fs t)
    (elements_encoded 0x6f valtype gs u) tt tt e)
defined_law (flags_type fs) (flags_type gs) x y t u n m e =
    same flags_type ((groups (labels (codes " ")) (λ a x. refl) (λ x n. tt) (codes "(flags")).law fs gs x y (elements_encoded 0x6e text fs t)
    (elements_encoded 0x6e text gs u) tt tt e)
defined_law (enum_type fs) (enum_type gs) x y t u n m e =
    same enum_type ((groups (labels (codes " ")) (λ a x. refl) (λ x n. tt) (codes "(enum")).law fs gs x y (elements_encoded 0x6d text fs t)
    (elements_encoded 0x6d text gs u) tt tt e)
defined_law (option_type v) (option_type w) x y t u n m e =
    same option_type ((single (codes "(option ")).law v w x y (back (byte 0x6b) (valtype v) t) (back (byte 0x6b) (valtype w) u) tt tt e)
defined_law (result_type a f) (result_type b g) x y t u n m e =
    let p = back (byte 0x6a) (maybe_valtype a ⊕ maybe_valtype f) t in
    let q = back (byte 0x6a) (maybe_valtype b ⊕ maybe_valtype g) u in
    same (λ r. result_type r.0 r.1) (results.law (a, f) (b, g) x y
    (Encoded.front (maybe_valtype a) (maybe_valtype f) p, back (maybe_valtype a) (maybe_valtype f) p)
    (Encoded.front (maybe_valtype b) (maybe_valtype g) q, back (maybe_valtype b) (maybe_valtype g) q) tt tt e)
defined_law (primitive_type p) b x y t u n m e = absurd (apart_from p x (defined_text b ++ y) refl e)
defined_law a (primitive_type q) x y t u n m e = absurd (apart_from q y (defined_text a ++ x) refl (sym e))
defined_law a b x y t u n m e = absurd (omega (arith, ap mark e))

pub definitions : Told (λ t. IsEncoded (defvaltype t)) Stops defined_text
definitions = record { law = defined_law }

-- ---- types of functions

-- the beginning of a parameter
abbrev pub is_parameter : List ℕ → Bool
is_parameter l = spaced l && eqb (get_or l 2 0) 112

abbrev result_text : Option ComponentValType → List ℕ
result_text v = maybe_text (codes " (result ") v close

maybe_result : Told (λ v. IsEncoded (resultlist v)) (λ x. (spaced x ≡ false) × Unit {0}) result_text
maybe_result =
    option (after (ended values close (λ x. lit< tt)) (codes " (result ")) spaced (λ v x _. (refl, tt)) result_text refl (λ v. refl)
    (λ v. IsEncoded (resultlist v)) (λ v t. back (byte 0) (valtype v) t)

signatures
    : Told (λ (s : List Field × Option ComponentValType). AllByRecursion (λ f. IsEncoded (labelvaltype f)) s.0 × IsEncoded (resultlist s.1)) Anything
    (λ s. codes "(func" ++ (flat_map (field_text (codes " (param ")) s.0 ++ (result_text s.1 ++ close)))
signatures =
    after (both (several (fields (codes " (param ")) is_parameter (λ f x _. (refl, tt))) (ended maybe_result close (λ x. (refl, tt))) next) (codes "(func")
  where
    next : (v : Option ComponentValType) (x : List ℕ) → IsEncoded (resultlist v) → Unit {0} → (is_parameter ((result_text v ++ close) ++ x) ≡ false) × Unit {0}
    next None x _ _ = (refl, tt)
    next (Some v) x _ _ = (refl, tt)

pub functions : Told (λ s. IsEncoded (functype s)) Anything function_text
functions =
    weaker (made signatures (λ (s : Signature). (s.params, s.result)) (λ s. record { params = s.0; result = s.1 }) (λ s. refl))
    (λ s t. let r = back (byte 0x40) (many labelvaltype s.params ⊕ resultlist s.result) t in (
      many_encoded labelvaltype s.params (Encoded.front (many labelvaltype s.params) (resultlist s.result) r),
      back (many labelvaltype s.params) (resultlist s.result) r,
    )) (λ x n. n)
