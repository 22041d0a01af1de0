-- How core function types and the declarations of module types are told apart.
use Rattle.std.proofs.Common.{◌≡◌, ℕ, ◌+◌, ◌*◌, ◌≤◌, ◌⊎◌, inl, inr, Bool, true, false, eqb, nat_lt, List, [], ◌∷◌, ◌++◌, drop}
use Rattle.std.proofs.Common.{get_or, Option, Some, None, refl, ap, sym, subst, ◌∙◌, append_assoc, arith, lit<, lit≤}
use Rattle.std.proofs.lemmas.Bool.{lt-ltb}
use Rattle.std.specs.List.{AllByRecursion, flat_map}
use Rattle.std.specs.Prelude.{codes, decimal, ◌&&◌}
use Rattle.smith_format.specs.CoreTypes.{core_function, core_val, ref_val}
use Rattle.smith_format.specs.Entities.{bit, entity, global_type, has_maximum, limits, maximum, memory_type, table_type}
use Rattle.smith_format.specs.Piece.{◌⊕◌, byte, bytes, many, number, s_index, text, u}
use Rattle.smith_format.specs.declared.types.EntityType.{EntityType}
use Rattle.smith_format.specs.declared.types.EntityType.TheVariants.{Func, Global, Memory, Table, Tag}
use Rattle.smith_format.specs.declared.types.GlobalType.{GlobalType}
use Rattle.smith_format.specs.declared.types.MemoryType.{MemoryType}
use Rattle.smith_format.specs.declared.types.RefType.{RefType}
use Rattle.smith_format.specs.declared.types.RefType.TheVariants.{Concrete, ExternRef, FuncRef}
use Rattle.smith_format.specs.declared.types.TableType.{TableType}
use Rattle.smith_format.specs.declared.types.TagType.{TagType}
use Rattle.smith_format.specs.declared.types.ValType.{ValType}
use Rattle.smith_format.specs.declared.types.ValType.TheVariants.{F32, F64, I32, I64, Ref, V128}
use Rattle.smith_syntax.specs.Entries.{ModuleDecl, aliases, declares, exports, imports}
use Rattle.smith_syntax.specs.Grammar.{moduledecl}
use Rattle.smith_print.specs.CoreTypes.{core_element_text, core_function_text, core_list_text, core_value_text, entity_text, global_text}
use Rattle.smith_print.specs.CoreTypes.{maximum_text, memory_text, module_decl_line}
use Rattle.smith_print.specs.CoreTypes.{ref_text, shared_text, wide_text}
use Rattle.smith_print.specs.Values.{group}
use Rattle.smith_print.specs.Words.{quoted}
use Rattle.smith_print.specs.declared.spaces.IndexSpaces.{IndexSpaces}
use Rattle.smith_print.proofs.Apart.{AreBytes}
use Rattle.smith_print.proofs.Encoded
use Rattle.smith_print.proofs.Encoded.{IsEncoded, back, bound_number, index_number, many_encoded, signed_number, text_bytes}
use Rattle.smith_print.proofs.Told.{Anything, IsNumber, Stops, Told, after, before, both, ended, close, made, number_head, numbered}
use Rattle.smith_print.proofs.Told.{numbers, option, same, spaced, weaker}
use Rattle.smith_print.proofs.ToldLines.{not_empty}
use Rattle.smith_print.proofs.ToldValues.{groups, is_parameter, strings}

-- ---- value types

-- A nullable reference has a word where another has a number.
null_differs : (i j : ℕ) (x y : List ℕ) → IsNumber j → codes "(ref null " ++ ((decimal i ++ close) ++ x) ≡ codes "(ref " ++ ((decimal j ++ close) ++ y) → ⊥
null_differs i j x y low e =
    absurd (omega (arith, ap (λ l. get_or l 5 0) e, (number_head j (close ++ y) low).1, ap (λ l. get_or l 0 0) (append_assoc (decimal j) close y)))

concrete_head : (k : Bool) (i : ℕ) (x : List ℕ) → get_or (ref_text (Concrete k i) ++ x) 0 0 ≡ 40
concrete_head true i x = refl
concrete_head false i x = refl

ref_law : (a b : RefType) (x y : List ℕ) → IsEncoded (ref_val a) → IsEncoded (ref_val b) → Unit {0} → Unit {0} → ref_text a ++ x ≡ ref_text b ++ y
    → (a ≡ b) × (x ≡ y)
ref_law FuncRef FuncRef x y t u _ _ e = (refl, ap (drop 7) e)
ref_law ExternRef ExternRef x y t u _ _ e = (refl, ap (drop 9) e)
ref_law (Concrete true i) (Concrete true j) x y t u _ _ e =
    same (Concrete true) ((numbered (codes "(ref null ")).law i j x y (signed_number i (back (byte 0x63) (s_index i) t))
    (signed_number j (back (byte 0x63) (s_index j) u)) tt tt e)
ref_law (Concrete false i) (Concrete false j) x y t u _ _ e =
    same (Concrete false) ((numbered (codes "(ref ")).law i j x y (signed_number i (back (byte 0x64) (s_index i) t))
    (signed_number j (back (byte 0x64) (s_index j) u)) tt tt e)
ref_law (Concrete true i) (Concrete false j) x y t u _ _ e = absurd (null_differs i j x y (signed_number j (back (byte 0x64) (s_index j) u)) e)
ref_law (Concrete false i) (Concrete true j) x y t u _ _ e = absurd (null_differs j i y x (signed_number i (back (byte 0x64) (s_index i) t)) (sym e))
ref_law (Concrete k i) b x y t u _ _ e = absurd (omega (arith, ap (λ l. get_or l 0 0) e, concrete_head k i x))
ref_law a (Concrete k j) x y t u _ _ e = absurd (omega (arith, ap (λ l. get_or l 0 0) e, concrete_head k j y))
ref_law a b x y t u _ _ e = absurd (omega (arith, ap (λ l. get_or l 0 0) e))

refs : Told (λ r. IsEncoded (ref_val r)) Anything ref_text
refs = record { law = ref_law }

-- The second character is a letter in a reference type, and a digit in others.
ref_second : (r : RefType) (x : List ℕ) → 114 ≤ get_or (ref_text r ++ x) 1 0
ref_second FuncRef x = lit≤ tt
ref_second ExternRef x = lit≤ tt
ref_second (Concrete true i) x = lit≤ tt
ref_second (Concrete false i) x = lit≤ tt

core_value_law : (a b : ValType) (x y : List ℕ) → IsEncoded (core_val a) → IsEncoded (core_val b) → Unit {0} → Unit {0}
    → core_value_text a ++ x ≡ core_value_text b ++ y → (a ≡ b) × (x ≡ y)
core_value_law I32 I32 x y t u _ _ e = (refl, ap (drop 3) e)
core_value_law I64 I64 x y t u _ _ e = (refl, ap (drop 3) e)
core_value_law F32 F32 x y t u _ _ e = (refl, ap (drop 3) e)
core_value_law F64 F64 x y t u _ _ e = (refl, ap (drop 3) e)
core_value_law V128 V128 x y t u _ _ e = (refl, ap (drop 4) e)
core_value_law (Ref r) (Ref s) x y t u _ _ e = same Ref (refs.law r s x y t u tt tt e)
core_value_law (Ref r) b x y t u _ _ e = absurd (omega (arith, ap (λ l. get_or l 1 0) e, ref_second r x))
core_value_law a (Ref s) x y t u _ _ e = absurd (omega (arith, ap (λ l. get_or l 1 0) e, ref_second s y))
core_value_law a b x y t u _ _ e = absurd (omega (arith, ap (λ l. get_or l 0 0 + 256 * get_or l 1 0) e))

core_values : Told (λ v. IsEncoded (core_val v)) Anything core_value_text
core_values = record { law = core_value_law }

value_second : (v : ValType) (x : List ℕ) → (get_or (core_value_text v ++ x) 1 0 ≤ 54) ⊎ (114 ≤ get_or (core_value_text v ++ x) 1 0)
value_second I32 x = inl (lit≤ tt)
value_second I64 x = inl (lit≤ tt)
value_second F32 x = inl (lit≤ tt)
value_second F64 x = inl (lit≤ tt)
value_second V128 x = inl (lit≤ tt)
value_second (Ref r) x = inr (ref_second r x)

-- ---- function types

module _ (head : List ℕ) (test : List ℕ → Bool) (starts : (x : List ℕ) → test (head ++ x) ≡ true) where
  abbrev AreEncoded : List ValType → Type 0
  AreEncoded vs = AllByRecursion (λ v. IsEncoded (core_val v)) vs

  abbrev all_of : List ValType → List ℕ
  all_of vs = group head (core_element_text (codes " ")) vs

  some_text : (v : ValType) (vs : List ValType) → core_list_text head (v ∷ vs) ≡ all_of (v ∷ vs)
  some_text v vs = rw (not_empty v vs) refl

  some_begin : (v : ValType) (vs : List ValType) (x : List ℕ) → test (core_list_text head (v ∷ vs) ++ x) ≡ true
  some_begin v vs x = ap (λ l. test (l ++ x)) (some_text v vs) ∙ ap test (append_assoc head (flat_map (core_element_text (codes " ")) (v ∷ vs) ++ close) x)
      ∙ starts ((flat_map (core_element_text (codes " ")) (v ∷ vs) ++ close) ++ x)

  core_list_law : (vs ws : List ValType) (x y : List ℕ) → AreEncoded vs → AreEncoded ws → test x ≡ false → test y ≡ false
      → core_list_text head vs ++ x ≡ core_list_text head ws ++ y → (vs ≡ ws) × (x ≡ y)
  core_list_law [] [] x y p q n m e = (refl, e)
  core_list_law [] (w ∷ ws) x y p q n m e = let z : true ≡ false = sym (some_begin w ws y) ∙ ap test (sym e) ∙ n in absurd cc
  core_list_law (v ∷ vs) [] x y p q n m e = let z : true ≡ false = sym (some_begin v vs x) ∙ ap test e ∙ m in absurd cc
  core_list_law (v ∷ vs) (w ∷ ws) x y p q n m e =
      (groups (after core_values (codes " ")) (λ a z. refl) (λ z _. tt) head).law (v ∷ vs) (w ∷ ws) x y p q tt tt
      (ap (λ l. l ++ x) (sym (some_text v vs)) ∙ e ∙ ap (λ l. l ++ y) (some_text w ws))

  core_lists : Told AreEncoded (λ x. test x ≡ false) (core_list_text head)
  core_lists = record { law = core_list_law }

pub core_functions : Told (λ f. IsEncoded (core_function f)) Anything core_function_text
core_functions =
    weaker (after (both (core_lists (codes " (param") is_parameter (λ x. refl)) (before (core_lists (codes " (result") spaced (λ x. refl)) close
    (λ x _. refl)) next)
    (codes "(func"))
    (λ f t. let r = back (byte 0x60) (many core_val f.0 ⊕ many core_val f.1) t in (
      many_encoded core_val f.0 (Encoded.front (many core_val f.0) (many core_val f.1) r),
      many_encoded core_val f.1 (back (many core_val f.0)
          (many core_val f.1) r),
    ))
    (λ x n. n)
  where
    next : (vs : List ValType) (x : List ℕ) → AllByRecursion (λ v. IsEncoded (core_val v)) vs → Unit {0}
        → is_parameter ((core_list_text (codes " (result") vs ++ close) ++ x) ≡ false
    next [] x _ _ = refl
    next (v ∷ vs) x _ _ = ap (λ l. is_parameter ((l ++ close) ++ x)) (some_text (codes " (result") spaced (λ z. refl) v vs)

-- ---- what is imported and exported

-- the beginning of a number
abbrev Digit : List ℕ → Type 0
Digit x = (48 ≤ get_or x 0 0) × (get_or x 0 0 ≤ 57)

wides : Told (λ w. Unit {0}) Digit wide_text
wides = record { law = wide_law }
  where
    wide_law : (a b : Bool) (x y : List ℕ) → Unit {0} → Unit {0} → Digit x → Digit y → wide_text a ++ x ≡ wide_text b ++ y → (a ≡ b) × (x ≡ y)
    wide_law true true x y _ _ n m e = (refl, ap (drop 4) e)
    wide_law false false x y _ _ n m e = (refl, e)
    wide_law true false x y _ _ n m e = absurd (omega (arith, ap (λ l. get_or l 0 0) e, m.1))
    wide_law false true x y _ _ n m e = absurd (omega (arith, ap (λ l. get_or l 0 0) e, n.1))

-- the end of a type
abbrev pub Closes : List ℕ → Type 0
Closes x = get_or x 0 0 ≡ 41

shareds : Told (λ w. Unit {0}) Closes shared_text
shareds = record { law = shared_law }
  where
    shared_law : (a b : Bool) (x y : List ℕ) → Unit {0} → Unit {0} → get_or x 0 0 ≡ 41 → get_or y 0 0 ≡ 41 → shared_text a ++ x ≡ shared_text b ++ y
        → (a ≡ b) × (x ≡ y)
    shared_law true true x y _ _ n m e = (refl, ap (drop 7) e)
    shared_law false false x y _ _ n m e = (refl, e)
    shared_law true false x y _ _ n m e = absurd (omega (arith, ap (λ l. get_or l 0 0) e, m))
    shared_law false true x y _ _ n m e = absurd (omega (arith, ap (λ l. get_or l 0 0) e, n))

-- a number behind a space
abbrev bounded : List ℕ → Bool
bounded l = spaced l && (nat_lt 47 (get_or l 1 0) && nat_lt (get_or l 1 0) 58)

maxima : Told (λ n. IsEncoded (maximum n)) (λ x. (bounded x ≡ false) × Stops x) maximum_text
maxima =
    option (after numbers (codes " ")) bounded (λ n x low. (digit n x low, lit< tt)) maximum_text refl (λ n. refl) (λ n. IsEncoded (maximum n))
    (λ n t. bound_number n t)
  where
    digit : (n : ℕ) (x : List ℕ) → IsNumber n → bounded (32 ∷ (decimal n ++ x)) ≡ true
    digit n x low =
        let d = number_head n x low in
        let k = get_or (decimal n ++ x) 0 0 in rw (lt-ltb 47 k (omega (arith, d.0)), lt-ltb k 58 (omega (arith, d.1))) refl

-- limits, and what follows them
module _ {B : Type 0} {Fine : B → Type 0} {Other : List ℕ → Type 0} {g : B → List ℕ} (t : Told Fine Other g)
    (next : (b : B) (x : List ℕ) → Fine b → Other x → (bounded (g b ++ x) ≡ false) × Stops (g b ++ x)) where
  abbrev Limited : Type 0
  Limited = Bool × (ℕ × (Option ℕ × B))

  limited : Told (λ (l : Limited). Unit {0} × (IsNumber l.1.0 × (IsEncoded (maximum l.1.1.0) × Fine l.1.1.1))) Other
      (λ l. wide_text l.0 ++ (decimal l.1.0 ++ (maximum_text l.1.1.0 ++ g l.1.1.1)))
  limited = both wides (both numbers (both maxima t next) stops) digit
    where
      stops : (p : Option ℕ × B) (x : List ℕ) → IsEncoded (maximum p.0) × Fine p.1 → Other x → Stops ((maximum_text p.0 ++ g p.1) ++ x)
      stops (None, b) x h n = (next b x h.1 n).1
      stops (Some k, b) x h n = lit< tt

      digit : (p : ℕ × (Option ℕ × B)) (x : List ℕ) → IsNumber p.0 × (IsEncoded (maximum p.1.0) × Fine p.1.1) → Other x
          → Digit ((decimal p.0 ++ (maximum_text p.1.0 ++ g p.1.1)) ++ x)
      digit p x h _ =
          let rest = maximum_text p.1.0 ++ g p.1.1 in
          subst Digit (sym (append_assoc (decimal p.0) rest x)) (number_head p.0 (rest ++ x) h.0)

-- limits have an encoding
limits_encoded : (shared wide : Bool) (least : ℕ) (most : Option ℕ) → IsEncoded (limits shared wide least most) → IsNumber least × IsEncoded (maximum most)
limits_encoded shared wide least most t =
    let r = back (byte (bit (has_maximum most) 1 + (bit shared 2 + bit wide 4))) (number least ⊕ maximum most) t in
    (bound_number least (Encoded.front (number least) (maximum most) r), back (number least) (maximum most) r)

pub memories_told : Told (λ m. IsEncoded (memory_type m)) Closes memory_text
memories_told =
    weaker (made (limited shareds next) (λ (m : MemoryType). (m.memory64, (m.minimum, (m.maximum, m.shared))))
    (λ l. record { minimum = l.1.0; maximum = l.1.1.0; shared = l.1.1.1; memory64 = l.0 }) (λ m. refl))
    (λ m t. let h = limits_encoded m.shared m.memory64 m.minimum m.maximum t in (tt, (h.0, (h.1, tt)))) (λ x n. n)
  where
    next : (s : Bool) (x : List ℕ) → Unit {0} → Closes x → (bounded (shared_text s ++ x) ≡ false) × Stops (shared_text s ++ x)
    next true x _ n = (refl, lit< tt)
    next false x _ n = (let z : eqb (get_or x 0 0) 32 ≡ false = ap (λ k. eqb k 32) n in rw z refl, omega (arith, n))

tables : Told (λ t. IsEncoded (table_type t)) Anything (λ t. entity_text (Table t))
tables =
    weaker (made (after (limited (after (ended refs close (λ x. tt)) (codes " ")) next) (codes "(table "))
    (λ (t : TableType). (t.table64, (t.minimum, (t.maximum, t.element_type))))
    (λ l. record { element_type = l.1.1.1; table64 = l.0; minimum = l.1.0; maximum = l.1.1.0 }) (λ t. refl))
    (λ t h. let l = limits_encoded false t.table64 t.minimum t.maximum (back (ref_val t.element_type) (limits false t.table64 t.minimum t.maximum) h) in
    (tt, (l.0, (l.1, Encoded.front (ref_val t.element_type) (limits false t.table64 t.minimum t.maximum) h)))) (λ x n. n)
  where
    next : (r : RefType) (x : List ℕ) → IsEncoded (ref_val r) → Unit {0}
        → (bounded ((codes " " ++ (ref_text r ++ close)) ++ x) ≡ false) × Stops ((codes " " ++ (ref_text r ++ close)) ++ x)
    next FuncRef x _ _ = (refl, lit< tt)
    next ExternRef x _ _ = (refl, lit< tt)
    next (Concrete true i) x _ _ = (refl, lit< tt)
    next (Concrete false i) x _ _ = (refl, lit< tt)

abbrev global_of : Bool → ValType → GlobalType
global_of m v = record { val_type = v; mutable = m }

global_law : (a b : GlobalType) (x y : List ℕ) → IsEncoded (global_type a) → IsEncoded (global_type b)
    → global_text a.mutable a.val_type ++ x ≡ global_text b.mutable b.val_type ++ y → (a ≡ b) × (x ≡ y)
global_law a b x y t u e = law a.mutable b.mutable a.val_type b.val_type (value_encoded a t) (value_encoded b u) e
  where
    value_encoded : (g : GlobalType) → IsEncoded (global_type g) → IsEncoded (core_val g.val_type)
    value_encoded g h = Encoded.front (core_val g.val_type) (byte (bit g.mutable 1)) h

    no_word : (v : ValType) (z : List ℕ) → get_or (core_value_text v ++ z) 1 0 ≡ 109 → ⊥
    no_word v z h = elim (value_second v z) [ inl l ↦ absurd (omega (arith, l, h)) | inr l ↦ absurd (omega (arith, l, h)) ]

    law : (m n : Bool) (v w : ValType) → IsEncoded (core_val v) → IsEncoded (core_val w) → global_text m v ++ x ≡ global_text n w ++ y
        → (global_of m v ≡ global_of n w) × (x ≡ y)
    law true true v w p q e =
        same (global_of true) ((after (ended core_values close (λ z. tt)) (codes "(mut ")).law v w x y p q tt tt e)
    law false false v w p q e = same (global_of false) (core_values.law v w x y p q tt tt e)
    law true false v w p q e = absurd (no_word w y (ap (λ l. get_or l 1 0) (sym e)))
    law false true v w p q e = absurd (no_word v x (ap (λ l. get_or l 1 0) e))

globals : Told (λ g. IsEncoded (global_type g)) Anything (λ g. global_text g.mutable g.val_type)
globals = record { law = λ a b x y p q _ _ e. global_law a b x y p q e }

tags : Told (λ (t : TagType). IsNumber t.func_type_idx) Anything (λ t. codes "(tag (type " ++ (decimal t.func_type_idx ++ codes "))"))
tags = made (after (ended numbers (codes "))") (λ x. lit< tt)) (codes "(tag (type ")) (λ (t : TagType). t.func_type_idx) (λ i. record { func_type_idx = i })
    (λ t. refl)

tag_encoded : (t : TagType) → IsEncoded (entity (Tag t)) → IsNumber t.func_type_idx
tag_encoded t h = index_number t.func_type_idx (back (byte 0x00) (u t.func_type_idx) (back (byte 0x04) (byte 0x00 ⊕ u t.func_type_idx) h))

entity_law : (a b : EntityType) (x y : List ℕ) → IsEncoded (entity a) → IsEncoded (entity b) → Unit {0} → Unit {0} → entity_text a ++ x ≡ entity_text b ++ y
    → (a ≡ b) × (x ≡ y)
entity_law (Func i) (Func j) x y p q _ _ e =
    same Func ((after (ended numbers (codes "))") (λ z. lit< tt)) (codes "(func (type ")).law i j x y (index_number i (back (byte 0x00) (u i) p))
    (index_number j (back (byte 0x00) (u j) q)) tt tt e)
entity_law (Table s) (Table t) x y p q _ _ e =
    same Table (tables.law s t x y (back (byte 0x01) (table_type s) p) (back (byte 0x01) (table_type t) q) tt tt e)
entity_law (Memory m) (Memory n) x y p q _ _ e =
    same Memory ((after (ended memories_told close (λ z. refl)) (codes "(memory ")).law m n x y (back (byte 0x02) (memory_type m) p)
    (back (byte 0x02) (memory_type n) q) tt tt e)
entity_law (Global g) (Global h) x y p q _ _ e =
    same Global ((after (ended globals close (λ z. tt)) (codes "(global ")).law g h x y (back (byte 0x03) (global_type g) p)
    (back (byte 0x03) (global_type h) q) tt tt e)
entity_law (Tag s) (Tag t) x y p q _ _ e = same Tag (tags.law s t x y (tag_encoded s p) (tag_encoded t q) tt tt e)
entity_law a b x y p q _ _ e = absurd (omega (arith, ap (λ l. get_or l 1 0 + 256 * get_or l 3 0) e))

entities : Told (λ e. IsEncoded (entity e)) Anything entity_text
entities = record { law = entity_law }

-- ---- what a module type declares

-- a name, and the type of what it names
pub named_entities : Told (λ (i : List ℕ × EntityType). AreBytes i.0 × IsEncoded (entity i.1)) Anything (λ i. quoted i.0 ++ (codes " " ++
    (entity_text i.1 ++ close)))
named_entities = both strings (after (ended entities close (λ x. tt)) (codes " ")) (λ e x _ _. tt)

-- an outer alias, before what is the same in both
pub outer_aliases : (behind : List ℕ) → Told (λ (a : ℕ × ℕ). IsNumber a.0 × IsNumber a.1) Anything
    (λ a. codes "(alias outer " ++ (decimal a.0 ++ (codes " " ++ (decimal a.1 ++ (32 ∷ behind)))))
outer_aliases behind = after (both numbers (after (ended numbers (32 ∷ behind) (λ x. lit< tt)) (codes " ")) (λ i x _ _. lit< tt)) (codes "(alias outer ")

pub counts_encoded : (b : List ℕ) (count i : ℕ) → IsEncoded (bytes b ⊕ u count ⊕ u i) → IsNumber count × IsNumber i
counts_encoded b count i t =
    let r = back (bytes b) (u count ⊕ u i) t in (index_number count (Encoded.front (u count) (u i) r), index_number i (back (u count) (u i) r))

module_decl_law : (s : IndexSpaces) (a b : ModuleDecl) (x y : List ℕ) → IsEncoded (moduledecl a) → IsEncoded (moduledecl b)
    → module_decl_line a s ++ x ≡ module_decl_line b s ++ y → (a ≡ b) × (x ≡ y)
module_decl_law s (imports m n d) (imports k l f) x y p q e =
    same (λ i. imports i.0 i.1.0 i.1.1) ((after (both strings (after named_entities (codes " ")) (λ i z _ _. tt)) (codes "(import ")).law (m, (n, d)) (
      k,
      (l, f),
    ) x y
    (import_encoded m n d p) (import_encoded k l f q) tt tt e)
  where
    import_encoded : (m n : List ℕ) (d : EntityType) → IsEncoded (moduledecl (imports m n d)) → AreBytes m × (AreBytes n × IsEncoded (entity d))
    import_encoded m n d t =
        let r = back (byte 0x00) (text m ⊕ text n ⊕ entity d) t in
        let z = back (text m) (text n ⊕ entity d) r in
        (text_bytes m (Encoded.front (text m) (text n ⊕ entity d) r), (text_bytes n (Encoded.front (text n) (entity d) z), back (text n) (entity d) z))
module_decl_law s (declares f) (declares g) x y p q e =
    same declares ((after (after (after (ended core_functions close (λ z. tt)) (codes ";) ")) (decimal s.core_types)) (codes "(type (;")).law f g x y
    (back (byte 0x01) (core_function f) p) (back (byte 0x01) (core_function g) q) tt tt e)
module_decl_law s (aliases c i) (aliases d j) x y p q e =
    same (λ a. aliases a.0 a.1) ((outer_aliases (codes "(type (;" ++ (decimal s.core_types ++ codes ";)))"))).law (c, i) (d, j) x y
    (counts_encoded (0x02 ∷ 0x10 ∷ 0x01 ∷ []) c i p) (counts_encoded (0x02 ∷ 0x10 ∷ 0x01 ∷ []) d j q) tt tt e)
module_decl_law s (exports n d) (exports m f) x y p q e =
    same (λ i. exports i.0 i.1) ((after named_entities (codes "(export ")).law (n, d) (m, f) x y (export_encoded n d p) (export_encoded m f q) tt tt e)
  where
    export_encoded : (n : List ℕ) (d : EntityType) → IsEncoded (moduledecl (exports n d)) → AreBytes n × IsEncoded (entity d)
    export_encoded n d t =
        let r = back (byte 0x03) (text n ⊕ entity d) t in (text_bytes n (Encoded.front (text n) (entity d) r), back (text n) (entity d) r)
module_decl_law s a b x y p q e = absurd (omega (arith, ap (λ l. get_or l 1 0) e))

pub module_decls : (s : IndexSpaces) → Told (λ d. IsEncoded (moduledecl d)) Anything (λ d. module_decl_line d s)
module_decls s = record { law = λ a b x y p q _ _ e. module_decl_law s a b x y p q e }
