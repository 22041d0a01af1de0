-- Pieces are bytes: pieces joined of others, and the pieces of the format's core types.
use Rattle.std.proofs.Common.{◌≡◌, ℕ, zero, suc, ◌+◌, ◌/◌, ◌%◌, ◌^◌, ◌<◌, ◌≤◌, Bool, true, false, cond, nat_lt, List, [], ◌∷◌, length, refl}
use Rattle.std.proofs.Common.{sym, subst, arith, Option, Some, None, ℤ, pos, negsuc}
use Rattle.std.specs.List.{AllByRecursion, list_all}
use Rattle.std.specs.Str.{is_utf8}
use Rattle.std.proofs.lemmas.Bool.{ltb-false}
use Rattle.std.proofs.lemmas.Str.{IsUtf8-from_is_utf8}
use borrow.Author.Tests.{ltb-true}
use Rattle.smith_input.proofs.Utf8Bytes.{chosen_bytes, joined_bytes, utf8_bytes}
use Rattle.smith_format.specs.CoreTypes.{ref_val, core_val, core_function, Function}
use Rattle.smith_format.specs.Entities.{bit, has_maximum, maximum, limits, table_type, memory_type, global_type, tag_type, entity, core_import, CoreImport}
use Rattle.smith_format.specs.Numbers.{digits, unsigned, signed, as_it_is, turned}
use Rattle.smith_format.specs.Piece.{Piece, ◌⊕◌, byte, u, number, s, s_index, raw, utf8, framed, text, each, many, sized}
use Rattle.smith_format.specs.declared.types.EntityType.{EntityType}
use Rattle.smith_format.specs.declared.types.EntityType.TheVariants.{Func, Table, Memory, Global, Tag}
use Rattle.smith_format.specs.declared.types.GlobalType.{GlobalType}
use Rattle.smith_format.specs.declared.types.MemoryType.{MemoryType}
use Rattle.smith_format.specs.declared.types.RefType.{RefType}
use Rattle.smith_format.specs.declared.types.RefType.TheVariants.{FuncRef, ExternRef, Concrete}
use Rattle.smith_format.specs.declared.types.TableType.{TableType}
use Rattle.smith_format.specs.declared.types.TagType.{TagType}
use Rattle.smith_format.specs.declared.types.ValType.{ValType}
use Rattle.smith_format.specs.declared.types.ValType.TheVariants.{I32, I64, F32, F64, V128, Ref}
use Rattle.smith_format.proofs.Piece.{parts_are}
use Rattle.smith_format.proofs.TooLong.{small_raw}

abbrev pub AreSmall : List ℕ → Type 0
AreSmall bs = AllByRecursion (λ n. n < 256) bs

-- if it has an encoding, that is bytes
pub record AreBytes (p : Piece) : Type 0 where
  pub law : (b : List ℕ) → p ≡ Some b → AreSmall b

-- how pieces are joined
pub are_some : (b : List ℕ) → AreSmall b → AreBytes (Some b)
are_some b h = record { law = λ c e. let z : b ≡ c = cc in subst AreSmall z h }

pub are_none : AreBytes None
are_none = record { law = λ b e. absurd (let z : None ≡ Some b = e in cc) }

pub are_byte : (n : ℕ) → n < 256 → AreBytes (byte n)
are_byte n h = are_some (n ∷ []) (h, tt)

pub are_join : {p q : Piece} → AreBytes p → AreBytes q → AreBytes (p ⊕ q)
are_join {p} {q} f g =
    record {
      law = λ b e.
          let z = parts_are p q b e in
          subst AreSmall (sym z.is) (joined_bytes z.left z.right (f.law z.left z.p_is) (g.law z.right z.q_is));
    }

pub are_choice : (x : Bool) {p q : Piece} → AreBytes p → AreBytes q → AreBytes (cond x p q)
are_choice true f g = f
are_choice false f g = g

are_tested : (x : Bool) (b : List ℕ) → (x ≡ true → AreSmall b) → AreBytes (cond x (Some b) None)
are_tested true b f = are_some b (f refl)
are_tested false b f = are_none

-- a byte, and what follows it
pub are_after : (n : ℕ) {p : Piece} → n < 256 → AreBytes p → AreBytes (byte n ⊕ p)
are_after n h f = are_join (are_byte n h) f

-- numbers
module _ (bits : ℕ → ℕ) (below : (n : ℕ) → n < 128 → bits n < 128) (last : ℕ) (high : last ≤ 128) where
  small_digits : (more n : ℕ) → n ≤ more → AreSmall (digits bits last more n)
  unfolding digits
  small_digits zero n h = (omega (arith, below n (omega arith)), tt)
  small_digits (suc more) n h =
      chosen_bytes (nat_lt n last) (bits n ∷ []) ((128 + bits (n % 128)) ∷ digits bits last more (n / 128))
      (λ e. let l = ltb-true n last e in (omega (arith, below n (omega arith)), tt))
      (λ e. let l = ltb-false n last e in
      (omega (arith, below (n % 128) (omega arith)), small_digits more (n / 128) (omega arith)))

small_unsigned : (n : ℕ) → AreSmall (unsigned n)
unfolding unsigned
small_unsigned n = small_digits as_it_is (λ m h. h) 128 (omega arith) n n (omega arith)

small_signed : (z : ℤ) → AreSmall (signed z)
unfolding signed
small_signed (pos n) = small_digits as_it_is (λ m h. h) 64 (omega arith) n n (omega arith)
small_signed (negsuc n) = small_digits turned (λ m h. omega arith) 64 (omega arith) n n (omega arith)

pub are_number : (n : ℕ) → AreBytes (number n)
unfolding number
are_number n = are_choice (nat_lt n (2 ^ 64)) (are_some (unsigned n) (small_unsigned n)) are_none

pub are_s : (z : ℤ) → AreBytes (s z)
are_s z = are_some (signed z) (small_signed z)

pub are_u : (n : ℕ) → AreBytes (u n)
unfolding u
are_u n = are_choice (nat_lt n (2 ^ 32)) (are_some (unsigned n) (small_unsigned n)) are_none

pub are_s_index : (n : ℕ) → AreBytes (s_index n)
unfolding s_index
are_s_index n = are_choice (nat_lt n (2 ^ 32)) (are_s (pos n)) are_none

-- bytes as they are, and text
pub are_raw : (bs : List ℕ) → AreBytes (raw bs)
unfolding raw
are_raw bs = are_tested (list_all (λ b. nat_lt b 256) bs) bs (small_raw bs)

are_utf8 : (bs : List ℕ) → AreBytes (utf8 bs)
unfolding utf8
are_utf8 bs = are_tested (is_utf8 bs) bs (λ e. utf8_bytes bs (IsUtf8-from_is_utf8 bs e))

pub are_text : (t : List ℕ) → AreBytes (text t)
unfolding text
are_text t = are_join (are_u (length t)) (are_utf8 t)

-- what follows its length or its count
pub are_framed : {p : Piece} → AreBytes p → AreBytes (framed p)
unfolding framed
are_framed {p = None} f = are_none
are_framed {p = Some b} f = are_join (are_u (length b)) f

pub are_sized : (id : ℕ) {p : Piece} → id < 256 → AreBytes p → AreBytes (sized id p)
are_sized id h f = are_after id h (are_framed f)

module _ {A : Type 0} (f : A → Piece) (one : (x : A) → AreBytes (f x)) where
  pub are_each : (xs : List A) → AreBytes (each f xs)
  are_each [] = are_some [] tt
  are_each (x ∷ xs) = are_join (one x) (are_each xs)

  pub are_many : (xs : List A) → AreBytes (many f xs)
  are_many xs = are_join (are_u (length xs)) (are_each xs)

-- value types and function types
pub are_ref_val : (r : RefType) → AreBytes (ref_val r)
are_ref_val FuncRef = are_byte 0x70 (omega arith)
are_ref_val ExternRef = are_byte 0x6f (omega arith)
are_ref_val (Concrete true i) = are_after 0x63 (omega arith) (are_s_index i)
are_ref_val (Concrete false i) = are_after 0x64 (omega arith) (are_s_index i)

pub are_core_val : (t : ValType) → AreBytes (core_val t)
are_core_val I32 = are_byte 0x7f (omega arith)
are_core_val I64 = are_byte 0x7e (omega arith)
are_core_val F32 = are_byte 0x7d (omega arith)
are_core_val F64 = are_byte 0x7c (omega arith)
are_core_val V128 = are_byte 0x7b (omega arith)
are_core_val (Ref r) = are_ref_val r

pub are_core_function : (f : Function) → AreBytes (core_function f)
are_core_function f =
    are_after 0x60 (omega arith) (are_join (are_many core_val are_core_val f.0) (are_many core_val are_core_val f.1))

-- the types of what is imported or exported
pub bit_below : (x : Bool) (n : ℕ) → bit x n ≤ n
bit_below true n = omega arith
bit_below false n = omega arith

are_maximum : (m : Option ℕ) → AreBytes (maximum m)
are_maximum None = are_some [] tt
are_maximum (Some n) = are_number n

are_limits : (shared wide : Bool) (minimum : ℕ) (most : Option ℕ) → AreBytes (limits shared wide minimum most)
are_limits shared wide minimum most =
    let small : bit (has_maximum most) 1 + (bit shared 2 + bit wide 4) < 256 =
    omega (arith, bit_below (has_maximum most) 1, bit_below shared 2, bit_below wide 4) in
    are_after (bit (has_maximum most) 1 + (bit shared 2 + bit wide 4)) small
    (are_join (are_number minimum) (are_maximum most))

pub are_table_type : (t : TableType) → AreBytes (table_type t)
are_table_type t = are_join (are_ref_val t.element_type) (are_limits false t.table64 t.minimum t.maximum)

pub are_memory_type : (m : MemoryType) → AreBytes (memory_type m)
are_memory_type m = are_limits m.shared m.memory64 m.minimum m.maximum

pub are_bit : (x : Bool) → AreBytes (byte (bit x 1))
are_bit x = are_byte (bit x 1) (omega (arith, bit_below x 1))

pub are_global_type : (g : GlobalType) → AreBytes (global_type g)
are_global_type g = are_join (are_core_val g.val_type) (are_bit g.mutable)

pub are_tag_type : (t : TagType) → AreBytes (tag_type t)
are_tag_type t = are_after 0x00 (omega arith) (are_u t.func_type_idx)

are_entity : (e : EntityType) → AreBytes (entity e)
are_entity (Func i) = are_after 0x00 (omega arith) (are_u i)
are_entity (Table t) = are_after 0x01 (omega arith) (are_table_type t)
are_entity (Memory m) = are_after 0x02 (omega arith) (are_memory_type m)
are_entity (Global g) = are_after 0x03 (omega arith) (are_global_type g)
are_entity (Tag t) = are_after 0x04 (omega arith) (are_tag_type t)

pub are_core_import : (i : CoreImport) → AreBytes (core_import i)
are_core_import i = are_join (are_text i.0) (are_join (are_text i.1) (are_entity i.2))
