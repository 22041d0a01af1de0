-- No bytes begin with two encodings of what a core module imports or exports, or of its imports.
use Rattle.std.proofs.Common.{◌≡◌, ℕ, ◌+◌, ◌*◌, ◌≤◌, Bool, true, false, List, [], ◌∷◌, refl, arith, Some, None, Option}
use Rattle.smith_format.specs.Clear.{Rests, Agree, IsClear}
use Rattle.smith_format.specs.CoreTypes.{ref_val, core_val}
use Rattle.smith_format.specs.Entities.{bit, has_maximum, maximum, limits, table_type, memory_type, global_type, tag_type, entity, core_import}
use Rattle.smith_format.specs.Piece.{Piece, ◌⊕◌, byte, number, text, u}
use Rattle.smith_format.specs.declared.types.EntityType.{EntityType}
use Rattle.smith_format.specs.declared.types.EntityType.TheVariants.{Func, Table, Memory, Global, Tag}
use Rattle.smith_format.specs.declared.types.TagType.{TagType}
use Rattle.smith_format.proofs.Clear.{agree_by, clear_after, tail, then_head, then_agree, clash, clear_byte, clear_number, clear_u, clear_text}
use Rattle.smith_format.proofs.CoreTypes.{clear_ref, clear_core_val}

-- the flag of limits
abbrev limits_flag : Option ℕ → Bool → Bool → ℕ
limits_flag most shared wide = bit (has_maximum most) 1 + (bit shared 2 + bit wide 4)

bit_same : (a c : Bool) → bit a 1 ≡ bit c 1 → a ≡ c
bit_same true true e = refl
bit_same false false e = refl
bit_same a c e = absurd (omega arith)

bit_small : (a : Bool) → (bit a 1 ≤ 1) × (bit a 2 ≡ 2 * bit a 1) × (bit a 4 ≡ 4 * bit a 1)
bit_small true = (omega arith, omega arith, omega arith)
bit_small false = (omega arith, omega arith, omega arith)

bits_same : (a c s t w v : Bool) → bit a 1 + (bit s 2 + bit w 4) ≡ bit c 1 + (bit t 2 + bit v 4) → (a ≡ c) × (s ≡ t) × (w ≡ v)
bits_same a c s t w v e =
    let f : bit a 1 ≡ bit c 1 = omega (arith, (bit_small a).0, (bit_small c).0, (bit_small s).1, (bit_small t).1, (bit_small w).2, (bit_small v).2) in
    let g : bit s 1 ≡ bit t 1 = omega (arith, (bit_small s).0, (bit_small t).0, (bit_small s).1, (bit_small t).1, (bit_small w).2, (bit_small v).2) in
    let h : bit w 1 ≡ bit v 1 = omega (arith, (bit_small s).1, (bit_small t).1, (bit_small w).2, (bit_small v).2) in
    (bit_same a c f, bit_same s t g, bit_same w v h)

maximum_law : (x y : Option ℕ) (p q : Piece) (b : List ℕ) → has_maximum x ≡ has_maximum y → maximum x ⊕ p ≡ Some b → maximum y ⊕ q ≡ Some b → Agree x y p q
maximum_law None None p q b f e h = record { same = refl; rests = tail [] p q b e h }
maximum_law None (Some n) p q b f e h = cc
maximum_law (Some m) None p q b f e h = cc
maximum_law (Some m) (Some n) p q b f e h = agree_by Some (clear_number.law m n p q b e h)

-- the same limits, and the same bytes after them
record SameLimits (s t w v : Bool) (m n : ℕ) (x y : Option ℕ) (p q : Piece) : Type 0 where
  shared : s ≡ t
  wide : w ≡ v
  minimum : m ≡ n
  most : x ≡ y
  rests : Rests p q

clear_bytes : IsClear (λ (n : ℕ). byte n)
clear_bytes = clear_byte (λ n. n) (λ m n e. e)

limits_law : (s t w v : Bool) (m n : ℕ) (x y : Option ℕ) (p q : Piece) (b : List ℕ) → limits s w m x ⊕ p ≡ Some b → limits t v n y ⊕ q ≡ Some b
    → SameLimits s t w v m n x y p q
limits_law s t w v m n x y p q b e h =
    let a = then_agree byte clear_bytes (limits_flag x s w) (limits_flag y t v) (number m ⊕ maximum x) (number n ⊕ maximum y) p q b e h in
    let f = bits_same (has_maximum x) (has_maximum y) s t w v a.same in
    let c = then_agree number clear_number m n (maximum x) (maximum y) p q a.rests.rest a.rests.first a.rests.second in
    let r = maximum_law x y p q c.rests.rest f.0 c.rests.first c.rests.second in
    record { shared = f.1; wide = f.2; minimum = c.same; most = r.same; rests = r.rests }

pub clear_memory : IsClear memory_type
clear_memory = record {
  law = λ x y p q b e h.
      let r = limits_law x.shared y.shared x.memory64 y.memory64 x.minimum y.minimum x.maximum y.maximum p q b e h in
      record { same = λ i. record { minimum = r.minimum i; maximum = r.most i; shared = r.shared i; memory64 = r.wide i }; rests = r.rests };
}

pub clear_table : IsClear table_type
clear_table = record {
  law = λ x y p q b e h.
      let a = then_agree ref_val clear_ref x.element_type y.element_type (limits false x.table64 x.minimum x.maximum)
      (limits false y.table64 y.minimum y.maximum) p q b e h in
      let r = limits_law false false x.table64 y.table64 x.minimum y.minimum x.maximum y.maximum p q a.rests.rest a.rests.first a.rests.second in
      record { same = λ i. record { element_type = a.same i; table64 = r.wide i; minimum = r.minimum i; maximum = r.most i }; rests = r.rests };
}

clear_bit : IsClear (λ a. byte (bit a 1))
clear_bit = clear_byte (λ a. bit a 1) bit_same

pub clear_global : IsClear global_type
clear_global = record {
  law = λ x y p q b e h.
      let a = then_agree core_val clear_core_val x.val_type y.val_type (byte (bit x.mutable 1)) (byte (bit y.mutable 1)) p q b e h in
      let r = clear_bit.law x.mutable y.mutable p q a.rests.rest a.rests.first a.rests.second in
      record { same = λ i. record { val_type = a.same i; mutable = r.same i }; rests = r.rests };
}

abbrev tag_of : ℕ → TagType
tag_of i = record { func_type_idx = i }

pub clear_tag : IsClear tag_type
clear_tag = record { law = λ x y p q b e h. agree_by tag_of ((clear_after u clear_u (0 ∷ [])).law x.func_type_idx y.func_type_idx p q b e h) }

-- the first byte of what is imported or exported
abbrev tag : EntityType → ℕ
tag (Func i) = 0
tag (Table t) = 1
tag (Memory m) = 2
tag (Global g) = 3
tag (Tag t) = 4

tagged : (x : EntityType) (p : Piece) (b : List ℕ) → entity x ⊕ p ≡ Some b → (t : List ℕ) × (b ≡ tag x ∷ t)
tagged (Func i) p b e = then_head 0 [] (u i) p b e
tagged (Table t) p b e = then_head 1 [] (table_type t) p b e
tagged (Memory m) p b e = then_head 2 [] (memory_type m) p b e
tagged (Global g) p b e = then_head 3 [] (global_type g) p b e
tagged (Tag t) p b e = then_head 4 [] (tag_type t) p b e

entity_law : (x y : EntityType) (p q : Piece) (b : List ℕ) → entity x ⊕ p ≡ Some b → entity y ⊕ q ≡ Some b → Agree x y p q
entity_law (Func x) (Func y) p q b e h = agree_by Func ((clear_after u clear_u (0 ∷ [])).law x y p q b e h)
entity_law (Table x) (Table y) p q b e h = agree_by Table ((clear_after table_type clear_table (1 ∷ [])).law x y p q b e h)
entity_law (Memory x) (Memory y) p q b e h = agree_by Memory ((clear_after memory_type clear_memory (2 ∷ [])).law x y p q b e h)
entity_law (Global x) (Global y) p q b e h = agree_by Global ((clear_after global_type clear_global (3 ∷ [])).law x y p q b e h)
entity_law (Tag x) (Tag y) p q b e h = agree_by Tag ((clear_after tag_type clear_tag (4 ∷ [])).law x y p q b e h)
entity_law x y p q b e h = let c = clash _ _ b (tagged x p b e) (tagged y q b h) in absurd (omega arith)

pub clear_entity : IsClear entity
clear_entity = record { law = entity_law }

pub clear_core_import : IsClear core_import
clear_core_import = record {
  law = λ x y p q b e h.
      let m = then_agree text clear_text x.0 y.0 (text x.1 ⊕ entity x.2) (text y.1 ⊕ entity y.2) p q b e h in
      let n = then_agree text clear_text x.1 y.1 (entity x.2) (entity y.2) p q m.rests.rest m.rests.first m.rests.second in
      let r = entity_law x.2 y.2 p q n.rests.rest n.rests.first n.rests.second in
      record { same = λ i. (m.same i, n.same i, r.same i); rests = r.rests };
}
