-- The encodings of core types: how many bytes they take, and that no bytes begin with two.
use Rattle.std.proofs.Common.{◌≡◌, ℕ, ◌+◌, ◌≤◌, Bool, true, false, List, [], ◌∷◌, refl, arith, Some, ◌<◌, ◌^◌, length, sym, subst}
use Rattle.smith_format.specs.Clear.{Agree, IsClear}
use Rattle.smith_format.specs.CoreTypes.{ref_val, core_val, core_function, Function}
use Rattle.smith_format.specs.Piece.{Piece, ◌⊕◌, s_index, many}
use Rattle.smith_format.specs.declared.types.RefType.{RefType}
use Rattle.smith_format.specs.declared.types.RefType.TheVariants.{FuncRef, ExternRef, Concrete}
use Rattle.smith_format.specs.declared.types.ValType.{ValType}
use Rattle.smith_format.specs.declared.types.ValType.TheVariants.{I32, I64, F32, F64, V128, Ref}
use Rattle.smith_format.proofs.Clear.{tail, head, then_head, clash, clear_s_index, clear_after, clear_many, clear_both, agree_by}
use Rattle.std.specs.Prelude.{pos}
use Rattle.smith_format.specs.Numbers.{signed}
use Rattle.smith_format.specs.Writing.{Takes}
use Rattle.smith_format.proofs.Piece.{s_index_fits}
use Rattle.smith_format.proofs.Sizes.{takes_bytes, takes_then}

pub takes_index : {n k : ℕ} → n < 2 ^ 32 → k ≡ length (signed (pos n)) → Takes k (s_index n)
takes_index {n} {k} h e = subst (λ p. Takes k p) (sym (s_index_fits n h)) (takes_bytes k (signed (pos n)) e)

pub takes_concrete : (nullable : Bool) {n k : ℕ} → n < 2 ^ 32 → k ≡ length (signed (pos n)) → Takes (1 + k) (ref_val (Concrete nullable n))
takes_concrete true h e = takes_then (takes_bytes 1 _ refl) (takes_index h e)
takes_concrete false h e = takes_then (takes_bytes 1 _ refl) (takes_index h e)

-- the first byte of a reference type
abbrev ref_tag : RefType → ℕ
ref_tag FuncRef = 0x70
ref_tag ExternRef = 0x6f
ref_tag (Concrete true i) = 0x63
ref_tag (Concrete false i) = 0x64

ref_tagged : (x : RefType) (p : Piece) (b : List ℕ) → ref_val x ⊕ p ≡ Some b → (t : List ℕ) × (b ≡ ref_tag x ∷ t)
ref_tagged FuncRef p b e = head 0x70 [] p b e
ref_tagged ExternRef p b e = head 0x6f [] p b e
ref_tagged (Concrete true i) p b e = then_head 0x63 [] (s_index i) p b e
ref_tagged (Concrete false i) p b e = then_head 0x64 [] (s_index i) p b e

concrete_below : (nullable : Bool) (i : ℕ) → ref_tag (Concrete nullable i) ≤ 0x64
concrete_below true i = omega arith
concrete_below false i = omega arith

ref_law : (x y : RefType) (p q : Piece) (b : List ℕ) → ref_val x ⊕ p ≡ Some b → ref_val y ⊕ q ≡ Some b → Agree x y p q
ref_law FuncRef FuncRef p q b e h = record { same = refl; rests = tail (0x70 ∷ []) p q b e h }
ref_law ExternRef ExternRef p q b e h = record { same = refl; rests = tail (0x6f ∷ []) p q b e h }
ref_law (Concrete true i) (Concrete true j) p q b e h =
    agree_by (Concrete true) ((clear_after s_index clear_s_index (0x63 ∷ [])).law i j p q b e h)
ref_law (Concrete false i) (Concrete false j) p q b e h =
    agree_by (Concrete false) ((clear_after s_index clear_s_index (0x64 ∷ [])).law i j p q b e h)
ref_law (Concrete true i) (Concrete false j) p q b e h = let c = clash _ _ b (then_head 0x63 [] (s_index i) p b e) (then_head 0x64 [] (s_index j) q b h) in
    absurd (omega arith)
ref_law (Concrete false i) (Concrete true j) p q b e h = let c = clash _ _ b (then_head 0x64 [] (s_index i) p b e) (then_head 0x63 [] (s_index j) q b h) in
    absurd (omega arith)
ref_law (Concrete n i) y p q b e h = let c = clash _ _ b (ref_tagged (Concrete n i) p b e) (ref_tagged y q b h) in absurd (omega (arith, concrete_below n i))
ref_law x (Concrete n j) p q b e h = let c = clash _ _ b (ref_tagged x p b e) (ref_tagged (Concrete n j) q b h) in absurd (omega (arith, concrete_below n j))
ref_law x y p q b e h = let c = clash _ _ b (ref_tagged x p b e) (ref_tagged y q b h) in absurd (omega arith)

pub clear_ref : IsClear ref_val
clear_ref = record { law = ref_law }

-- the first byte of a value type
abbrev val_tag : ValType → ℕ
val_tag I32 = 0x7f
val_tag I64 = 0x7e
val_tag F32 = 0x7d
val_tag F64 = 0x7c
val_tag V128 = 0x7b
val_tag (Ref r) = ref_tag r

val_tagged : (x : ValType) (p : Piece) (b : List ℕ) → core_val x ⊕ p ≡ Some b → (t : List ℕ) × (b ≡ val_tag x ∷ t)
val_tagged I32 p b e = head 0x7f [] p b e
val_tagged I64 p b e = head 0x7e [] p b e
val_tagged F32 p b e = head 0x7d [] p b e
val_tagged F64 p b e = head 0x7c [] p b e
val_tagged V128 p b e = head 0x7b [] p b e
val_tagged (Ref r) p b e = ref_tagged r p b e

ref_below : (r : RefType) → ref_tag r ≤ 0x70
ref_below FuncRef = omega arith
ref_below ExternRef = omega arith
ref_below (Concrete true i) = omega arith
ref_below (Concrete false i) = omega arith

val_law : (x y : ValType) (p q : Piece) (b : List ℕ) → core_val x ⊕ p ≡ Some b → core_val y ⊕ q ≡ Some b → Agree x y p q
val_law I32 I32 p q b e h = record { same = refl; rests = tail (0x7f ∷ []) p q b e h }
val_law I64 I64 p q b e h = record { same = refl; rests = tail (0x7e ∷ []) p q b e h }
val_law F32 F32 p q b e h = record { same = refl; rests = tail (0x7d ∷ []) p q b e h }
val_law F64 F64 p q b e h = record { same = refl; rests = tail (0x7c ∷ []) p q b e h }
val_law V128 V128 p q b e h = record { same = refl; rests = tail (0x7b ∷ []) p q b e h }
val_law (Ref r) (Ref o) p q b e h = agree_by Ref (ref_law r o p q b e h)
val_law (Ref r) y p q b e h = let c = clash _ _ b (ref_tagged r p b e) (val_tagged y q b h) in absurd (omega (arith, ref_below r))
val_law x (Ref r) p q b e h = let c = clash _ _ b (val_tagged x p b e) (ref_tagged r q b h) in absurd (omega (arith, ref_below r))
val_law x y p q b e h = let c = clash _ _ b (val_tagged x p b e) (val_tagged y q b h) in absurd (omega arith)

pub clear_core_val : IsClear core_val
clear_core_val = record { law = val_law }

clear_vals : IsClear (many core_val)
clear_vals = clear_many core_val clear_core_val

clear_lists : IsClear (λ (f : Function). many core_val f.0 ⊕ many core_val f.1)
clear_lists = clear_both (many core_val) clear_vals (many core_val) clear_vals

pub clear_core_function : IsClear core_function
clear_core_function = clear_after (λ (f : Function). many core_val f.0 ⊕ many core_val f.1) clear_lists (0x60 ∷ [])
