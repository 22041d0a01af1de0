-- No bytes begin with two types of values or of functions, and none with two core types.
use Rattle.std.proofs.Common.{◌≡◌, ℕ, ◌<◌, ◌≤◌, List, [], ◌∷◌, refl, ap, arith, Some, None, Option, lit≤, lit<}
use Rattle.smith_format.specs.Clear.{Agree, IsClear}
use Rattle.smith_format.specs.CoreTypes.{core_val, core_function}
use Rattle.smith_format.specs.Entities.{entity}
use Rattle.smith_format.specs.Piece.{Piece, ◌⊕◌, byte, s_index, text, many, u}
use Rattle.smith_format.specs.declared.types.EntityType.{EntityType}
use Rattle.smith_format.proofs.Clear.{tail, head, then_head, then_tail, then_agree, clash, clear_byte, clear_s_index, s_index_head, clear_text, clear_u}
use Rattle.smith_format.proofs.Clear.{clear_many, clear_both}
use Rattle.smith_format.proofs.CoreTypes.{clear_core_function}
use Rattle.smith_format.proofs.Entities.{clear_entity}
use Rattle.smith_syntax.specs.Entries.{DefValType, primitive_type, record_type, variant_type, list_type, tuple_type, flags_type, enum_type, option_type}
use Rattle.smith_syntax.specs.Entries.{result_type}
use Rattle.smith_syntax.specs.Entries.{Field, Signature, CoreEntry, core_func, core_module, ModuleDecl, imports, declares, aliases, exports}
use Rattle.smith_syntax.specs.Grammar.{primvaltype, valtype, maybe_valtype, labelvaltype, case, resultlist, defvaltype, functype, moduledecl, core_entry}
use Rattle.smith_syntax.specs.declared.types.ComponentValType.{ComponentValType}
use Rattle.smith_syntax.specs.declared.types.ComponentValType.TheVariants.{Primitive, Indexed}
use Rattle.smith_syntax.specs.declared.types.PrimitiveValType.{PrimitiveValType}
use Rattle.smith_syntax.specs.declared.types.PrimitiveValType.TheVariants as prim

-- types

primitive_same : (a b : PrimitiveValType) → primvaltype a ≡ primvaltype b → a ≡ b
primitive_same prim.Bool prim.Bool e = refl
primitive_same prim.S8 prim.S8 e = refl
primitive_same prim.U8 prim.U8 e = refl
primitive_same prim.S16 prim.S16 e = refl
primitive_same prim.U16 prim.U16 e = refl
primitive_same prim.S32 prim.S32 e = refl
primitive_same prim.U32 prim.U32 e = refl
primitive_same prim.S64 prim.S64 e = refl
primitive_same prim.U64 prim.U64 e = refl
primitive_same prim.F32 prim.F32 e = refl
primitive_same prim.F64 prim.F64 e = refl
primitive_same prim.Char prim.Char e = refl
primitive_same prim.String prim.String e = refl
primitive_same a b e = absurd (omega arith)

pub primitive_range : (a : PrimitiveValType) → (0x73 ≤ primvaltype a) × (primvaltype a < 0x80)
primitive_range prim.Bool = (lit≤ tt, lit< tt)
primitive_range prim.S8 = (lit≤ tt, lit< tt)
primitive_range prim.U8 = (lit≤ tt, lit< tt)
primitive_range prim.S16 = (lit≤ tt, lit< tt)
primitive_range prim.U16 = (lit≤ tt, lit< tt)
primitive_range prim.S32 = (lit≤ tt, lit< tt)
primitive_range prim.U32 = (lit≤ tt, lit< tt)
primitive_range prim.S64 = (lit≤ tt, lit< tt)
primitive_range prim.U64 = (lit≤ tt, lit< tt)
primitive_range prim.F32 = (lit≤ tt, lit< tt)
primitive_range prim.F64 = (lit≤ tt, lit< tt)
primitive_range prim.Char = (lit≤ tt, lit< tt)
primitive_range prim.String = (lit≤ tt, lit< tt)

clear_primitive : IsClear (λ a. byte (primvaltype a))
clear_primitive = clear_byte primvaltype primitive_same

-- a primitive's byte begins no index
differs : (a : PrimitiveValType) (i : ℕ) (p q : Piece) (b : List ℕ) → byte (primvaltype a) ⊕ p ≡ Some b → s_index i ⊕ q ≡ Some b → ⊥
differs a i p q b e h = grind (arith, head, s_index_head, clash, primitive_range)

val_law : (x y : ComponentValType) (p q : Piece) (b : List ℕ) → valtype x ⊕ p ≡ Some b → valtype y ⊕ q ≡ Some b → Agree x y p q
val_law (Primitive a) (Primitive c) p q b e h = let r = clear_primitive.law a c p q b e h in record { same = ap Primitive r.same; rests = r.rests }
val_law (Primitive a) (Indexed j) p q b e h = absurd (differs a j p q b e h)
val_law (Indexed i) (Primitive c) p q b e h = absurd (differs c i q p b h e)
val_law (Indexed i) (Indexed j) p q b e h = let r = clear_s_index.law i j p q b e h in record { same = ap Indexed r.same; rests = r.rests }

pub clear_val : IsClear valtype
clear_val = record { law = val_law }

maybe_law : (x y : Option ComponentValType) (p q : Piece) (b : List ℕ) → maybe_valtype x ⊕ p ≡ Some b → maybe_valtype y ⊕ q ≡ Some b → Agree x y p q
maybe_law None None p q b e h = record { same = refl; rests = tail (0 ∷ []) p q b e h }
maybe_law None (Some y) p q b e h = let c = clash 0 1 b (head 0 [] p b e) (then_head 1 [] (valtype y) q b h) in absurd (omega arith)
maybe_law (Some x) None p q b e h = let c = clash 1 0 b (then_head 1 [] (valtype x) p b e) (head 0 [] q b h) in absurd (omega arith)
maybe_law (Some x) (Some y) p q b e h =
    let t = then_tail (1 ∷ []) (valtype x) (valtype y) p q b e h in
    let r = clear_val.law x y p q t.rest t.first t.second in record { same = ap Some r.same; rests = r.rests }

pub clear_maybe : IsClear maybe_valtype
clear_maybe = record { law = maybe_law }

clear_field : IsClear labelvaltype
clear_field = clear_both text clear_text valtype clear_val

clear_fields : IsClear (many labelvaltype)
clear_fields = clear_many labelvaltype clear_field

-- a value type that may be missing, and the byte that ends a case
case_end_law : (x y : Option ComponentValType) (p q : Piece) (b : List ℕ) → (maybe_valtype x ⊕ byte 0) ⊕ p ≡ Some b → (maybe_valtype y ⊕ byte 0) ⊕ q ≡ Some b
    → Agree x y p q
case_end_law x y p q b e h =
    let a = then_agree maybe_valtype clear_maybe x y (byte 0) (byte 0) p q b e h in
    record { same = a.same; rests = tail (0 ∷ []) p q a.rests.rest a.rests.first a.rests.second }

clear_case_end : IsClear (λ v. maybe_valtype v ⊕ byte 0)
clear_case_end = record { law = case_end_law }

clear_case : IsClear case
clear_case = clear_both text clear_text (λ v. maybe_valtype v ⊕ byte 0) clear_case_end

result_law : (x y : Option ComponentValType) (p q : Piece) (b : List ℕ) → resultlist x ⊕ p ≡ Some b → resultlist y ⊕ q ≡ Some b → Agree x y p q
result_law (Some x) (Some y) p q b e h =
    let t = then_tail (0 ∷ []) (valtype x) (valtype y) p q b e h in
    let r = clear_val.law x y p q t.rest t.first t.second in record { same = ap Some r.same; rests = r.rests }
result_law (Some x) None p q b e h = let c = clash 0 1 b (then_head 0 [] (valtype x) p b e) (head 1 (0 ∷ []) q b h) in absurd (omega arith)
result_law None (Some y) p q b e h = let c = clash 1 0 b (head 1 (0 ∷ []) p b e) (then_head 0 [] (valtype y) q b h) in absurd (omega arith)
result_law None None p q b e h = record { same = refl; rests = tail (1 ∷ 0 ∷ []) p q b e h }

clear_result : IsClear resultlist
clear_result = record { law = result_law }

clear_function : IsClear (λ (x : List Field × Option ComponentValType). many labelvaltype x.0 ⊕ resultlist x.1)
clear_function = clear_both (many labelvaltype) clear_fields resultlist clear_result

clear_outcome : IsClear (λ (x : Option ComponentValType × Option ComponentValType). maybe_valtype x.0 ⊕ maybe_valtype x.1)
clear_outcome = clear_both maybe_valtype clear_maybe maybe_valtype clear_maybe

-- the first byte of a type of values
abbrev pub tag : DefValType → ℕ
tag (primitive_type a) = primvaltype a
tag (record_type fs) = 0x72
tag (variant_type cs) = 0x71
tag (list_type v) = 0x70
tag (tuple_type vs) = 0x6f
tag (flags_type ns) = 0x6e
tag (enum_type ns) = 0x6d
tag (option_type v) = 0x6b
tag (result_type ok err) = 0x6a

pub tag_range : (x : DefValType) → 0x6a ≤ tag x
tag_range (primitive_type a) = let r = (primitive_range a).0 in omega arith
tag_range _ = lit≤ tt

pub tagged : (x : DefValType) (p : Piece) (b : List ℕ) → defvaltype x ⊕ p ≡ Some b → (t : List ℕ) × (b ≡ tag x ∷ t)
tagged (primitive_type a) p b e = head (primvaltype a) [] p b e
tagged (record_type fs) p b e = then_head 0x72 [] (many labelvaltype fs) p b e
tagged (variant_type cs) p b e = then_head 0x71 [] (many case cs) p b e
tagged (list_type v) p b e = then_head 0x70 [] (valtype v) p b e
tagged (tuple_type vs) p b e = then_head 0x6f [] (many valtype vs) p b e
tagged (flags_type ns) p b e = then_head 0x6e [] (many text ns) p b e
tagged (enum_type ns) p b e = then_head 0x6d [] (many text ns) p b e
tagged (option_type v) p b e = then_head 0x6b [] (valtype v) p b e
tagged (result_type ok err) p b e = then_head 0x6a [] (maybe_valtype ok ⊕ maybe_valtype err) p b e

same_tag : (x y : DefValType) (p q : Piece) (b : List ℕ) → defvaltype x ⊕ p ≡ Some b → defvaltype y ⊕ q ≡ Some b → tag x ≡ tag y
same_tag x y p q b e h = clash _ _ b (tagged x p b e) (tagged y q b h)

-- a list after a byte that says what it is
list_law : {A : Type 0} (first : ℕ) (f : A → Piece) → IsClear f → {T : Type 0} (of : List A → T) → (x y : List A) (p q : Piece) (b : List ℕ)
    → (byte first ⊕ many f x) ⊕ p ≡ Some b → (byte first ⊕ many f y) ⊕ q ≡ Some b → Agree (of x) (of y) p q
list_law first f clear of x y p q b e h =
    let t = then_tail (first ∷ []) (many f x) (many f y) p q b e h in
    let r = (clear_many f clear).law x y p q t.rest t.first t.second in record { same = ap of r.same; rests = r.rests }

-- a value type after such a byte
val_after_law : (first : ℕ) (of : ComponentValType → DefValType) → (x y : ComponentValType) (p q : Piece) (b : List ℕ) → (byte first ⊕ valtype x) ⊕ p ≡ Some b
    → (byte first ⊕ valtype y) ⊕ q ≡ Some b → Agree (of x) (of y) p q
val_after_law first of x y p q b e h =
    let t = then_tail (first ∷ []) (valtype x) (valtype y) p q b e h in
    let r = clear_val.law x y p q t.rest t.first t.second in record { same = ap of r.same; rests = r.rests }

defined_law : (x y : DefValType) (p q : Piece) (b : List ℕ) → defvaltype x ⊕ p ≡ Some b → defvaltype y ⊕ q ≡ Some b → Agree x y p q
defined_law (primitive_type a) (primitive_type c) p q b e h = let r = clear_primitive.law a c p q b e h in
    record { same = ap primitive_type r.same; rests = r.rests }
defined_law (record_type x) (record_type y) p q b e h = list_law 0x72 labelvaltype clear_field record_type x y p q b e h
defined_law (variant_type x) (variant_type y) p q b e h = list_law 0x71 case clear_case variant_type x y p q b e h
defined_law (list_type x) (list_type y) p q b e h = val_after_law 0x70 list_type x y p q b e h
defined_law (tuple_type x) (tuple_type y) p q b e h = list_law 0x6f valtype clear_val tuple_type x y p q b e h
defined_law (flags_type x) (flags_type y) p q b e h = list_law 0x6e text clear_text flags_type x y p q b e h
defined_law (enum_type x) (enum_type y) p q b e h = list_law 0x6d text clear_text enum_type x y p q b e h
defined_law (option_type x) (option_type y) p q b e h = val_after_law 0x6b option_type x y p q b e h
defined_law (result_type o r) (result_type m s) p q b e h =
    let t = then_tail (0x6a ∷ []) (maybe_valtype o ⊕ maybe_valtype r) (maybe_valtype m ⊕ maybe_valtype s) p q b e h in
    let z = clear_outcome.law (o, r) (m, s) p q t.rest t.first t.second in record { same = ap (λ x. result_type x.0 x.1) z.same; rests = z.rests }
defined_law (primitive_type a) y p q b e h = let c = same_tag (primitive_type a) y p q b e h in let r = primitive_range a in absurd (omega (arith, r.0))
defined_law x (primitive_type a) p q b e h = let c = same_tag x (primitive_type a) p q b e h in let r = primitive_range a in absurd (omega (arith, r.0))
defined_law x y p q b e h = let c = same_tag x y p q b e h in absurd (omega arith)

pub clear_defined : IsClear defvaltype
clear_defined = record { law = defined_law }

function_law : (x y : Signature) (p q : Piece) (b : List ℕ) → functype x ⊕ p ≡ Some b → functype y ⊕ q ≡ Some b → Agree x y p q
function_law s t p q b e h =
    let d = then_tail (0x40 ∷ []) (many labelvaltype s.params ⊕ resultlist s.result) (many labelvaltype t.params ⊕ resultlist t.result) p q b e h in
    let z = clear_function.law (s.params, s.result) (t.params, t.result) p q d.rest d.first d.second in
    record { same = ap (λ x. record { params = x.0; result = x.1 }) z.same; rests = z.rests }

pub clear_functype : IsClear functype
clear_functype = record { law = function_law }

-- core types

clear_named : IsClear (λ (x : List ℕ × EntityType). text x.0 ⊕ entity x.1)
clear_named = clear_both text clear_text entity clear_entity

clear_imported : IsClear (λ (x : List ℕ × (List ℕ × EntityType)). text x.0 ⊕ (text x.1.0 ⊕ entity x.1.1))
clear_imported = clear_both text clear_text (λ x. text x.0 ⊕ entity x.1) clear_named

pub clear_alias : IsClear (λ (x : ℕ × ℕ). u x.0 ⊕ u x.1)
clear_alias = clear_both u clear_u u clear_u

-- the first byte of a declaration
abbrev decl_tag : ModuleDecl → ℕ
decl_tag (imports m n e) = 0x00
decl_tag (declares f) = 0x01
decl_tag (aliases c i) = 0x02
decl_tag (exports n e) = 0x03

decl_tagged : (x : ModuleDecl) (p : Piece) (b : List ℕ) → moduledecl x ⊕ p ≡ Some b → (t : List ℕ) × (b ≡ decl_tag x ∷ t)
decl_tagged (imports m n e) p b h = then_head 0x00 [] (text m ⊕ text n ⊕ entity e) p b h
decl_tagged (declares f) p b h = then_head 0x01 [] (core_function f) p b h
decl_tagged (aliases c i) p b h = then_head 0x02 (0x10 ∷ 0x01 ∷ []) (u c ⊕ u i) p b h
decl_tagged (exports n e) p b h = then_head 0x03 [] (text n ⊕ entity e) p b h

same_decl_tag : (x y : ModuleDecl) (p q : Piece) (b : List ℕ) → moduledecl x ⊕ p ≡ Some b → moduledecl y ⊕ q ≡ Some b → decl_tag x ≡ decl_tag y
same_decl_tag x y p q b e h = clash _ _ b (decl_tagged x p b e) (decl_tagged y q b h)

decl_law : (x y : ModuleDecl) (p q : Piece) (b : List ℕ) → moduledecl x ⊕ p ≡ Some b → moduledecl y ⊕ q ≡ Some b → Agree x y p q
decl_law (imports m n e) (imports o r f) p q b i j =
    let t = then_tail (0x00 ∷ []) (text m ⊕ text n ⊕ entity e) (text o ⊕ text r ⊕ entity f) p q b i j in
    let z = clear_imported.law (m, (n, e)) (o, (r, f)) p q t.rest t.first t.second in
    record { same = ap (λ x. imports x.0 x.1.0 x.1.1) z.same; rests = z.rests }
decl_law (declares f) (declares g) p q b i j =
    let t = then_tail (0x01 ∷ []) (core_function f) (core_function g) p q b i j in
    let z = clear_core_function.law f g p q t.rest t.first t.second in record { same = ap declares z.same; rests = z.rests }
decl_law (aliases c k) (aliases d l) p q b i j =
    let t = then_tail (0x02 ∷ 0x10 ∷ 0x01 ∷ []) (u c ⊕ u k) (u d ⊕ u l) p q b i j in
    let z = clear_alias.law (c, k) (d, l) p q t.rest t.first t.second in record { same = ap (λ x. aliases x.0 x.1) z.same; rests = z.rests }
decl_law (exports n e) (exports m f) p q b i j =
    let t = then_tail (0x03 ∷ []) (text n ⊕ entity e) (text m ⊕ entity f) p q b i j in
    let z = clear_named.law (n, e) (m, f) p q t.rest t.first t.second in record { same = ap (λ x. exports x.0 x.1) z.same; rests = z.rests }
decl_law x y p q b i j = let c = same_decl_tag x y p q b i j in absurd (omega arith)

clear_decl : IsClear moduledecl
clear_decl = record { law = decl_law }

clear_decls : IsClear (many moduledecl)
clear_decls = clear_many moduledecl clear_decl

-- the first byte of a core type
abbrev core_tag : CoreEntry → ℕ
core_tag (core_func f) = 0x60
core_tag (core_module ds) = 0x50

core_tagged : (x : CoreEntry) (p : Piece) (b : List ℕ) → core_entry x ⊕ p ≡ Some b → (t : List ℕ) × (b ≡ core_tag x ∷ t)
core_tagged (core_func f) p b h = then_head 0x60 [] (many core_val f.0 ⊕ many core_val f.1) p b h
core_tagged (core_module ds) p b h = then_head 0x50 [] (many moduledecl ds) p b h

same_core_tag : (x y : CoreEntry) (p q : Piece) (b : List ℕ) → core_entry x ⊕ p ≡ Some b → core_entry y ⊕ q ≡ Some b → core_tag x ≡ core_tag y
same_core_tag x y p q b e h = clash _ _ b (core_tagged x p b e) (core_tagged y q b h)

core_law : (x y : CoreEntry) (p q : Piece) (b : List ℕ) → core_entry x ⊕ p ≡ Some b → core_entry y ⊕ q ≡ Some b → Agree x y p q
core_law (core_func f) (core_func g) p q b i j = let z = clear_core_function.law f g p q b i j in record { same = ap core_func z.same; rests = z.rests }
core_law (core_module ds) (core_module es) p q b i j =
    let t = then_tail (0x50 ∷ []) (many moduledecl ds) (many moduledecl es) p q b i j in
    let z = clear_decls.law ds es p q t.rest t.first t.second in record { same = ap core_module z.same; rests = z.rests }
core_law x y p q b i j = let c = same_core_tag x y p q b i j in absurd (omega arith)

pub clear_core_entry : IsClear core_entry
clear_core_entry = record { law = core_law }
