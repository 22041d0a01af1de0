-- What is read is what is spelled: core types, imports and exports.
use Rattle.std.proofs.Common.{arith, ◌≡◌, ℕ, List, [], ◌∷◌, Some, None, refl, ap, sym, ◌∙◌, Bool, true, false, lit<}
use Rattle.smith_format.specs.CoreTypes.{Function, ref_val, core_val}
use Rattle.smith_format.specs.Entities.{limits, table_type, global_type, entity, bit}
use Rattle.smith_format.specs.Piece.{Piece, ◌⊕◌, byte, bytes, text, many, u, number}
use Rattle.smith_format.specs.declared.types.EntityType.{EntityType}
use Rattle.smith_format.specs.declared.types.EntityType.TheVariants.{Func, Table, Memory, Global, Tag}
use Rattle.smith_format.specs.declared.types.GlobalType.{GlobalType}
use Rattle.smith_format.specs.declared.types.RefType.{RefType}
use Rattle.smith_format.specs.declared.types.RefType.TheVariants.{FuncRef, ExternRef, Concrete}
use Rattle.smith_format.specs.declared.types.TableType.{TableType}
use Rattle.smith_format.specs.declared.types.ValType.{ValType}
use Rattle.smith_format.specs.declared.types.ValType.TheVariants.{I32, I64, F32, F64, V128, Ref}
use Rattle.smith_format.proofs.Piece.{assoc, joined, right_nil, two_bytes}
use Rattle.smith_syntax.specs.Entries.{ModuleDecl, imports, declares, aliases, exports, CoreEntry, core_func, core_module}
use Rattle.smith_syntax.specs.Grammar.{moduledecl, core_entry, externdesc, named_extern}
use Rattle.smith_syntax.specs.declared.deftype.ComponentTypeRef.{ComponentTypeRef}
use Rattle.smith_syntax.specs.declared.deftype.ComponentTypeRef.TheVariants as to
use Rattle.smith_read.specs.CoreTypes.{ref_after, ref_at, core_val_after, core_val_at, core_function_at, Limits, without, within, bounds_at, limits_after}
use Rattle.smith_read.specs.CoreTypes.{limits_at, memory_of, table_of, table_at, global_of, global_at, tag_of, entity_after, entity_at, module_decl_after}
use Rattle.smith_read.specs.CoreTypes.{module_decl_at, core_entry_after, core_entry_at}
use Rattle.smith_read.specs.Externs.{extern_after, extern_at, named_at}
use Rattle.smith_read.specs.Reading.{◌>>=◌, byte_at, index_at, text_at, both_at, seen, behind, limit_at, u_at}
use Rattle.smith_read.specs.Tells.{Begins, Tells}
use Rattle.smith_read.proofs.Telling.{bind_some, chain, nothing, byte_begins, byte_read, both_begin, parted, tells_u, tells_index, tells_text, tells_both}
use Rattle.smith_read.proofs.Telling.{tells_many, tells_behind, tells_limit, tells_after, tells_as, seen_twice, row_sound, Told}
use Rattle.smith_read.proofs.Telling.{row_told, lone_sound, lone_told, seen_is}
use Rattle.std.proofs.lemmas.Option.{same_Some}

-- ---- references and value types

ref_begins : (b : List ℕ) (t : ℕ × List ℕ) (x : RefType × List ℕ) → byte_at b ≡ Some t → ref_after t.0 t.1 ≡ Some x → Begins ref_val b x
unfolding ref_after
ref_begins b t x e =
    chain t.0 0x70 _ _ x (lone_sound ref_val FuncRef 0x70 refl b t x e)
    (chain t.0 0x6f _ _ x (lone_sound ref_val ExternRef 0x6f refl b t x e)
    (chain t.0 0x63 _ _ x (row_sound ref_val (Concrete true) 0x63 tells_index (λ i. refl) b t x e)
    (chain t.0 0x64 _ _ x (row_sound ref_val (Concrete false) 0x64 tells_index (λ i. refl) b t x e)
    (nothing x))))

ref_read : (b : List ℕ) (r : RefType) (rest : List ℕ) → Begins ref_val b (r, rest) → Told ref_after b (r, rest)
unfolding ref_after
ref_read b FuncRef rest e = lone_told ref_after FuncRef 0x70 (lit< tt) refl e
ref_read b ExternRef rest e = lone_told ref_after ExternRef 0x6f (lit< tt) refl e
ref_read b (Concrete true i) rest e = row_told ref_after (Concrete true) 0x63 (lit< tt) tells_index (λ bs. refl) e
ref_read b (Concrete false i) rest e = row_told ref_after (Concrete false) 0x64 (lit< tt) tells_index (λ bs. refl) e

pub tells_ref : Tells ref_val ref_at
unfolding ref_at
tells_ref = tells_after ref_after ref_begins ref_read

ref_body : (b : List ℕ) (t : ℕ × List ℕ) (x : ValType × List ℕ) → byte_at b ≡ Some t → seen Ref (ref_after t.0 t.1) ≡ Some x → Begins core_val b x
ref_body b t x e f = grind (arith, seen_is, ref_begins)

core_val_begins : (b : List ℕ) (t : ℕ × List ℕ) (x : ValType × List ℕ) → byte_at b ≡ Some t → core_val_after t.0 t.1 ≡ Some x → Begins core_val b x
unfolding core_val_after
core_val_begins b t x e =
    chain t.0 0x7f _ _ x (lone_sound core_val I32 0x7f refl b t x e)
    (chain t.0 0x7e _ _ x (lone_sound core_val I64 0x7e refl b t x e)
    (chain t.0 0x7d _ _ x (lone_sound core_val F32 0x7d refl b t x e)
    (chain t.0 0x7c _ _ x (lone_sound core_val F64 0x7c refl b t x e)
    (chain t.0 0x7b _ _ x (lone_sound core_val V128 0x7b refl b t x e)
    (ref_body b t x e)))))

core_val_read : (b : List ℕ) (v : ValType) (rest : List ℕ) → Begins core_val b (v, rest) → Told core_val_after b (v, rest)
unfolding core_val_after ref_after
core_val_read b I32 rest e = lone_told core_val_after I32 0x7f (lit< tt) refl e
core_val_read b I64 rest e = lone_told core_val_after I64 0x7e (lit< tt) refl e
core_val_read b F32 rest e = lone_told core_val_after F32 0x7d (lit< tt) refl e
core_val_read b F64 rest e = lone_told core_val_after F64 0x7c (lit< tt) refl e
core_val_read b V128 rest e = lone_told core_val_after V128 0x7b (lit< tt) refl e
core_val_read b (Ref FuncRef) rest e = lone_told core_val_after (Ref FuncRef) 0x70 (lit< tt) refl e
core_val_read b (Ref ExternRef) rest e = lone_told core_val_after (Ref ExternRef) 0x6f (lit< tt) refl e
core_val_read b (Ref (Concrete true i)) rest e = row_told core_val_after (λ i. Ref (Concrete true i)) 0x63 (lit< tt) tells_index
    (λ bs. seen_twice Ref (Concrete true) (index_at bs)) e
core_val_read b (Ref (Concrete false i)) rest e = row_told core_val_after (λ i. Ref (Concrete false i)) 0x64 (lit< tt) tells_index
    (λ bs. seen_twice Ref (Concrete false) (index_at bs)) e

pub tells_core_val : Tells core_val core_val_at
unfolding core_val_at
tells_core_val = tells_after core_val_after core_val_begins core_val_read

abbrev pub core_body : Function → Piece
core_body f = many core_val f.0 ⊕ many core_val f.1

pub tells_core_function : Tells core_body core_function_at
unfolding core_function_at
tells_core_function = tells_both (tells_many tells_core_val) (tells_many tells_core_val)

-- ---- limits, and what a module imports or exports

abbrev limits_of : Limits → Piece
limits_of x = limits x.0 x.1 x.2 x.3

tells_least : Tells (λ n. number n ⊕ bytes []) limit_at
tells_least = tells_as (λ n. right_nil (number n)) tells_limit

tells_bounds : Tells (λ (x : ℕ × ℕ). number x.0 ⊕ number x.1) bounds_at
unfolding bounds_at
tells_bounds = tells_both tells_limit tells_limit

limits_begin : (b : List ℕ) (t : ℕ × List ℕ) (x : Limits × List ℕ) → byte_at b ≡ Some t → limits_after t.0 t.1 ≡ Some x → Begins limits_of b x
unfolding limits_after
limits_begin b t x e =
    chain t.0 0 _ _ x (row_sound limits_of (without false false) 0 tells_least (λ n. refl) b t x e)
    (chain t.0 1 _ _ x (row_sound limits_of (within false false) 1 tells_bounds (λ n. refl) b t x e)
    (chain t.0 2 _ _ x (row_sound limits_of (without true false) 2 tells_least (λ n. refl) b t x e)
    (chain t.0 3 _ _ x (row_sound limits_of (within true false) 3 tells_bounds (λ n. refl) b t x e)
    (chain t.0 4 _ _ x (row_sound limits_of (without false true) 4 tells_least (λ n. refl) b t x e)
    (chain t.0 5 _ _ x (row_sound limits_of (within false true) 5 tells_bounds (λ n. refl) b t x e)
    (chain t.0 6 _ _ x (row_sound limits_of (without true true) 6 tells_least (λ n. refl) b t x e)
    (chain t.0 7 _ _ x (row_sound limits_of (within true true) 7 tells_bounds (λ n. refl) b t x e)
    (nothing x))))))))

limits_read : (b : List ℕ) (x : Limits) (rest : List ℕ) → Begins limits_of b (x, rest) → Told limits_after b (x, rest)
unfolding limits_after
limits_read b (false, false, n, None) rest e = row_told limits_after (without false false) 0 (lit< tt) tells_least (λ bs. refl) e
limits_read b (false, false, n, Some m) rest e = row_told limits_after (within false false) 1 (lit< tt) tells_bounds (λ bs. refl) {x = (n, m)} e
limits_read b (true, false, n, None) rest e = row_told limits_after (without true false) 2 (lit< tt) tells_least (λ bs. refl) e
limits_read b (true, false, n, Some m) rest e = row_told limits_after (within true false) 3 (lit< tt) tells_bounds (λ bs. refl) {x = (n, m)} e
limits_read b (false, true, n, None) rest e = row_told limits_after (without false true) 4 (lit< tt) tells_least (λ bs. refl) e
limits_read b (false, true, n, Some m) rest e = row_told limits_after (within false true) 5 (lit< tt) tells_bounds (λ bs. refl) {x = (n, m)} e
limits_read b (true, true, n, None) rest e = row_told limits_after (without true true) 6 (lit< tt) tells_least (λ bs. refl) e
limits_read b (true, true, n, Some m) rest e = row_told limits_after (within true true) 7 (lit< tt) tells_bounds (λ bs. refl) {x = (n, m)} e

pub tells_limits : Tells limits_of limits_at
unfolding limits_at
tells_limits = tells_after limits_after limits_begin limits_read

table_begins : (b : List ℕ) (r : RefType) (m : List ℕ) (l : Limits) (rest : List ℕ) (x : TableType × List ℕ) → ref_val r ⊕ Some m ≡ Some b
    → limits_of l ⊕ Some rest ≡ Some m → table_of r l rest ≡ Some x → Begins table_type b x
table_begins b r m (true, wide, n, most) rest x e f g = absurd cc
table_begins b r m (false, wide, n, most) rest x e f g = grind (arith, same_Some, both_begin)

tells_table : Tells table_type table_at
unfolding table_at
tells_table = record {
  sound = λ b x e.
      let r = bind_some (ref_at b) (λ r. limits_at r.1 >>= λ x. table_of r.0 x.0 x.1) x e in
      let l = bind_some (limits_at r.0.1) (λ x. table_of r.0.0 x.0 x.1) x r.2 in
      table_begins b r.0.0 r.0.1 l.0.0 l.0.1 x (tells_ref.sound b r.0 r.1) (tells_limits.sound r.0.1 l.0 l.1) l.2;
  whole = λ b x e.
      let p = parted (ref_val x.0.element_type) (limits false x.0.table64 x.0.minimum x.0.maximum) b x.1 e in
      rw (tells_ref.whole b (x.0.element_type, p.mid) p.front, tells_limits.whole p.mid ((false, x.0.table64, x.0.minimum, x.0.maximum), x.1) p.back) refl;
}

global_begins : (b : List ℕ) (v : ValType) (m : List ℕ) (t : ℕ × List ℕ) (x : GlobalType × List ℕ) → core_val v ⊕ Some m ≡ Some b → byte_at m ≡ Some t
    → global_of v t ≡ Some x → Begins global_type b x
global_begins b v m t x e f = grind (arith, same_Some, both_begin, byte_begins, chain, nothing)

global_read : (b : List ℕ) (g : GlobalType) (w : Bool) (rest : List ℕ) → g.mutable ≡ w → Begins global_type b (g, rest)
    → (core_val_at b >>= λ v. byte_at v.1 >>= global_of v.0) ≡ Some (g, rest)
global_read b g true rest i e =
    let p = parted (core_val g.val_type) (byte (bit g.mutable 1)) b rest e in
    rw (tells_core_val.whole b (g.val_type, p.mid) p.front, byte_read p.mid (1, rest) (lit< tt) (ap (λ w. byte (bit w 1) ⊕ Some rest) (sym i) ∙ p.back))
    (ap (λ w. Some (record { val_type = g.val_type; mutable = w }, rest)) (sym i))
global_read b g false rest i e =
    let p = parted (core_val g.val_type) (byte (bit g.mutable 1)) b rest e in
    rw (tells_core_val.whole b (g.val_type, p.mid) p.front, byte_read p.mid (0, rest) (lit< tt) (ap (λ w. byte (bit w 1) ⊕ Some rest) (sym i) ∙ p.back))
    (ap (λ w. Some (record { val_type = g.val_type; mutable = w }, rest)) (sym i))

tells_global : Tells global_type global_at
unfolding global_at
tells_global = record {
  sound = λ b x e.
      let v = bind_some (core_val_at b) (λ v. byte_at v.1 >>= global_of v.0) x e in
      let t = bind_some (byte_at v.0.1) (global_of v.0.0) x v.2 in
      global_begins b v.0.0 v.0.1 t.0 x (tells_core_val.sound b v.0 v.1) t.1 t.2;
  whole = λ b x e. global_read b x.0 x.0.mutable x.1 refl e;
}

entity_begins : (b : List ℕ) (t : ℕ × List ℕ) (x : EntityType × List ℕ) → byte_at b ≡ Some t → entity_after t.0 t.1 ≡ Some x → Begins entity b x
unfolding entity_after
entity_begins b t x e =
    chain t.0 0x00 _ _ x (row_sound entity Func 0x00 tells_u (λ i. refl) b t x e)
    (chain t.0 0x01 _ _ x (row_sound entity Table 0x01 tells_table (λ i. refl) b t x e)
    (chain t.0 0x02 _ _ x (row_sound entity (λ l. Memory (memory_of l)) 0x02 tells_limits (λ l. refl) b t x e)
    (chain t.0 0x03 _ _ x (row_sound entity Global 0x03 tells_global (λ i. refl) b t x e)
    (chain t.0 0x04 _ _ x (row_sound entity (λ i. Tag (tag_of i)) 0x04 (tells_behind 0x00 (lit< tt) tells_u) (λ i. refl) b t x e)
    (nothing x)))))

entity_read : (b : List ℕ) (x : EntityType) (rest : List ℕ) → Begins entity b (x, rest) → Told entity_after b (x, rest)
unfolding entity_after
entity_read b (Func i) rest e = row_told entity_after Func 0x00 (lit< tt) tells_u (λ bs. refl) e
entity_read b (Table t) rest e = row_told entity_after Table 0x01 (lit< tt) tells_table (λ bs. refl) e
entity_read b (Memory m) rest e = row_told entity_after (λ l. Memory (memory_of l)) 0x02 (lit< tt) tells_limits
    (λ bs. refl) {x = (m.shared, m.memory64, m.minimum, m.maximum)} e
entity_read b (Global g) rest e = row_told entity_after Global 0x03 (lit< tt) tells_global (λ bs. refl) e
entity_read b (Tag t) rest e = row_told entity_after (λ i. Tag (tag_of i)) 0x04 (lit< tt) (tells_behind 0x00 (lit< tt) tells_u)
    (λ bs. refl) {x = t.func_type_idx} e

pub tells_entity : Tells entity entity_at
unfolding entity_at
tells_entity = tells_after entity_after entity_begins entity_read

-- ---- core types

tells_imported : Tells (λ (x : List ℕ × (List ℕ × EntityType)). text x.0 ⊕ (text x.1.0 ⊕ entity x.1.1)) (both_at text_at (both_at text_at entity_at))
tells_imported = tells_both tells_text (tells_both tells_text tells_entity)

abbrev outer_body : ℕ × ℕ → Piece
outer_body x = byte 0x10 ⊕ (byte 0x01 ⊕ (u x.0 ⊕ u x.1))

tells_outer : Tells outer_body (behind 0x10 (behind 0x01 (both_at u_at u_at)))
tells_outer = tells_behind 0x10 (lit< tt) (tells_behind 0x01 (lit< tt) (tells_both tells_u tells_u))

outer_is : (p : Piece) → bytes (0x02 ∷ 0x10 ∷ 0x01 ∷ []) ⊕ p ≡ byte 0x02 ⊕ (byte 0x10 ⊕ (byte 0x01 ⊕ p))
outer_is p =
    ap (λ h. h ⊕ p) (sym (joined (0x02 ∷ []) (0x10 ∷ 0x01 ∷ []))) ∙ assoc (byte 0x02) (bytes (0x10 ∷ 0x01 ∷ [])) p
    ∙ ap (λ h. byte 0x02 ⊕ h) (ap (λ h. h ⊕ p) (sym (joined (0x10 ∷ []) (0x01 ∷ []))) ∙ assoc (byte 0x10) (byte 0x01) p)

decl_begins : (b : List ℕ) (t : ℕ × List ℕ) (x : ModuleDecl × List ℕ) → byte_at b ≡ Some t → module_decl_after t.0 t.1 ≡ Some x → Begins moduledecl b x
unfolding module_decl_after
decl_begins b t x e =
    chain t.0 0x00 _ _ x (row_sound moduledecl (λ x. imports x.0 x.1.0 x.1.1) 0x00 tells_imported (λ i. refl) b t x e)
    (chain t.0 0x01 _ _ x (row_sound moduledecl declares 0x01 (tells_behind 0x60 (lit< tt) tells_core_function) (λ i. refl) b t x e)
    (chain t.0 0x02 _ _ x (row_sound moduledecl (λ x. aliases x.0 x.1) 0x02 tells_outer (λ x. outer_is (u x.0 ⊕ u x.1)) b t x e)
    (chain t.0 0x03 _ _ x (row_sound moduledecl (λ x. exports x.0 x.1) 0x03 (tells_both tells_text tells_entity) (λ i. refl) b t x e)
    (nothing x))))

decl_read : (b : List ℕ) (x : ModuleDecl) (rest : List ℕ) → Begins moduledecl b (x, rest) → Told module_decl_after b (x, rest)
unfolding module_decl_after
decl_read b (imports m n i) rest e = row_told module_decl_after (λ x. imports x.0 x.1.0 x.1.1) 0x00 (lit< tt) tells_imported (λ bs. refl) {x = (m, (n, i))} e
decl_read b (declares f) rest e = row_told module_decl_after declares 0x01 (lit< tt) (tells_behind 0x60 (lit< tt) tells_core_function) (λ bs. refl) e
decl_read b (aliases c i) rest e = row_told module_decl_after (λ x. aliases x.0 x.1) 0x02 (lit< tt) tells_outer (λ bs. refl) {x = (c, i)}
    (ap (λ p. p ⊕ Some rest) (sym (outer_is (u c ⊕ u i))) ∙ e)
decl_read b (exports n i) rest e = row_told module_decl_after (λ x. exports x.0 x.1) 0x03 (lit< tt) (tells_both tells_text tells_entity)
    (λ bs. refl) {x = (n, i)} e

pub tells_module_decl : Tells moduledecl module_decl_at
unfolding module_decl_at
tells_module_decl = tells_after module_decl_after decl_begins decl_read

core_begins : (b : List ℕ) (t : ℕ × List ℕ) (x : CoreEntry × List ℕ) → byte_at b ≡ Some t → core_entry_after t.0 t.1 ≡ Some x → Begins core_entry b x
unfolding core_entry_after
core_begins b t x e =
    chain t.0 0x60 _ _ x (row_sound core_entry core_func 0x60 tells_core_function (λ i. refl) b t x e)
    (chain t.0 0x50 _ _ x (row_sound core_entry core_module 0x50 (tells_many tells_module_decl) (λ i. refl) b t x e)
    (nothing x))

core_read : (b : List ℕ) (x : CoreEntry) (rest : List ℕ) → Begins core_entry b (x, rest) → Told core_entry_after b (x, rest)
unfolding core_entry_after
core_read b (core_func f) rest e = row_told core_entry_after core_func 0x60 (lit< tt) tells_core_function (λ bs. refl) e
core_read b (core_module ds) rest e = row_told core_entry_after core_module 0x50 (lit< tt) (tells_many tells_module_decl) (λ bs. refl) e

pub tells_core_entry : Tells core_entry core_entry_at
unfolding core_entry_at
tells_core_entry = tells_after core_entry_after core_begins core_read

-- ---- imports and exports

extern_begins : (b : List ℕ) (t : ℕ × List ℕ) (x : ComponentTypeRef × List ℕ) → byte_at b ≡ Some t → extern_after t.0 t.1 ≡ Some x → Begins externdesc b x
unfolding extern_after
extern_begins b t x e =
    chain t.0 0x00 _ _ x (row_sound externdesc to.Module 0x00 (tells_behind 0x11 (lit< tt) tells_u) (λ i. two_bytes 0x00 0x11 (u i)) b t x e)
    (chain t.0 0x01 _ _ x (row_sound externdesc to.Func 0x01 tells_u (λ i. refl) b t x e)
    (chain t.0 0x03 _ _ x (row_sound externdesc to.TypeEq 0x03 (tells_behind 0x00 (lit< tt) tells_u) (λ i. two_bytes 0x03 0x00 (u i)) b t x e)
    (chain t.0 0x04 _ _ x (row_sound externdesc to.Component 0x04 tells_u (λ i. refl) b t x e)
    (chain t.0 0x05 _ _ x (row_sound externdesc to.Instance 0x05 tells_u (λ i. refl) b t x e)
    (nothing x)))))

extern_read : (b : List ℕ) (x : ComponentTypeRef) (rest : List ℕ) → Begins externdesc b (x, rest) → Told extern_after b (x, rest)
unfolding extern_after
extern_read b (to.Module i) rest e = row_told extern_after to.Module 0x00 (lit< tt) (tells_behind 0x11 (lit< tt) tells_u) (λ bs. refl)
    (ap (λ p. p ⊕ Some rest) (sym (two_bytes 0x00 0x11 (u i))) ∙ e)
extern_read b (to.Func i) rest e = row_told extern_after to.Func 0x01 (lit< tt) tells_u (λ bs. refl) e
extern_read b (to.TypeEq i) rest e = row_told extern_after to.TypeEq 0x03 (lit< tt) (tells_behind 0x00 (lit< tt) tells_u) (λ bs. refl)
    (ap (λ p. p ⊕ Some rest) (sym (two_bytes 0x03 0x00 (u i))) ∙ e)
extern_read b (to.Component i) rest e = row_told extern_after to.Component 0x04 (lit< tt) tells_u (λ bs. refl) e
extern_read b (to.Instance i) rest e = row_told extern_after to.Instance 0x05 (lit< tt) tells_u (λ bs. refl) e

pub tells_extern : Tells externdesc extern_at
unfolding extern_at
tells_extern = tells_after extern_after extern_begins extern_read

pub tells_named : Tells (λ (x : List ℕ × ComponentTypeRef). named_extern x.0 x.1) named_at
unfolding named_at
tells_named = tells_behind 0x00 (lit< tt) (tells_both tells_text tells_extern)
