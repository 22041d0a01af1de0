-- What is edited has no more bytes, and fewer items if one of them is removed.
use Rattle.std.proofs.Common.{◌≡◌, ℕ, ◌+◌, ◌<◌, ◌≤◌, Bool, true, false, List, [], ◌∷◌, ◌++◌, Option, None, Some, length, length-append, ap}
use Rattle.std.proofs.Common.{sym, refl, subst, arith, nat_lt}
use Rattle.std.proofs.lemmas.Bool.{cases_lt}
use Rattle.std.proofs.lemmas.Bool.Decides.{nat_tests}
use Rattle.std.proofs.lemmas.Option.{cond_some}
use Rattle.std.specs.Prelude.{if◌then◌else◌}
use Rattle.std.specs.Option.{option_map, option_to_list}
use Rattle.smith_format.specs.CoreTypes.{Function, core_function, core_val}
use Rattle.smith_format.specs.Entities.{entity}
use Rattle.smith_format.specs.Piece.{Piece, ◌⊕◌, byte, bytes, each, many, s_index, text, u}
use Rattle.smith_format.specs.declared.types.EntityType.{EntityType}
use Rattle.smith_format.specs.declared.types.EntityType.TheVariants as entities
use Rattle.smith_format.proofs.Digits.{signed_some}
use Rattle.smith_format.proofs.Piece.{parts_are, s_index_fits, s_index_none}
use Rattle.smith_syntax.specs.Entries.{Case, CoreEntry, core_func, core_module, Decl, Decls, DefValType, Entry, Field, ImportEntry, ModuleDecl, Signature}
use Rattle.smith_syntax.specs.Entries.{aliases, declares, exports, imports, defined, function, component_type, instance_type, decl_count}
use Rattle.smith_syntax.specs.Entries.{primitive_type, record_type, variant_type, list_type, tuple_type, option_type, result_type}
use Rattle.smith_syntax.specs.Entries.{core_type_decl, type_decl, type_alias, core_type_alias, import_decl, export_decl, no_decls, then_decls}
use Rattle.smith_syntax.specs.Grammar.{case, core_entry, decl, decls, defvaltype, entry, externdesc, functype, import_entry, labelvaltype, maybe_valtype}
use Rattle.smith_syntax.specs.Grammar.{moduledecl, primvaltype, resultlist, valtype}
use Rattle.smith_syntax.specs.declared.deftype.ComponentTypeRef.{ComponentTypeRef}
use Rattle.smith_syntax.specs.declared.deftype.ComponentTypeRef.TheVariants as to
use Rattle.smith_syntax.specs.declared.types.ComponentValType.{ComponentValType}
use Rattle.smith_syntax.specs.declared.types.ComponentValType.TheVariants.{Primitive, Indexed}
use Rattle.smith_tree.specs.Grammar.{canon, component_text, export_entry, part, parts, preamble}
use Rattle.smith_tree.specs.Tree.{Canon, lift, lower, ExportEntry, Tree, Part, ends, first}
use Rattle.smith_tree.specs.Tree as section
use Rattle.smith_edit.specs.Edited.{after_canon, after_core, after_decl, after_export, after_import, after_module_decl, after_one, after_part, after_rows}
use Rattle.smith_edit.specs.Edited.{after_section, after_type, and_decl, and_part, canon_edited, case_edited, core_edited, core_row, decl_edited, decls_edited}
use Rattle.smith_edit.specs.Edited.{defined_edited, entity_edited, entry_edited, export_edited, field_edited, function_edited, import_edited, left_of, members}
use Rattle.smith_edit.specs.Edited.{module_decl_edited, one, optional_edited, part_edited, ref_edited, rows, signature_edited, tree_edited, type_row}
use Rattle.smith_edit.specs.Edited.{value_edited, within}
use Rattle.smith_edit.specs.Edits.{without}
use Rattle.smith_edit.specs.Items.{core_items, decl_items, decls_items, entry_items, function_items, module_decl_items, none_inside, part_items, row_items}
use Rattle.smith_edit.specs.Items.{signature_items, tree_items, value_items}
use Rattle.smith_edit.specs.Removal.{inside, past, removes}
use Rattle.smith_edit.specs.Renumbering.{Renumbering}
use Rattle.smith_edit.specs.Walk.{Walk, entered, new_scope, skipped}
use Rattle.smith_edit.specs.declared.walk.Removal.{Removal}
use Rattle.smith_edit.specs.declared.walk.Removal.TheVariants.{Items}
use Rattle.smith_edit.specs.declared.walk.Scope.{Scope}
use Rattle.smith_edit.proofs.Past.{plain_items}
use Rattle.smith_edit.proofs.Shorter.{both_fewer, hit, hits, hits_inside, hits_most, hits_sum, left_is, members_fewer, optional_fewer}
use Rattle.smith_edit.proofs.LowIndexes.{Low, LowScope, LowWalk, adds_canon, adds_core, adds_decl, adds_export_entry, adds_import, adds_module_decl, adds_type}
use Rattle.smith_edit.proofs.LowIndexes.{aliased_left, kept_left, low_entered, low_new, new_left, no_scope}
use Rattle.smith_edit.proofs.Perhaps.{Perhaps, either, gives, mapped, more, nothing}
use Rattle.smith_edit.proofs.Shorter.{Left, NoLonger, after, before, dropped, glue, many_members, s_index_grow, same, short_byte, sized_grow, u_grow}

-- It has no more bytes, and at least as many items less as are removed.
abbrev Less : {A : Type 0} → (A → Piece) → (A → ℕ) → Removal → A → A → Type 0
Less f items r x y = NoLonger (f y) (f x) × (items y + hits r (items x) ≤ items x)

-- types of values

value_left : (s : Renumbering) → Low s → (v : ComponentValType) → Left valtype (value_edited s v) (valtype v)
value_left s l (Primitive p) = gives (Primitive p) (same (byte (primvaltype p)))
value_left s l (Indexed i) = mapped Indexed (λ x h. h) (new_left s_index s_index_grow s i l)

field_left : (s : Renumbering) → Low s → (f : Field) → Left labelvaltype (field_edited s f) (labelvaltype f)
field_left s l f = mapped (λ v. (f.0, v)) (λ x h. after (text f.0) _ _ h) (value_left s l f.1)

case_left : (s : Renumbering) → Low s → (c : Case) → Left case (case_edited s c) (case c)
case_left s l (name, None) = gives (name, None) (same (case (name, None)))
case_left s l (name, Some v) =
    mapped (λ w. (name, Some w)) (λ x h. after (text name) _ _ (before _ _ (byte 0x00) (after (byte 0x01) _ _ h))) (value_left s l v)

name_left : (n : List ℕ) → Left text (Some n) (text n)
name_left n = gives n (same (text n))

optional_left : (s : Renumbering) → Low s → (r : Removal) (v : ComponentValType) → Left valtype (optional_edited s r (Some v)) (valtype v)
optional_left s l r v = either (removes r) (nothing tt) (value_left s l v)

maybe_by : {o : Option ComponentValType} (q : Piece) → Left valtype o q → NoLonger (maybe_valtype o) (byte 0x01 ⊕ q)
maybe_by q (nothing why) = short_byte 0x00 0x01 q
maybe_by q (gives v l) = after (byte 0x01) (valtype v) q l

maybe_shorter : (s : Renumbering) → Low s → (r : Removal) (o : Option ComponentValType) → NoLonger (maybe_valtype (optional_edited s r o)) (maybe_valtype o)
maybe_shorter s l r None = same (byte 0x00)
maybe_shorter s l r (Some v) = maybe_by (valtype v) (optional_left s l r v)

index_some : (i : ℕ) (b : List ℕ) → s_index i ≡ Some b → 0 < length b
index_some i b e = grind (arith, s_index_fits, signed_some, s_index_none, cases_lt)

byte_some : (n : ℕ) (b : List ℕ) → byte n ≡ Some b → 0 < length b
byte_some n b e = let is : n ∷ [] ≡ b = cc in let one = ap length is in omega (arith, one)

value_some : (v : ComponentValType) (b : List ℕ) → valtype v ≡ Some b → 0 < length b
value_some (Primitive p) b e = byte_some (primvaltype p) b e
value_some (Indexed i) b e = index_some i b e

no_result : (v : ComponentValType) → NoLonger (bytes (0x01 ∷ 0x00 ∷ [])) (byte 0x00 ⊕ valtype v)
no_result v b e =
    let c = parts_are (byte 0x00) (valtype v) b e in
    let some = byte_some 0x00 c.left c.p_is in
    let more = value_some v c.right c.q_is in
    let whole = ap length c.is in
    (0x01 ∷ 0x00 ∷ [], refl, omega (arith, whole, some, more, length-append c.left c.right))

result_by : {o : Option ComponentValType} (v : ComponentValType) → Left valtype o (valtype v) → NoLonger (resultlist o) (resultlist (Some v))
result_by v (nothing why) = no_result v
result_by v (gives w l) = after (byte 0x00) (valtype w) (valtype v) l

result_shorter : (s : Renumbering) → Low s → (r : Removal) (o : Option ComponentValType) → NoLonger (resultlist (optional_edited s r o)) (resultlist o)
result_shorter s l r None = same (resultlist None)
result_shorter s l r (Some v) = result_by v (optional_left s l r v)

compound : {A : Type 0} (type : List A → DefValType) (front : Piece) (f : A → Piece) → ((xs : List A) → defvaltype (type xs) ≡ front ⊕ many f xs)
    → ((xs : List A) → value_items (type xs) ≡ length xs) → (edited : A → Option A) → ((x : A) → Left f (edited x) (f x)) → (r : Removal) (xs : List A)
    → Perhaps (Less defvaltype value_items r (type xs)) (option_map type (left_of xs (members edited r xs)))
compound type front f is size edited left r xs =
    let new = members edited r xs in
    mapped type
    (λ z k. (
      subst (λ ys. NoLonger (defvaltype (type ys)) (defvaltype (type xs))) (sym k.0)
          (rw (is new, is xs) (after front (many f new) (many f xs) (many_members f edited left r xs))),
      subst (λ ys. value_items (type ys) + hits r (value_items (type xs)) ≤ value_items (type xs)) (sym k.0)
          (rw (size new, size xs) (members_fewer edited r xs)),
    )) (left_is xs new)

defined_less : (s : Renumbering) → Low s → (r : Removal) (t : DefValType) → Perhaps (Less defvaltype value_items r t) (defined_edited s r t)
defined_less s l r (primitive_type p) = gives (primitive_type p) (same (byte (primvaltype p)), omega (arith, hits_most r 0))
defined_less s l r (record_type fs) = compound record_type (byte 0x72) labelvaltype (λ xs. refl) (λ xs. refl) (field_edited s) (field_left s l) r fs
defined_less s l r (variant_type cs) = compound variant_type (byte 0x71) case (λ xs. refl) (λ xs. refl) (case_edited s) (case_left s l) r cs
defined_less s l r (list_type v) = mapped list_type (λ x h. (after (byte 0x70) _ _ h, omega (arith, hits_most r 0))) (value_left s l v)
defined_less s l r (tuple_type vs) = compound tuple_type (byte 0x6f) valtype (λ xs. refl) (λ xs. refl) (value_edited s) (value_left s l) r vs
defined_less s l r (option_type v) = mapped option_type (λ x h. (after (byte 0x6b) _ _ h, omega (arith, hits_most r 0))) (value_left s l v)
defined_less s l r (result_type ok err) =
    let later = past (length (option_to_list ok)) r in
    gives _ (
      after (byte 0x6a) _ _ (glue _ _ _ _ (maybe_shorter s l r ok) (maybe_shorter s l later err)),
      both_fewer r (length (option_to_list ok)) (length (option_to_list err)) _ _ (optional_fewer s r ok) (optional_fewer s later err),
    )
defined_less s l r t = compound _ _ text (λ xs. refl) (λ xs. refl) Some name_left r _

signature_less : (s : Renumbering) → Low s → (r : Removal) (g : Signature) → Less functype signature_items r g (signature_edited s r g)
signature_less s l r g =
    let later = past (length g.params) r in (
      after (byte 0x40) _ _
          (glue _ _ _ _ (many_members labelvaltype (field_edited s) (field_left s l) r g.params) (result_shorter s l later g.result)),
      both_fewer r (length g.params) (length (option_to_list g.result)) _ _ (members_fewer (field_edited s) r g.params) (optional_fewer s later g.result),
    )

-- an item with itself, if it is not removed

abbrev Kept : {A : Type 0} → (A → Piece) → (A → ℕ) → Removal → A → A → Type 0
Kept f items r x y = NoLonger (f y) (f x) × (items y + 1 + hits r (items x + 1) ≤ items x + 1)

unless : {A : Type 0} {f : A → Piece} {o : Option A} (items : A → ℕ) (r : Removal) (x : A) (b : Bool) → removes r ≡ b → Perhaps (Less f items (past 1 r) x) o
    → Perhaps (Kept f items r x) (if b then None else o)
unless items r x true e g = nothing tt
unless items r x false e g = more (λ y h. (h.0, omega (arith, h.1, hits_inside r (items x) e))) g

-- entries in order

module _ {A : Type 0} (items : A → ℕ) (edited : Walk → A → Option A) (adds : Scope → A → Option A → Scope) (f : A → Piece)
    (less : (w : Walk) → LowWalk w → (x : A) → Perhaps (Less f items w.removal x) (edited w x))
    (low : (s : Scope) (x : A) (new : Option A) → LowScope s → LowScope (adds s x new)) where
  abbrev RowsLess : Removal → List A → List A → Type 0
  RowsLess r xs ys =
      NoLonger (each f ys) (each f xs) × (length ys ≤ length xs) × (row_items items ys + hits r (row_items items xs) ≤ row_items items xs)

  row_less : {o : Option A} (r : Removal) (x : A) (xs ys : List A) → Perhaps (Kept f items r x) o → RowsLess (past (items x + 1) r) xs ys
      → RowsLess r (x ∷ xs) (option_to_list o ++ ys)
  row_less r x xs ys (nothing why) h = (
    dropped (f x) (each f ys) (each f xs) h.0,
    omega (arith, h.1),
    omega (arith, h.2, hits_sum r (items x + 1) (row_items items xs), hits_most r (items x + 1)),
  )
  row_less r x xs ys (gives y k) h = (
    glue (f y) (f x) (each f ys) (each f xs) k.0 h.0,
    omega (arith, h.1),
    omega (arith, h.2, k.1, hits_sum r (items x + 1) (row_items items xs)),
  )

  one_low : (w : Walk) → LowWalk w → (x : A) → LowWalk (after_one items edited adds w x)
  one_low w l x = record { own = low w.own x (one items edited adds w x) l.own; outer = l.outer }

  rows_less : (w : Walk) → LowWalk w → (xs : List A) → RowsLess w.removal xs (rows items edited adds w xs)
  rows_less w l [] = (same (Some []), omega arith, omega (arith, hits_most w.removal 0))
  rows_less w l (x ∷ xs) =
      row_less w.removal x xs (rows items edited adds (after_one items edited adds w x) xs)
      (unless items w.removal x (removes w.removal) refl (less (skipped 1 w) (record { own = l.own; outer = l.outer }) x))
      (rows_less (after_one items edited adds w x) (one_low w l x) xs)

  many_less : (w : Walk) → LowWalk w → (xs : List A) → Less (many f) (row_items items) w.removal xs (rows items edited adds w xs)
  many_less w l xs = let h = rows_less w l xs in (glue _ _ _ _ (u_grow _ _ h.1) h.0, h.2)

  rows_low : (w : Walk) → LowWalk w → (xs : List A) → LowWalk (after_rows items edited adds w xs)
  rows_low w l [] = l
  rows_low w l (x ∷ xs) = rows_low (after_one items edited adds w x) (one_low w l x) xs

-- core types

core_val_left : (v : _) → Left core_val (Some v) (core_val v)
core_val_left v = gives v (same (core_val v))

function_less : (r : Removal) (f : Function) → Less core_function function_items r f (function_edited r f)
function_less r f =
    let later = past (length f.0) r in (
      after (byte 0x60) _ _ (glue _ _ _ _ (many_members core_val Some core_val_left r f.0) (many_members core_val Some core_val_left later f.1)),
      both_fewer r (length f.0) (length f.1) _ _ (members_fewer Some r f.0) (members_fewer Some later f.1),
    )

entity_left : (s : Renumbering) → Low s → (e : EntityType) → Left entity (entity_edited s e) (entity e)
entity_left s l (entities.Func i) = mapped entities.Func (λ x h. after (byte 0x00) _ _ h) (new_left u u_grow s i l)
entity_left s l (entities.Tag t) = mapped (λ i. entities.Tag (record { func_type_idx = i }))
    (λ x h. after (byte 0x04) _ _ (after (byte 0x00) _ _ h)) (new_left u u_grow s t.func_type_idx l)
entity_left s l e = gives e (same (entity e))

core_types_of : (s : Scope) → LowScope s → Low s.core_types
core_types_of s l = l.core_types

types_of : (s : Scope) → LowScope s → Low s.types
types_of s l = l.types

module_decl_less : (w : Walk) → LowWalk w → (d : ModuleDecl) → Perhaps (Less moduledecl module_decl_items w.removal d) (module_decl_edited w d)
module_decl_less w l (declares f) = let h = function_less w.removal f in gives (declares (function_edited w.removal f)) (after (byte 0x01) _ _ h.0, h.1)
module_decl_less w l (imports m n e) = mapped (imports m n)
    (λ x h. (after (byte 0x00) _ _ (after (text m) _ _ (after (text n) _ _ h)), omega (arith, hits_most w.removal 0)))
    (entity_left w.own.core_types l.own.core_types e)
module_decl_less w l (aliases count i) = mapped (aliases count) (λ x h. (after _ _ _ (after (u count) _ _ h), omega (arith, hits_most w.removal 0)))
    (aliased_left u u_grow (λ s. s.core_types) core_types_of w count i l)
module_decl_less w l (exports n e) = mapped (exports n) (λ x h. (after (byte 0x03) _ _ (after (text n) _ _ h), omega (arith, hits_most w.removal 0)))
    (entity_left w.own.core_types l.own.core_types e)

core_less : (w : Walk) → LowWalk w → (t : CoreEntry) → Less core_entry core_items w.removal t (core_edited w t)
core_less w l (core_func f) = function_less w.removal f
core_less w l (core_module ds) =
    let h = many_less module_decl_items module_decl_edited after_module_decl moduledecl module_decl_less adds_module_decl (entered w) (low_entered w l) ds in
    (after (byte 0x50) _ _ h.0, h.1)

-- types

ref_left : (s : Scope) → LowScope s → (r : ComponentTypeRef) → Left externdesc (ref_edited s r) (externdesc r)
ref_left s l (to.Module i) = mapped to.Module (λ x h. after _ _ _ h) (new_left u u_grow s.core_types i l.core_types)
ref_left s l r = mapped _ (λ x h. after _ _ _ h) (new_left u u_grow s.types _ l.types)

import_less : (b : Bool) (name : List ℕ) (n : Unit {0}) (r q : ComponentTypeRef) → NoLonger (externdesc q) (externdesc r)
    → NoLonger (decl b (import_decl name n q)) (decl b (import_decl name n r))
import_less true name n r q h = after (byte 0x03) _ _ (after (byte 0x00) _ _ (after (text name) _ _ h))
import_less false name n r q h = same None

abbrev DeclsLess : Bool → Removal → Decls → Decls → Type 0
DeclsLess b r ds es =
    NoLonger (decls b es) (decls b ds) × (decl_count es ≤ decl_count ds) × (decls_items es + hits r (decls_items ds) ≤ decls_items ds)

and_less : {o : Option Decl} (b : Bool) (r : Removal) (d : Decl) (ds es : Decls) → Perhaps (Kept (decl b) decl_items r d) o
    → DeclsLess b (past (decl_items d + 1) r) ds es → DeclsLess b r (then_decls d ds) (and_decl o es)
and_less b r d ds es (nothing why) h = (
  dropped (decl b d) (decls b es) (decls b ds) h.0,
  omega (arith, h.1),
  omega (arith, h.2, hits_sum r (decl_items d + 1) (decls_items ds), hits_most r (decl_items d + 1)),
)
and_less b r d ds es (gives e k) h = (
  glue (decl b e) (decl b d) (decls b es) (decls b ds) k.0 h.0,
  omega (arith, h.1),
  omega (arith, h.2, k.1, hits_sum r (decl_items d + 1) (decls_items ds)),
)

mutual
  entry_less : (e : Entry) (w : Walk) → LowWalk w → Perhaps (Less entry entry_items w.removal e) (entry_edited e w)
  entry_less (defined t) w l = mapped defined (λ x h. h) (defined_less w.own.types l.own.types w.removal t)
  entry_less (function g) w l = gives (function (signature_edited w.own.types w.removal g)) (signature_less w.own.types l.own.types w.removal g)
  entry_less (component_type ds) w l =
      let h = decls_less true ds (entered w) (low_entered w l) in
      gives (component_type (decls_edited ds (entered w))) (after (byte 0x41) _ _ (glue _ _ _ _ (u_grow _ _ h.1) h.0), h.2)
  entry_less (instance_type ds) w l =
      let h = decls_less false ds (entered w) (low_entered w l) in
      gives (instance_type (decls_edited ds (entered w))) (after (byte 0x42) _ _ (glue _ _ _ _ (u_grow _ _ h.1) h.0), h.2)

  decl_less : (b : Bool) (d : Decl) (w : Walk) → LowWalk w → Perhaps (Less (decl b) decl_items w.removal d) (decl_edited d w)
  decl_less b (core_type_decl t k) w l =
      let h = core_less w l t in gives (core_type_decl (core_edited w t) k) (after (byte 0x00) _ _ h.0, h.1)
  decl_less b (type_decl e) w l = mapped type_decl (λ x h. (after (byte 0x01) _ _ h.0, h.1)) (entry_less e w l)
  decl_less b (type_alias count i k) w l = mapped (λ j. type_alias count j k)
      (λ x h. (after _ _ _ (after (u count) _ _ h), omega (arith, hits_most w.removal 0))) (aliased_left u u_grow (λ s. s.types) types_of w count i l)
  decl_less b (core_type_alias count i k) w l = mapped (λ j. core_type_alias count j k)
      (λ x h. (after _ _ _ (after (u count) _ _ h), omega (arith, hits_most w.removal 0)))
      (aliased_left u u_grow (λ s. s.core_types) core_types_of w count i l)
  decl_less b (import_decl name n r) w l =
      mapped (import_decl name n) (λ q h. (import_less b name n r q h, omega (arith, hits_most w.removal 0))) (ref_left w.own l.own r)
  decl_less b (export_decl name n r) w l = mapped (export_decl name n)
      (λ x h. (after (byte 0x04) _ _ (after (byte 0x00) _ _ (after (text name) _ _ h)), omega (arith, hits_most w.removal 0))) (ref_left w.own l.own r)

  decls_less : (b : Bool) (ds : Decls) (w : Walk) → LowWalk w → DeclsLess b w.removal ds (decls_edited ds w)
  decls_less b no_decls w l = (same (Some []), omega arith, omega (arith, hits_most w.removal 0))
  decls_less b (then_decls d ds) w l =
      let o : Option Decl = if removes w.removal then None else decl_edited d (skipped 1 w) in
      let v : Walk = record w { removal = past (decl_items d + 1) w.removal; own = after_decl w.own d o } in
      and_less b w.removal d ds (decls_edited ds v)
      (unless decl_items w.removal d (removes w.removal) refl (decl_less b d (skipped 1 w) (record { own = l.own; outer = l.outer })))
      (decls_less b ds v (record { own = adds_decl w.own d o l.own; outer = l.outer }))

-- sections

core_row_less : (w : Walk) → LowWalk w → (t : CoreEntry) → Perhaps (Less core_entry core_items w.removal t) (core_row w t)
core_row_less w l t = gives (core_edited w t) (core_less w l t)

type_row_less : (w : Walk) → LowWalk w → (e : Entry) → Perhaps (Less entry entry_items w.removal e) (type_row w e)
type_row_less w l e = entry_less e w l

lift_by : {o p : Option ℕ} (c t : ℕ) → Left u o (u c) → Left u p (u t) → Left canon (elim o [ None ↦ None | Some d ↦ option_map (lift d) p ]) (canon (lift c t))
lift_by c t (nothing why) g = nothing tt
lift_by c t (gives d h) g = mapped (lift d) (λ x k. after _ _ _ (glue (u d) (u c) _ _ h (after (byte 0x00) _ _ k))) g

canon_left : (w : Walk) → LowWalk w → (c : Canon) → Left canon (canon_edited w c) (canon c)
canon_left w l (lift c t) =
    lift_by c t (kept_left u u_grow w.own.core_functions c l.own.core_functions) (kept_left u u_grow w.own.types t l.own.types)
canon_left w l (lower f) = mapped lower (λ x h. after _ _ _ (before _ _ (byte 0x00) h)) (kept_left u u_grow w.own.functions f l.own.functions)

import_left : (w : Walk) → LowWalk w → (i : ImportEntry) → Left import_entry (import_edited w i) (import_entry i)
import_left w l i = mapped (λ r. record i { to = r }) (λ x h. after (byte 0x00) _ _ (after (text i.name) _ _ h)) (ref_left w.own l.own i.to)

export_left : (w : Walk) → LowWalk w → (e : ExportEntry) → Left export_entry (export_edited w e) (export_entry e)
export_left w l e = mapped (λ f. record e { func = f })
    (λ x h. after (byte 0x00) _ _ (after (text e.name) _ _ (after (byte 0x01) _ _ (before _ _ (byte 0x00) h))))
    (new_left u u_grow w.own.functions e.func l.own.functions)

-- entries with nothing inside
module _ {A : Type 0} (edited : Walk → A → Option A) (adds : Scope → A → Option A → Scope) (f : A → Piece)
    (left : (w : Walk) → LowWalk w → (x : A) → Left f (edited w x) (f x))
    (low : (s : Scope) (x : A) (new : Option A) → LowScope s → LowScope (adds s x new)) where
  plain_less : (w : Walk) → LowWalk w → (x : A) → Perhaps (Less f none_inside w.removal x) (edited w x)
  plain_less w l x = more (λ y h. (h, omega (arith, hits_most w.removal 0))) (left w l x)

  plain_many : (w : Walk) → LowWalk w → (xs : List A) → Less (many f) length w.removal xs (rows none_inside edited adds w xs)
  plain_many w l xs =
      let h = many_less none_inside edited adds f plain_less low w l xs in
      (h.0, rw (plain_items (rows none_inside edited adds w xs), plain_items xs) at h.1)

  plain_low : (w : Walk) → LowWalk w → (xs : List A) → LowWalk (after_rows none_inside edited adds w xs)
  plain_low = rows_low none_inside edited adds f plain_less low

part_low : (w : Walk) → LowWalk w → (p : Part) → LowWalk (after_part w p)
part_low w l (section.core_types ts) = rows_low core_items core_row after_core core_entry core_row_less adds_core w l ts
part_low w l (section.component t) = record { own = l.own; outer = l.outer }
part_low w l (section.types ts) = rows_low entry_items type_row after_type entry type_row_less adds_type w l ts
part_low w l (section.canons fs) = plain_low canon_edited after_canon canon canon_left adds_canon w l fs
part_low w l (section.imports is) = plain_low import_edited after_import import_entry import_left adds_import w l is
part_low w l (section.exports es) = plain_low export_edited after_export export_entry export_left adds_export_entry w l es
part_low w l p = l

section_low : (w : Walk) → LowWalk w → (p : Part) → LowWalk (after_section w p)
section_low w l p = let low = part_low (within w) (record { own = l.own; outer = l.outer }) p in record { own = low.own; outer = low.outer }

section_less : (r : Removal) (b : Bool) → removes r ≡ b → (p q : Part) (t v : Tree) → Less part part_items (inside r) p q
    → Less parts tree_items (past (part_items p + 1) r) t v → Less parts tree_items r (first p t) (and_part b q v)
section_less r true e p q t v h k = (
  dropped (part p) (parts v) (parts t) k.0,
  omega (arith, k.1, hits_sum r (part_items p + 1) (tree_items t), hits_most r (part_items p + 1)),
)
section_less r false e p q t v h k =
    let same : inside r ≡ past 1 r = rw e refl in
    let here : part_items q + hits (past 1 r) (part_items p) ≤ part_items p = rw same at h.1 in (
      glue (part q) (part p) (parts v) (parts t) h.0 k.0,
      omega (arith, here, k.1, hits_inside r (part_items p) e, hits_sum r (part_items p + 1) (tree_items t)),
    )

mutual
  part_less : (p : Part) (w : Walk) → LowWalk w → Less part part_items w.removal p (part_edited p w)
  part_less (section.core_types ts) w l =
      let h = many_less core_items core_row after_core core_entry core_row_less adds_core w l ts in (sized_grow 3 _ _ h.0, h.1)
  part_less (section.component t) w l =
      let h = tree_less t (entered w) (low_entered w l) in (sized_grow 4 _ _ (after (bytes preamble) _ _ h.0), h.1)
  part_less (section.types ts) w l =
      let h = many_less entry_items type_row after_type entry type_row_less adds_type w l ts in (sized_grow 7 _ _ h.0, h.1)
  part_less (section.canons fs) w l = let h = plain_many canon_edited after_canon canon canon_left adds_canon w l fs in (sized_grow 8 _ _ h.0, h.1)
  part_less (section.imports is) w l =
      let h = plain_many import_edited after_import import_entry import_left adds_import w l is in (sized_grow 10 _ _ h.0, h.1)
  part_less (section.exports es) w l =
      let h = plain_many export_edited after_export export_entry export_left adds_export_entry w l es in (sized_grow 11 _ _ h.0, h.1)
  part_less p w l = (same (part p), omega (arith, hits_most w.removal 0))

  tree_less : (t : Tree) (w : Walk) → LowWalk w → Less parts tree_items w.removal t (tree_edited t w)
  tree_less ends w l = (same (Some []), omega (arith, hits_most w.removal 0))
  tree_less (first p t) w l =
      section_less w.removal (removes w.removal) refl p (part_edited p (within w)) t (tree_edited t (after_section w p))
      (part_less p (within w) (record { own = l.own; outer = l.outer })) (tree_less t (after_section w p) (section_low w l p))

without_less : (k : ℕ) (t less : Tree) → without k t ≡ Some less → (k < tree_items t) × Less component_text tree_items (Items k k) t less
without_less k t less e =
    let w : Walk = record { removal = Items k k; own = new_scope; outer = [] } in
    let (there, is) = cond_some (nat_lt k (tree_items t)) (tree_edited t w) less e in
    let h = tree_less t w (record { own = low_new; outer = no_scope }) in
    (grind (arith, nat_tests, there), rw (sym is) (after (bytes preamble) _ _ h.0, h.1))

pub without_shorter : (k : ℕ) (t less : Tree) → without k t ≡ Some less → NoLonger (component_text less) (component_text t)
without_shorter k t less e = (without_less k t less e).1.0

pub without_fewer : (k : ℕ) (t less : Tree) → without k t ≡ Some less → tree_items less < tree_items t
without_fewer k t less e = let (there, h) = without_less k t less e in omega (arith, h.1, hit k (tree_items t) there)
