-- What is edited remains, but for its indexes and for what is inside it, or goes for a reason.
use Rattle.std.proofs.Common.{arith, ◌≡◌, ℕ, Bool, true, false, List, [], ◌∷◌, ◌++◌, Option, Some, None, length, refl}
use Rattle.std.proofs.Common.{inl, inr}
use Rattle.std.proofs.lemmas.Option.{cond_some}
use Rattle.std.specs.Option.{option_map, option_to_list}
use Rattle.std.specs.Prelude.{◌⊎◌, if◌then◌else◌, slice_get}
use Rattle.smith_format.specs.CoreTypes.{Function}
use Rattle.smith_format.specs.declared.types.EntityType.{EntityType}
use Rattle.smith_format.specs.declared.types.EntityType.TheVariants as entity
use Rattle.smith_syntax.specs.Entries.{Case, CoreEntry, core_func, core_module, Decl, Decls, Entry, Field, ImportEntry, ModuleDecl, Signature}
use Rattle.smith_syntax.specs.Entries.{aliases, declares, exports, imports, defined, function, component_type, instance_type}
use Rattle.smith_syntax.specs.Entries.{core_type_decl, type_decl, type_alias, core_type_alias, import_decl, export_decl, no_decls, then_decls}
use Rattle.smith_syntax.specs.declared.deftype.ComponentTypeRef.{ComponentTypeRef}
use Rattle.smith_syntax.specs.declared.deftype.ComponentTypeRef.TheVariants as to
use Rattle.smith_syntax.specs.declared.types.ComponentValType.{ComponentValType}
use Rattle.smith_syntax.specs.declared.types.ComponentValType.TheVariants.{Primitive, Indexed}
use Rattle.smith_tree.specs.Tree.{Canon, lift, lower, ExportEntry, Tree, Part, ends, first}
use Rattle.smith_tree.specs.Tree as part
use Rattle.smith_edit.specs.Edited.{after_canon, after_core, after_export, after_import, after_module_decl, after_one, after_type}
use Rattle.smith_edit.specs.Edited.{after_section, and_decl, and_part, canon_edited, case_edited, core_edited, core_row, decl_edited, decls_edited}
use Rattle.smith_edit.specs.Edited.{entity_edited, entry_edited, export_edited, field_edited, function_edited, import_edited, left_of, members}
use Rattle.smith_edit.specs.Edited.{module_decl_edited, optional_edited, part_edited, ref_edited, rows, shape_edited, signature_edited, tree_edited}
use Rattle.smith_edit.specs.Edited.{type_row, value_edited, within}
use Rattle.smith_edit.specs.Edits.{without}
use Rattle.smith_edit.specs.Goes.{AllGo, CanonGoes, DeclGoes, Differs, EntryGoes, IsAliasedGone, IsCaseGone, IsEntityGone, IsGone, IsRefGone, IsValueGone}
use Rattle.smith_edit.specs.Goes.{ModuleDeclGoes, NoneLeft, ShapeGoes}
use Rattle.smith_edit.specs.Items.{core_items, entry_items, module_decl_items, none_inside}
use Rattle.smith_edit.specs.Remains.{CanonRemains, CaseRemains, CoreRemains, DeclRemains, DeclsRemain, EntityRemains, EntryRemains}
use Rattle.smith_edit.specs.Remains.{ExportRemains, FieldRemains, FunctionRemains, ImportRemains, InOrder, IsSame, ModuleDeclRemains, OptionalRemains}
use Rattle.smith_edit.specs.Remains.{PartRemains, RefRemains, ShapeRemains, SignatureRemains, TreeRemains, ValueRemains}
use Rattle.smith_edit.specs.Remains.{ExportGoes, ImportGoes, IsFieldGone, IsLeftWithout, Members, Never, after_one_decl}
use Rattle.smith_edit.specs.Removal.{past, removes}
use Rattle.smith_edit.specs.Renumbering.{Renumbering, entry_at, index_kept, index_left, kept_index, new_index}
use Rattle.smith_edit.specs.Shapes.{Shape, alone, cases, fields, labels, pair, shape, single, values}
use Rattle.smith_edit.specs.Walk.{Walk, aliased, entered, skipped}
use Rattle.smith_edit.specs.declared.walk.Removal.{Removal}
use Rattle.smith_edit.specs.declared.renumbering.Fate.{Fate}
use Rattle.smith_edit.specs.declared.renumbering.Fate.TheVariants.{Kept, Removed}
use Rattle.smith_edit.specs.declared.walk.Scope.{Scope}
use Rattle.smith_edit.proofs.Perhaps.{Gives, because, gives, mapped, nothing, reason}

-- indexes

abbrev Any : ℕ → Type 0
Any j = Unit {0}

by_fate : (i : ℕ) (f : Fate) → Gives (f ≡ Removed) Any (index_left (record { index = i; fate = f }))
by_fate i Removed = nothing refl
by_fate i f = gives i tt

index_remains : (s : Renumbering) (i : ℕ) → Gives (IsGone s i) Any (new_index s i)
index_remains s i = by_fate (entry_at s i).index (entry_at s i).fate

by_kept : (i : ℕ) (f : Fate) → Gives (¬ (f ≡ Kept)) Any (index_kept (record { index = i; fate = f }))
by_kept i Kept = gives i tt
by_kept i f = nothing (λ h. absurd cc)

kept_remains : (s : Renumbering) (i : ℕ) → Gives (Differs s i) Any (kept_index s i)
kept_remains s i = by_kept (entry_at s i).index (entry_at s i).fate

alias_remains : (space : Scope → Renumbering) (scopes : List Scope) (count i : ℕ)
    → Gives (IsAliasedGone space scopes count i) Any (aliased space scopes count i)
alias_remains space scopes count i = go (slice_get scopes count) refl
  where
    go : (o : Option Scope) → slice_get scopes count ≡ o
        → Gives (IsAliasedGone space scopes count i) Any (elim o [ None ↦ Some i | Some s ↦ new_index (space s) i ])
    go None n = gives i tt
    go (Some s) n = because (λ g. record { scope = s; named = n; gone = g }) (index_remains (space s) i)

-- an item, if it is not removed

unless : {A W : Type 0} {P : A → Type 0} {o : Option A} (r : Removal) (b : Bool) → removes r ≡ b → Gives W P o
    → Gives ((removes r ≡ true) ⊎ W) P (if b then None else o)
unless r true i g = nothing (inl i)
unless r false i g = because (λ why. inr why) g

module _ {A : Type 0} (Remains : A → A → Type 0) (Goes : A → Type 0) where
  member_left : {o : Option A} (x : A) (xs : List A) (r : Removal) → Gives ((removes r ≡ true) ⊎ Goes x) (Remains x) o → (ys : List A)
      → Members Remains Goes (past 1 r) xs ys → Members Remains Goes r (x ∷ xs) (option_to_list o ++ ys)
  member_left x xs r (nothing why) ys h = inl (why, h)
  member_left x xs r (gives y q) ys h = inr (y, ys, refl, q, h)

  members_left : (edited : A → Option A) → ((x : A) → Gives (Goes x) (Remains x) (edited x)) → (r : Removal) (xs : List A)
      → Members Remains Goes r xs (members edited r xs)
  members_left edited each r [] = refl
  members_left edited each r (x ∷ xs) =
      member_left x xs r (unless r (removes r) refl (each x)) (members edited (past 1 r) xs) (members_left edited each (past 1 r) xs)

  all_go : (r : Removal) (xs : List A) → Members Remains Goes r xs [] → AllGo Goes r xs
  all_go r [] h = tt
  all_go r (x ∷ xs) (inl h) = (h.0, all_go (past 1 r) xs h.1)
  all_go r (x ∷ xs) (inr (y, rest, is, same, h)) = absurd cc

  compound_by : (r : Removal) (old new : List A) → Members Remains Goes r old new → Gives (NoneLeft Goes r old) (Members Remains Goes r old) (left_of old new)
  compound_by r [] new h = gives new h
  compound_by r (x ∷ xs) [] h = nothing (all_go r (x ∷ xs) h)
  compound_by r (x ∷ xs) (y ∷ ys) h = gives (y ∷ ys) h

  compound : (edited : A → Option A) → ((x : A) → Gives (Goes x) (Remains x) (edited x)) → (r : Removal) (xs : List A)
      → Gives (NoneLeft Goes r xs) (Members Remains Goes r xs) (left_of xs (members edited r xs))
  compound edited each r xs = compound_by r xs (members edited r xs) (members_left edited each r xs)

module _ {A : Type 0} (Remains : Walk → A → A → Type 0) (Goes : Walk → A → Type 0) (items : A → ℕ) (edited : Walk → A → Option A)
    (adds : Scope → A → Option A → Scope) where
  row_left : {o : Option A} (w : Walk) (x : A) (xs : List A) → Gives ((removes w.removal ≡ true) ⊎ Goes (skipped 1 w) x) (Remains (skipped 1 w) x) o
      → (ys : List A) → InOrder Remains Goes (after_one items edited adds) (after_one items edited adds w x) xs ys
      → InOrder Remains Goes (after_one items edited adds) w (x ∷ xs) (option_to_list o ++ ys)
  row_left w x xs (nothing why) ys h = inl (why, h)
  row_left w x xs (gives y q) ys h = inr (y, ys, refl, q, h)

  rows_left : ((w : Walk) (x : A) → Gives (Goes w x) (Remains w x) (edited w x)) → (w : Walk) (xs : List A)
      → InOrder Remains Goes (after_one items edited adds) w xs (rows items edited adds w xs)
  rows_left each w [] = refl
  rows_left each w (x ∷ xs) =
      let after = after_one items edited adds w x in
      row_left w x xs (unless w.removal (removes w.removal) refl (each (skipped 1 w) x)) (rows items edited adds after xs) (rows_left each after xs)

same_remains : {A : Type 0} (x : A) → Gives (Never x) (IsSame x) (Some x)
same_remains x = gives x refl

-- types of values

pub value_remains : (s : Renumbering) (v : ComponentValType) → Gives (IsValueGone s v) (ValueRemains v) (value_edited s v)
value_remains s (Primitive p) = gives (Primitive p) refl
value_remains s (Indexed i) = mapped Indexed (λ j h. (j, refl)) (index_remains s i)

pub field_remains : (s : Renumbering) (f : Field) → Gives (IsFieldGone s f) (FieldRemains f) (field_edited s f)
field_remains s f = mapped (λ v. (f.0, v)) (λ v h. (v, refl, h)) (value_remains s f.1)

pub case_remains : (s : Renumbering) (c : Case) → Gives (IsCaseGone s c) (CaseRemains c) (case_edited s c)
case_remains s (name, None) = gives (name, None) (None, refl, refl)
case_remains s (name, Some v) =
    mapped (λ w. (name, Some w)) (λ w h. (Some w, refl, (w, refl, h))) (because (λ g. (v, refl, g)) (value_remains s v))

pub optional_remains : (s : Renumbering) (r : Removal) (v : ComponentValType)
    → Gives ((removes r ≡ true) ⊎ IsValueGone s v) (ValueRemains v) (optional_edited s r (Some v))
optional_remains s r v = unless r (removes r) refl (value_remains s v)

optional_by : {o : Option ComponentValType} (s : Renumbering) (r : Removal) (v : ComponentValType)
    → Gives ((removes r ≡ true) ⊎ IsValueGone s v) (ValueRemains v) o → OptionalRemains s r (Some v) o
optional_by s r v (nothing why) = inl (why, refl)
optional_by s r v (gives w h) = inr (w, [], refl, h, refl)

optional_left : (s : Renumbering) (r : Removal) (o : Option ComponentValType) → OptionalRemains s r o (optional_edited s r o)
optional_left s r None = refl
optional_left s r (Some v) = optional_by s r v (optional_remains s r v)

shape_remains : (s : Renumbering) (r : Removal) (x : Shape) → Gives (ShapeGoes s r x) (ShapeRemains s r x) (shape_edited s r x)
shape_remains s r (alone t) = gives t refl
shape_remains s r (single type v) = mapped type (λ w h. (w, refl, h)) (value_remains s v)
shape_remains s r (fields type fs) =
    mapped type (λ z h. (z, refl, h)) (compound FieldRemains (IsFieldGone s) (field_edited s) (field_remains s) r fs)
shape_remains s r (cases type cs) = mapped type (λ z h. (z, refl, h)) (compound CaseRemains (IsCaseGone s) (case_edited s) (case_remains s) r cs)
shape_remains s r (values type vs) =
    mapped type (λ z h. (z, refl, h)) (compound ValueRemains (IsValueGone s) (value_edited s) (value_remains s) r vs)
shape_remains s r (labels type ns) = mapped type (λ z h. (z, refl, h)) (compound IsSame Never Some same_remains r ns)
shape_remains s r (pair type ok err) =
    gives _ (_, _, refl, optional_left s r ok, optional_left s (past (length (option_to_list ok)) r) err)

signature_left : (s : Renumbering) (r : Removal) (g : Signature) → SignatureRemains s r g (signature_edited s r g)
signature_left s r g = grind (arith, members_left, field_remains, optional_left)

-- core types

function_left : (r : Removal) (f : Function) → FunctionRemains r f (function_edited r f)
function_left r f = (members_left IsSame Never Some same_remains r f.0, members_left IsSame Never Some same_remains (past (length f.0) r) f.1)

entity_remains : (s : Renumbering) (e : EntityType) → Gives (IsEntityGone s e) (EntityRemains e) (entity_edited s e)
entity_remains s (entity.Func i) = mapped entity.Func (λ j h. (j, refl)) (index_remains s i)
entity_remains s (entity.Tag t) = mapped (λ i. entity.Tag (record { func_type_idx = i })) (λ j h. (j, refl)) (index_remains s t.func_type_idx)
entity_remains s e = gives e refl

pub module_decl_remains : (w : Walk) (d : ModuleDecl) → Gives (ModuleDeclGoes w d) (ModuleDeclRemains w d) (module_decl_edited w d)
module_decl_remains w (declares f) = gives _ (_, refl, function_left w.removal f)
module_decl_remains w (imports m n e) = mapped (imports m n) (λ f h. (f, refl, h)) (entity_remains w.own.core_types e)
module_decl_remains w (aliases count i) = mapped (aliases count) (λ j h. (j, refl)) (alias_remains (λ s. s.core_types) (w.own ∷ w.outer) count i)
module_decl_remains w (exports n e) = mapped (exports n) (λ f h. (f, refl, h)) (entity_remains w.own.core_types e)

core_left : (w : Walk) (t : CoreEntry) → CoreRemains w t (core_edited w t)
core_left w (core_func f) = (_, refl, function_left w.removal f)
core_left w (core_module ds) =
    (_, refl, rows_left ModuleDeclRemains ModuleDeclGoes module_decl_items module_decl_edited after_module_decl module_decl_remains (entered w) ds)

-- types

ref_remains : (own : Scope) (r : ComponentTypeRef) → Gives (IsRefGone own r) (RefRemains r) (ref_edited own r)
ref_remains own (to.Module i) = mapped to.Module (λ j h. (j, refl)) (index_remains own.core_types i)
ref_remains own r = mapped _ (λ j h. (j, refl)) (index_remains own.types _)

decl_left : {o : Option Decl} (w : Walk) (d : Decl) (ds : Decls)
    → Gives ((removes w.removal ≡ true) ⊎ DeclGoes (skipped 1 w) d) (DeclRemains (skipped 1 w) d) o → (es : Decls) → DeclsRemain (after_one_decl w d) ds es
    → DeclsRemain w (then_decls d ds) (and_decl o es)
decl_left w d ds (nothing why) es h = inl (why, h)
decl_left w d ds (gives e q) es h = inr (e, es, refl, q, h)

mutual
  pub entry_remains : (e : Entry) (w : Walk) → Gives (EntryGoes w e) (EntryRemains w e) (entry_edited e w)
  entry_remains (defined t) w = mapped defined (λ u h. (u, refl, h)) (shape_remains w.own.types w.removal (shape t))
  entry_remains (function g) w = gives _ (_, refl, signature_left w.own.types w.removal g)
  entry_remains (component_type ds) w = gives _ (_, refl, decls_left ds (entered w))
  entry_remains (instance_type ds) w = gives _ (_, refl, decls_left ds (entered w))

  pub decl_remains : (d : Decl) (w : Walk) → Gives (DeclGoes w d) (DeclRemains w d) (decl_edited d w)
  decl_remains (core_type_decl t k) w = gives _ (_, refl, core_left w t)
  decl_remains (type_decl e) w = mapped type_decl (λ f h. (f, refl, h)) (entry_remains e w)
  decl_remains (type_alias count i k) w =
      mapped (λ j. type_alias count j k) (λ j h. (j, refl)) (alias_remains (λ s. s.types) (w.own ∷ w.outer) count i)
  decl_remains (core_type_alias count i k) w =
      mapped (λ j. core_type_alias count j k) (λ j h. (j, refl)) (alias_remains (λ s. s.core_types) (w.own ∷ w.outer) count i)
  decl_remains (import_decl name n r) w = mapped (import_decl name n) (λ q h. (q, refl, h)) (ref_remains w.own r)
  decl_remains (export_decl name n r) w = mapped (export_decl name n) (λ q h. (q, refl, h)) (ref_remains w.own r)

  decls_left : (ds : Decls) (w : Walk) → DeclsRemain w ds (decls_edited ds w)
  decls_left no_decls w = refl
  decls_left (then_decls d ds) w =
      let after = after_one_decl w d in
      decl_left w d ds (unless w.removal (removes w.removal) refl (decl_remains d (skipped 1 w))) (decls_edited ds after) (decls_left ds after)

-- entries of sections

core_remains : (w : Walk) (t : CoreEntry) → Gives (Never t) (CoreRemains w t) (core_row w t)
core_remains w t = gives _ (core_left w t)

type_remains : (w : Walk) (e : Entry) → Gives (EntryGoes w e) (EntryRemains w e) (type_row w e)
type_remains w e = entry_remains e w

pub canon_remains : (w : Walk) (f : Canon) → Gives (CanonGoes w f) (CanonRemains f) (canon_edited w f)
canon_remains w (lower f) = mapped lower (λ j h. (j, refl)) (kept_remains w.own.functions f)
canon_remains w (lift c t) = go (kept_remains w.own.core_functions c)
  where
    go : {o : Option ℕ} → Gives (Differs w.own.core_functions c) Any o
        → Gives (CanonGoes w (lift c t)) (CanonRemains (lift c t)) (elim o [ None ↦ None | Some d ↦ option_map (lift d) (kept_index w.own.types t) ])
    go (nothing why) = nothing (inl why)
    go (gives d h) = mapped (lift d) (λ u h. (d, u, refl)) (because (λ why. inr why) (kept_remains w.own.types t))

pub import_remains : (w : Walk) (i : ImportEntry) → Gives (ImportGoes w i) (ImportRemains i) (import_edited w i)
import_remains w i = mapped (λ r. record i { to = r }) (λ r h. (r, refl, h)) (ref_remains w.own i.to)

pub export_remains : (w : Walk) (e : ExportEntry) → Gives (ExportGoes w e) (ExportRemains e) (export_edited w e)
export_remains w e = mapped (λ f. record e { func = f }) (λ f h. (f, refl)) (index_remains w.own.functions e.func)

-- sections

next_part : (w : Walk) (p : Part) (t : Tree) (b : Bool) → removes w.removal ≡ b → (q : Part) → PartRemains (within w) p q → (rest : Tree)
    → TreeRemains (after_section w p) t rest → TreeRemains w (first p t) (and_part b q rest)
next_part w p t true i q here rest h = inl (i, h)
next_part w p t false i q here rest h = inr (q, rest, refl, here, h)

mutual
  part_left : (p : Part) (w : Walk) → PartRemains w p (part_edited p w)
  part_left (part.core_types ts) w = (_, refl, rows_left CoreRemains (λ v. Never) core_items core_row after_core core_remains w ts)
  part_left (part.component t) w = (_, refl, sections_left t (entered w))
  part_left (part.types ts) w = (_, refl, rows_left EntryRemains EntryGoes entry_items type_row after_type type_remains w ts)
  part_left (part.canons fs) w = (_, refl, rows_left (λ v. CanonRemains) CanonGoes none_inside canon_edited after_canon canon_remains w fs)
  part_left (part.imports is) w = (_, refl, rows_left (λ v. ImportRemains) ImportGoes none_inside import_edited after_import import_remains w is)
  part_left (part.exports es) w = (_, refl, rows_left (λ v. ExportRemains) ExportGoes none_inside export_edited after_export export_remains w es)
  part_left p w = refl

  sections_left : (t : Tree) (w : Walk) → TreeRemains w t (tree_edited t w)
  sections_left ends w = refl
  sections_left (first p t) w =
      next_part w p t (removes w.removal) refl (part_edited p (within w)) (part_left p (within w)) (tree_edited t (after_section w p))
      (sections_left t (after_section w p))

pub other_items_left : (k : ℕ) (t less : Tree) → without k t ≡ Some less → IsLeftWithout k t less
other_items_left k t less e = grind (arith, cond_some, sections_left)

-- What goes does so for a reason.

pub entry_goes : (e : Entry) (w : Walk) → entry_edited e w ≡ None → EntryGoes w e
entry_goes e w gone = reason (entry_remains e w) gone

pub decl_goes : (d : Decl) (w : Walk) → decl_edited d w ≡ None → DeclGoes w d
decl_goes d w gone = reason (decl_remains d w) gone

pub ruleset goes = (entry_goes, decl_goes)
