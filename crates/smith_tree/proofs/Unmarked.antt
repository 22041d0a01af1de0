-- Scopes of which nothing is kept: the scopes of components that need not validate, and of types in them. Each type of
-- a kind is offered there.
use Rattle.std.proofs.Common.{arith, ◌≡◌, ℕ, ◌+◌, Bool, true, false, ◌&&◌, cond, if◌then◌else◌, List, [], ◌∷◌, fold, refl, ap, ◌∙◌}
use Rattle.std.specs.Prelude.{◌||◌, nat_le}
use Rattle.smith_format.specs.declared.config.Config.{Config}
use Rattle.smith_syntax.specs.Entries.{Entry, CoreEntry, ImportEntry, Decl, core_type_decl, type_decl, type_alias, core_type_alias}
use Rattle.smith_syntax.specs.Entries.{import_decl, export_decl}
use Rattle.smith_syntax.specs.Marked.{Marked, empty_marked, more_kept, marked_after, reference_size, scope_in, scopes_in_marked, with_export}
use Rattle.smith_syntax.specs.Marks.{no_mark, room_size}
use Rattle.smith_syntax.specs.Places.{places}
use Rattle.smith_syntax.specs.Scope.{after_decl, is_component, is_defined, is_func, is_instance}
use Rattle.smith_syntax.specs.Sizes.{capped}
use Rattle.smith_syntax.specs.Usable.{is_equatable, is_exportable, is_importable, is_small_component, is_small_instance, is_value, marked_places, value_places}
use Rattle.smith_syntax.specs.declared.deftype.ComponentTypeRef.{ComponentTypeRef}
use Rattle.smith_syntax.specs.declared.marks.Mark.{Mark}
use Rattle.smith_tree.specs.Marking.{exported_reference, marked_after_part, marked_after_parts, marked_from, marked_inner, with_core_entry, with_export_entries}
use Rattle.smith_tree.specs.Marking.{with_exports_entry, with_import_entry, with_type_entry}
use Rattle.smith_tree.specs.Spaces.{Spaces, after_export, after_part, no_spaces}
use Rattle.smith_tree.specs.Tree.{ExportEntry, Tree, Part, ends, first, core_types, types, imports, exports}
use Rattle.smith_tree.specs.TypeOffers.{has_room, ref_places}
use Rattle.smith_tree.specs.declared.choices.RefKind.TheVariants as ref
use Rattle.smith_tree.specs.Unmarked.{KeepsNothing}

still : {A : Type 0} (b : Bool) (xs ys : List A) → b ≡ false → xs ≡ [] → more_kept b xs ys ≡ []
still true xs ys e f = cc
still false xs ys e f = f

same_size : (b : Bool) (n m : ℕ) → b ≡ false → m ≡ 1 → (if b then n else m) ≡ 1
same_size true n m e f = cc
same_size false n m e f = f

pub empty_keeps_nothing : (b : Bool) → b ≡ false → KeepsNothing (empty_marked b)
empty_keeps_nothing b e = record { keeps = e; marks = refl; size = refl }

-- after a declaration

pub nothing_after : (d : Decl) (outer : List Marked) (own : Marked) → KeepsNothing own → KeepsNothing (marked_after d outer own)
nothing_after (core_type_decl t k) outer own b = record { keeps = b.keeps; marks = b.marks; size = b.size }
nothing_after (type_decl e) outer own b = record { keeps = b.keeps; marks = still own.keeps own.marks _ b.keeps b.marks; size = b.size }
nothing_after (type_alias count i k) outer own b = record { keeps = b.keeps; marks = still own.keeps own.marks _ b.keeps b.marks; size = b.size }
nothing_after (core_type_alias count i k) outer own b = record { keeps = b.keeps; marks = b.marks; size = b.size }
nothing_after (import_decl name n r) outer own b = grind (arith, same_size)
nothing_after (export_decl name n r) outer own b = grind (arith, still, same_size)

-- after a part

pub nothing_after_type : (outer : List Marked) (own : Marked) (e : Entry) → KeepsNothing own → KeepsNothing (with_type_entry outer own e)
nothing_after_type outer own e b = record { keeps = b.keeps; marks = still own.keeps own.marks _ b.keeps b.marks; size = b.size }

nothing_after_core : (own : Marked) (e : CoreEntry) → KeepsNothing own → KeepsNothing (with_core_entry own e)
nothing_after_core own e b = record { keeps = b.keeps; marks = b.marks; size = b.size }

pub nothing_after_import : (own : Marked) (i : ImportEntry) → KeepsNothing own → KeepsNothing (with_import_entry own i)
nothing_after_import own i b = grind (arith, same_size)

nothing_after_export : (own : Marked) (r : ComponentTypeRef) → KeepsNothing own → KeepsNothing (with_export own r)
nothing_after_export own r b = grind (arith, same_size)

nothing_after_all : {A : Type 0} (step : Marked → A → Marked) → ((own : Marked) (x : A) → KeepsNothing own → KeepsNothing (step own x)) → (own : Marked)
    (xs : List A) → KeepsNothing own → KeepsNothing (fold step own xs)
nothing_after_all step one own [] b = b
nothing_after_all step one own (x ∷ xs) b = nothing_after_all step one (step own x) xs (one own x b)

pub nothing_after_reference : (own : Marked) (rs : List ComponentTypeRef) → KeepsNothing own → KeepsNothing (with_exports_entry own rs)
nothing_after_reference own rs b = nothing_after_all with_export nothing_after_export own rs b

nothing_after_exports : (es : List ExportEntry) (s : Spaces) (own : Marked) → KeepsNothing own → KeepsNothing (with_export_entries es s own)
nothing_after_exports [] s own b = b
nothing_after_exports (e ∷ es) s own b =
    nothing_after_exports es (after_export s e) (with_exports_entry own (exported_reference s.functions e))
    (nothing_after_reference own (exported_reference s.functions e) b)

pub nothing_after_part : (p : Part) (s : Spaces) (outer : List Marked) (own : Marked) → KeepsNothing own → KeepsNothing (marked_after_part p s outer own)
nothing_after_part (core_types ts) s outer own b = nothing_after_all with_core_entry nothing_after_core own ts b
nothing_after_part (types ts) s outer own b = nothing_after_all (with_type_entry outer) (nothing_after_type outer) own ts b
nothing_after_part (imports is) s outer own b = nothing_after_all with_import_entry nothing_after_import own is b
nothing_after_part (exports es) s outer own b = nothing_after_exports es s own b
nothing_after_part _ s outer own b = b

-- in a component
pub nothing_after_parts : (t : Tree) (s : Spaces) (outer : List Marked) (own : Marked) → KeepsNothing own
    → KeepsNothing (marked_after_parts t s outer own)
nothing_after_parts ends s outer own b = b
nothing_after_parts (first p t) s outer own b =
    nothing_after_parts t (after_part s p) outer (marked_after_part p s outer own) (nothing_after_part p s outer own b)

pub nothing_in : (config : Config) (outer : List Tree) (inner : Tree) → config.must_validate ≡ false → KeepsNothing (marked_inner config outer inner)
nothing_in config outer inner off = grind (arith, nothing_after_parts, empty_keeps_nothing)

-- what a scope with such marks has after a declaration, apart from them
pub scope_after : (outer : List Marked) (own : Marked) (d : Decl) → scope_in (marked_after d outer own) ≡ after_decl (scopes_in_marked outer) (scope_in own) d
scope_after outer own (core_type_decl t k) = refl
scope_after outer own (type_decl e) = refl
scope_after outer own (type_alias count i k) = refl
scope_after outer own (core_type_alias count i k) = refl
scope_after outer own (import_decl name n r) = refl
scope_after outer own (export_decl name n r) = refl

-- what is offered there

pub and_true : (b : Bool) → (b && true) ≡ b
and_true true = refl
and_true false = refl

module _ {T : Type 0} (p : T → Mark → Bool) (q : T → Bool) (is : (t : T) → p t no_mark ≡ q t) where
  unmarked_from : (i : ℕ) (ts : List T) → marked_places p i ts [] ≡ places q i ts
  unmarked_from i [] = refl
  unmarked_from i (t ∷ ts) =
      ap (λ b. cond b (i ∷ marked_places p (i + 1) ts []) (marked_places p (i + 1) ts [])) (is t)
      ∙ ap (λ ws. cond (q t) (i ∷ ws) ws) (unmarked_from (i + 1) ts)

  unmarked_places : (ts : List T) (ms : List Mark) → ms ≡ [] → marked_places p 0 ts ms ≡ places q 0 ts
  unmarked_places ts ms none = ap (marked_places p 0 ts) none ∙ unmarked_from 0 ts

module _ (own : Marked) (nothing : KeepsNothing own) where
  pub values_unmarked : value_places own ≡ places is_defined 0 own.types
  values_unmarked = unmarked_places is_value is_defined (λ t. and_true (is_defined t)) own.types own.marks nothing.marks

  pub functions_unmarked : (for_import : Bool) → ref_places own for_import ref.Func ≡ places is_func 0 own.types
  functions_unmarked true = grind (arith, unmarked_places, and_true)
  functions_unmarked false = grind (arith, unmarked_places, and_true)

  pub equals_unmarked : (for_import : Bool) → ref_places own for_import ref.TypeEq ≡ places (λ t. true) 0 own.types
  equals_unmarked for_import = unmarked_places is_equatable (λ t. true) (λ t. refl) own.types own.marks nothing.marks

  pub components_unmarked : (for_import : Bool) → ref_places own for_import ref.Component ≡ places is_component 0 own.types
  components_unmarked for_import = grind (arith, unmarked_places, and_true)

  pub instances_unmarked : (for_import : Bool) → ref_places own for_import ref.Instance ≡ places is_instance 0 own.types
  instances_unmarked for_import = grind (arith, unmarked_places, and_true)

  pub room_unmarked : (for_type_def : Bool) → has_room own for_type_def ≡ true
  room_unmarked true = refl
  room_unmarked false = ap (λ n. false || nat_le n room_size) nothing.size
