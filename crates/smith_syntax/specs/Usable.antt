-- What types may be used for, by themselves and by their marks.
use Rattle.std.specs.Prelude.{◌≡◌, ℕ, ◌+◌, Bool, true, false, List, [], ◌∷◌, ◌&&◌, get_or, if◌then◌else◌}
use Rattle.std.specs.List.{AllByRecursion}
use Rattle.smith_syntax.specs.Entries.{Entry, DeclOf, DeclsOf, EntryOf, defined, function, component_type, instance_type}
use Rattle.smith_syntax.specs.Entries.{core_type_decl, type_decl, type_alias, core_type_alias, import_decl, export_decl, no_decls, then_decls}
use Rattle.smith_syntax.specs.Marked.{Marked, empty_marked, marked_after}
use Rattle.smith_syntax.specs.Members.{members, signature_members}
use Rattle.smith_syntax.specs.declared.deftype.ComponentTypeRef.{ComponentTypeRef}
use Rattle.smith_syntax.specs.declared.deftype.ComponentTypeRef.TheVariants as to
use Rattle.smith_syntax.specs.declared.types.ComponentValType.{ComponentValType}
use Rattle.smith_syntax.specs.declared.types.ComponentValType.TheVariants.{Primitive, Indexed}
use Rattle.smith_syntax.specs.Marks.{is_everywhere, is_small, is_somewhere, no_mark}
use Rattle.smith_syntax.specs.Scope.{is_component, is_defined, is_func, is_instance}
use Rattle.smith_syntax.specs.declared.marks.Mark.{Mark}

-- the mark of the first type, and the marks after it: if there is none, none is kept
abbrev pub first_mark : List Mark → Mark
first_mark [] = no_mark
first_mark (m ∷ ms) = m

abbrev pub later_marks : List Mark → List Mark
later_marks [] = []
later_marks (m ∷ ms) = ms

-- the indexes of the types that pass, ascending; the first has the index i
abbrev pub marked_places : {T : Type 0} → (T → Mark → Bool) → ℕ → List T → List Mark → List ℕ
marked_places test i [] ms = []
marked_places test i (t ∷ ts) ms =
    if test t (first_mark ms) then i ∷ marked_places test (i + 1) ts (later_marks ms) else marked_places test (i + 1) ts (later_marks ms)

abbrev pub is_value : Entry → Mark → Bool
is_value e m = is_defined e && is_small m

abbrev pub is_importable : Entry → Mark → Bool
is_importable e m = is_func e && is_small m && is_everywhere m

abbrev pub is_exportable : Entry → Mark → Bool
is_exportable e m = is_func e && is_small m && is_somewhere m

abbrev pub is_equatable : Entry → Mark → Bool
is_equatable e m = is_small m && is_somewhere m

abbrev pub is_small_component : Entry → Mark → Bool
is_small_component e m = is_component e && is_small m

abbrev pub is_small_instance : Entry → Mark → Bool
is_small_instance e m = is_instance e && is_small m

-- the indexes of the types that a value may have
abbrev pub value_places : Marked → List ℕ
value_places own = marked_places is_value 0 own.types own.marks

-- What is offered when types are read: small value types, and small references that reach as far as they have to.

abbrev pub mark_at : List Mark → ℕ → Mark
mark_at marks i = get_or marks i no_mark

abbrev pub OfferedValue : Marked → ComponentValType → Type 0
OfferedValue own (Primitive p) = Unit {0}
OfferedValue own (Indexed i) = is_small (mark_at own.marks i) ≡ true

abbrev pub OfferedRef : Marked → Bool → ComponentTypeRef → Type 0
OfferedRef own for_import (to.Module i) = Unit {0}
OfferedRef own true (to.Func i) = (is_small (mark_at own.marks i) ≡ true) × (is_everywhere (mark_at own.marks i) ≡ true)
OfferedRef own false (to.Func i) = (is_small (mark_at own.marks i) ≡ true) × (is_somewhere (mark_at own.marks i) ≡ true)
OfferedRef own for_import (to.TypeEq i) = (is_small (mark_at own.marks i) ≡ true) × (is_somewhere (mark_at own.marks i) ≡ true)
OfferedRef own for_import (to.Component i) = is_small (mark_at own.marks i) ≡ true
OfferedRef own for_import (to.Instance i) = is_small (mark_at own.marks i) ≡ true

module _ {N K : Type 0} where
  -- a type of which all that it names was offered, and declarations in the scopes around
  abbrev mutual
    pub OfferedEntry : EntryOf N K → Marked → List Marked → Type 0
    OfferedEntry (defined t) own outer = AllByRecursion (OfferedValue own) (members t)
    OfferedEntry (function s) own outer = AllByRecursion (OfferedValue own) (signature_members s)
    OfferedEntry (component_type ds) own outer = OfferedDecls ds (own ∷ outer) (empty_marked own.keeps)
    OfferedEntry (instance_type ds) own outer = OfferedDecls ds (own ∷ outer) (empty_marked own.keeps)

    pub OfferedDecl : DeclOf N K → List Marked → Marked → Type 0
    OfferedDecl (core_type_decl t k) outer own = Unit {0}
    OfferedDecl (type_decl e) outer own = OfferedEntry e own outer
    OfferedDecl (type_alias count i k) outer own = Unit {0}
    OfferedDecl (core_type_alias count i k) outer own = Unit {0}
    OfferedDecl (import_decl name n r) outer own = OfferedRef own true r
    OfferedDecl (export_decl name n r) outer own = OfferedRef own false r

    pub OfferedDecls : DeclsOf N K → List Marked → Marked → Type 0
    OfferedDecls no_decls outer own = Unit {0}
    OfferedDecls (then_decls d ds) outer own = OfferedDecl d outer own × OfferedDecls ds outer (marked_after d outer own)
