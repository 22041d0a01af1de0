-- Scopes with what is kept in them for a validator: where what each type refers to is named, and effective sizes.
use Rattle.std.specs.Prelude.{ℕ, ◌+◌, Bool, false, List, [], ◌∷◌, ◌++◌, map, get_or, if◌then◌else◌, Option, None, Some, slice_get}
use Rattle.std.specs.Option.{option_to_list}
use Rattle.smith_syntax.specs.Entries.{Entry, CoreEntry, DeclOf, DeclsOf, EntryOf, defined, function, component_type, instance_type, plain}
use Rattle.smith_syntax.specs.Entries.{core_type_decl, type_decl, type_alias, core_type_alias, import_decl, export_decl, no_decls, then_decls}
use Rattle.smith_syntax.specs.Marks.{aliased_mark, closed_mark, declared_mark, equal_mark, narrower, no_mark, parts_of, sizes, value_reach}
use Rattle.smith_syntax.specs.Members.{is_nominal, members, signature_members}
use Rattle.smith_syntax.specs.Scope.{Scope, ScopeOf, core_type_named, exported_type, type_named}
use Rattle.smith_syntax.specs.Sizes.{capped, defined_size, module_type_size, signature_size}
use Rattle.smith_syntax.specs.declared.deftype.ComponentTypeRef.{ComponentTypeRef}
use Rattle.smith_syntax.specs.declared.deftype.ComponentTypeRef.TheVariants as to
use Rattle.smith_syntax.specs.declared.marks.Mark.{Mark}
use Rattle.smith_syntax.specs.declared.marks.Reach.{Reach}
use Rattle.smith_syntax.specs.declared.marks.Reach.TheVariants.{Everywhere}

-- The types and the core types; and whether anything is kept: the marks of the types, the sizes of the module types among the core types, where all
-- is named that exports refer to, and the effective size so far.
pub record MarkedOf (T C : Type 0) : Type 0 where
  pub types : List T
  pub core_types : List C
  pub keeps : Bool
  pub marks : List Mark
  pub core_sizes : List ℕ
  pub exported : Reach
  pub size : ℕ

abbrev pub Marked : Type 0
Marked = MarkedOf Entry CoreEntry

-- these at the end, if anything is kept
abbrev pub more_kept : {A : Type 0} → Bool → List A → List A → List A
more_kept keeps xs ys = if keeps then xs ++ ys else xs

module _ {T C : Type 0} where
  -- the scope by itself
  abbrev pub scope_in : MarkedOf T C → ScopeOf T C
  scope_in s = record { types = s.types; core_types = s.core_types }

  abbrev pub empty_marked : Bool → MarkedOf T C
  empty_marked keeps = record { types = []; core_types = []; keeps = keeps; marks = []; core_sizes = []; exported = Everywhere; size = 1 }

  -- with one more type, of that mark
  abbrev pub with_marked : MarkedOf T C → T → Mark → MarkedOf T C
  with_marked s t m = record s { types = s.types ++ t ∷ []; marks = more_kept s.keeps s.marks (m ∷ []) }

  -- with one more core type, of that size
  abbrev pub with_sized : MarkedOf T C → C → ℕ → MarkedOf T C
  with_sized s t n = record s { core_types = s.core_types ++ t ∷ []; core_sizes = more_kept s.keeps s.core_sizes (n ∷ []) }

  -- the size of what is imported or exported
  abbrev pub reference_size : MarkedOf T C → ComponentTypeRef → ℕ
  reference_size s (to.Module i) = get_or s.core_sizes i 0
  reference_size s (to.Func i) = get_or (sizes s.marks) i 0
  reference_size s (to.TypeEq i) = get_or (sizes s.marks) i 0
  reference_size s (to.Component i) = get_or (sizes s.marks) i 0
  reference_size s (to.Instance i) = get_or (sizes s.marks) i 0

  -- where all is named that it refers to
  abbrev pub reference_reach : MarkedOf T C → ComponentTypeRef → Reach
  reference_reach s (to.Module i) = Everywhere
  reference_reach s (to.Func i) = parts_of (slice_get s.marks i)
  reference_reach s (to.TypeEq i) = parts_of (slice_get s.marks i)
  reference_reach s (to.Component i) = Everywhere
  reference_reach s (to.Instance i) = parts_of (slice_get s.marks i)

  -- the size with one more import or export, and where all is named that exports refer to

  abbrev pub size_with : MarkedOf T C → ComponentTypeRef → ℕ
  size_with s r = if s.keeps then capped (s.size + reference_size s r) else s.size

  abbrev pub exported_with : MarkedOf T C → ComponentTypeRef → Reach
  exported_with s r = if s.keeps then narrower s.exported (reference_reach s r) else s.exported

  abbrev pub with_import : MarkedOf T C → ComponentTypeRef → MarkedOf T C
  with_import s r = record s { size = size_with s r }

  -- An export of a type adds that by itself.
  abbrev pub with_export : MarkedOf T C → ComponentTypeRef → MarkedOf T C
  with_export s r = record s { exported = exported_with s r; size = size_with s r }

-- the innermost of scopes
abbrev pub first_marked : List Marked → Marked
first_marked [] = empty_marked false
first_marked (s ∷ ss) = s

abbrev pub scopes_in_marked : List Marked → List Scope
scopes_in_marked ss = map scope_in ss

-- the mark of the type that an outer alias names, and the size of the core type
abbrev pub mark_named : List Marked → ℕ → ℕ → Mark
mark_named scopes count i = elim (slice_get scopes count) [ None ↦ no_mark | Some s ↦ get_or s.marks i no_mark ]

abbrev pub core_size_named : List Marked → ℕ → ℕ → ℕ
core_size_named scopes count i = elim (slice_get scopes count) [ None ↦ 0 | Some s ↦ get_or s.core_sizes i 0 ]

-- the mark of the type that an export is equal to, as it is named then
abbrev pub exported_mark : List Mark → ComponentTypeRef → Mark
exported_mark marks (to.TypeEq i) = equal_mark (get_or marks i no_mark)
exported_mark marks _ = no_mark

-- that mark for each of these
abbrev pub marks_for : {A : Type 0} → Option A → Mark → List Mark
marks_for added m = map (λ x. m) (option_to_list added)

-- with one more export, and the type that it adds
abbrev pub with_exported : Marked → ComponentTypeRef → Marked
with_exported own r = record own {
  types = own.types ++ option_to_list (exported_type (scope_in own) r);
  marks = more_kept own.keeps own.marks (marks_for (exported_type (scope_in own) r) (exported_mark own.marks r));
  exported = exported_with own r;
  size = size_with own r;
}

module _ {N K : Type 0} where
  -- A type at its declaration, in its own scope and those around it, innermost first; and a scope after declarations.
  abbrev mutual
    pub mark : EntryOf N K → Marked → List Marked → Mark
    mark (defined t) own outer = declared_mark (is_nominal t) (map (value_reach own.marks) (members t)) (capped (defined_size (sizes own.marks) t))
    mark (function s) own outer = declared_mark false (map (value_reach own.marks) (signature_members s)) (capped (signature_size (sizes own.marks) s))
    mark (component_type ds) own outer = closed_mark Everywhere (marked_after_all ds (own ∷ outer) (empty_marked own.keeps)).size
    mark (instance_type ds) own outer =
        closed_mark (marked_after_all ds (own ∷ outer) (empty_marked own.keeps)).exported (marked_after_all ds (own ∷ outer) (empty_marked own.keeps)).size

    pub marked_after : DeclOf N K → List Marked → Marked → Marked
    marked_after (core_type_decl t k) outer own = with_sized own t (capped (module_type_size own.core_types t))
    marked_after (type_decl e) outer own = with_marked own (plain e) (mark e own outer)
    marked_after (type_alias count i k) outer own = record own {
      types = own.types ++ option_to_list (type_named (scopes_in_marked (own ∷ outer)) count i);
      marks = more_kept own.keeps own.marks
          (marks_for (type_named (scopes_in_marked (own ∷ outer)) count i) (aliased_mark count (mark_named (own ∷ outer) count i)));
    }
    marked_after (core_type_alias count i k) outer own = record own {
      core_types = own.core_types ++ option_to_list (core_type_named (scopes_in_marked (own ∷ outer)) count i);
      core_sizes = more_kept own.keeps own.core_sizes
          (map (λ x. core_size_named (own ∷ outer) count i) (option_to_list (core_type_named (scopes_in_marked (own ∷ outer)) count i)));
    }
    marked_after (import_decl name n r) outer own = with_import own r
    marked_after (export_decl name n r) outer own = with_exported own r

    pub marked_after_all : DeclsOf N K → List Marked → Marked → Marked
    marked_after_all no_decls outer own = own
    marked_after_all (then_decls d ds) outer own = marked_after_all ds outer (marked_after d outer own)
