-- Types, and what types of components and instances declare, one place of which is changed (Binary.md, deftype).
use Rattle.std.specs.Prelude.{ℕ, ◌+◌, List, [], ◌∷◌, length, Bool, true, false, Option, Some, None, ◌==◌, if◌then◌else◌}
use Rattle.std.specs.Option.{option_map}
use Rattle.smith_syntax.specs.Entries.{Decl, Decls, Entry, component_type, defined, function, in_order, instance_type, no_decls, then_decls}
use Rattle.smith_syntax.specs.Entries.{core_type_alias, core_type_decl, export_decl, import_decl, type_alias, type_decl}
use Rattle.smith_syntax.specs.WellFormed.{decl_imports}
use Rattle.smith_syntax.specs.declared.deftype.ComponentTypeRef.{ComponentTypeRef}
use Rattle.smith_change.specs.Alternatives.{index_alternative, name_alternative, only, ref_index, sort_alternative, with_index}
use Rattle.smith_change.specs.CoreTypes.{core_changed, core_places, outer_changed}
use Rattle.smith_change.specs.Members.{defined_changed, defined_places, signature_changed, signature_places}
use Rattle.smith_change.specs.Rows.{again_name, entry_alternative, first_or, in_turn}

-- what an import or an export is of: the sort, and the index
abbrev pub ref_changed : ℕ → ℕ → ComponentTypeRef → Option ComponentTypeRef
ref_changed a k r = first_or (sort_alternative a r) (λ j. option_map (with_index r) (index_alternative a (ref_index r))) k

-- an import or an export: the name, the sort, and the index
abbrev pub extern_changed : ℕ → ℕ → List ℕ × ComponentTypeRef → Option (List ℕ × ComponentTypeRef)
extern_changed a k e =
    first_or (option_map (λ n. (n, e.1)) (name_alternative a e.0)) (λ j. option_map (λ r. (e.0, r)) (ref_changed a j e.1)) k

abbrev pub decl_again : Decl → Option Decl
decl_again (import_decl n u r) = Some (import_decl again_name u r)
decl_again (export_decl n u r) = Some (export_decl again_name u r)
decl_again d = None

abbrev pub decl_list : Decls → List Decl
decl_list no_decls = []
decl_list (then_decls d ds) = d ∷ decl_list ds

-- An instance type imports nothing, so that a component type that imports is none with another code.
abbrev pub without_imports : Decls → Option Entry → Option Entry
without_imports ds other = if length (decl_imports ds) == 0 then other else None

-- Only a component type imports (true).
abbrev pub importing_alone : Bool → Option Decl → Option Decl
importing_alone importing other = if importing then other else None

abbrev mutual
  pub entry_places : Entry → ℕ
  entry_places (defined t) = defined_places t
  entry_places (function g) = signature_places g
  entry_places (component_type ds) = 1 + decls_places ds
  entry_places (instance_type ds) = 1 + decls_places ds

  pub decl_places : Decl → ℕ
  decl_places (core_type_decl t u) = core_places t
  decl_places (type_decl e) = entry_places e
  decl_places (type_alias count i u) = 3
  decl_places (core_type_alias count i u) = 3
  decl_places (import_decl n u r) = 4
  decl_places (export_decl n u r) = 4

  pub decls_places : Decls → ℕ
  decls_places no_decls = 0
  decls_places (then_decls d ds) = 1 + (decl_places d + decls_places ds)

-- Of a type of components or instances and of an alias, an import or an export in it, the code is before the rest.
abbrev mutual
  pub entry_changed : ℕ → ℕ → Entry → Option Entry
  entry_changed a k (defined t) = option_map defined (defined_changed a k t)
  entry_changed a k (function g) = option_map function (signature_changed a k g)
  entry_changed a k (component_type ds) =
      first_or (without_imports ds (only a (instance_type ds))) (λ j. option_map component_type (decls_changed true a j ds)) k
  entry_changed a k (instance_type ds) =
      first_or (only a (component_type ds)) (λ j. option_map instance_type (decls_changed false a j ds)) k

  -- a declaration of a component type (true), or of an instance type (false)
  pub decl_changed : Bool → ℕ → ℕ → Decl → Option Decl
  decl_changed importing a k (core_type_decl t u) = option_map (λ c. core_type_decl c u) (core_changed a k t)
  decl_changed importing a k (type_decl e) = option_map type_decl (entry_changed a k e)
  decl_changed importing a k (type_alias count i u) =
      first_or (only a (core_type_alias count i u)) (λ j. option_map (λ o. type_alias o.0 o.1 u) (outer_changed a j (count, i))) k
  decl_changed importing a k (core_type_alias count i u) =
      first_or (only a (type_alias count i u)) (λ j. option_map (λ o. core_type_alias o.0 o.1 u) (outer_changed a j (count, i))) k
  decl_changed importing a k (import_decl n u r) =
      first_or (importing_alone importing (only a (export_decl n u r))) (λ j. option_map (λ e. import_decl e.0 u e.1) (extern_changed a j (n, r))) k
  decl_changed importing a k (export_decl n u r) =
      first_or (importing_alone importing (only a (import_decl n u r))) (λ j. option_map (λ e. export_decl e.0 u e.1) (extern_changed a j (n, r))) k

  pub decls_changed : Bool → ℕ → ℕ → Decls → Option Decls
  decls_changed importing a k no_decls = None
  decls_changed importing a k (then_decls d ds) =
      first_or (option_map in_order (entry_alternative decl_again a (d ∷ decl_list ds)))
      (in_turn (decl_places d) (λ j. option_map (λ e. then_decls e ds) (decl_changed importing a j d))
      (λ j. option_map (λ es. then_decls d es) (decls_changed importing a j ds))) k
