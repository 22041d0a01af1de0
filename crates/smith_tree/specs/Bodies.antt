-- What is before a place in a component, a component type or an instance type, and what each entry there is.
use Rattle.std.specs.Prelude.{ℕ, ◌+◌, ◌<◌, length, false, List, [], ◌∷◌, ◌++◌, map, None, Option, Some, slice_get, get_or}
use Rattle.std.specs.List.{flat_map}
use Rattle.std.specs.Option.{option_to_list}
use Rattle.smith_syntax.specs.Entries.{Entry, defined, function, component_type, instance_type, CoreEntry, core_func, core_module}
use Rattle.smith_syntax.specs.Entries.{Decl, Decls, core_type_decl, type_decl, type_alias, core_type_alias, import_decl, export_decl, no_decls, then_decls}
use Rattle.smith_syntax.specs.Scope.{empty_scope, with_core_types, with_types}
use Rattle.smith_syntax.specs.declared.deftype.ComponentTypeRef.{ComponentTypeRef}
use Rattle.smith_syntax.specs.declared.deftype.ComponentTypeRef.TheVariants as to
use Rattle.smith_tree.specs.Counts.{Counts, ValidCounts, no_counts, with_export, with_import, with_type_count}
use Rattle.smith_tree.specs.Demands.{Demands, Keeps}
use Rattle.smith_tree.specs.Facts.{CoreFacts, Extern, FactScope, Facts, Id, id_at, is_nominal, members, sizes, value_needs}
use Rattle.smith_tree.specs.Sizes.{core_size, defined_size, signature_members, signature_size, size_bound}

-- The types, what is imported and what is exported, each in order, the effective size, and how many entries there are.
pub record Body : Type 0 where
  pub own : FactScope
  pub imports : List Extern
  pub exports : List Extern
  pub size : ℕ
  pub counts : Counts

abbrev pub empty_body : Body
empty_body = record { own = empty_scope; imports = []; exports = []; size = 1; counts = no_counts }

-- It is below the bounds that are asked.
abbrev pub IsSmall : Demands → Body → Type 0
IsSmall d b = Keeps d.sizes (b.size < size_bound) × Keeps d.counts (ValidCounts b.counts)

-- with more types and core types
abbrev pub with_facts : Body → List Facts → Body
with_facts b fs = record b { own = with_types b.own fs; counts = with_type_count b.counts (length fs) }

abbrev pub with_core_facts : Body → List CoreFacts → Body
with_core_facts b fs = record b { own = with_core_types b.own fs; counts = with_type_count b.counts (length fs) }

-- what is in the scope of that count, innermost first
abbrev pub named_in : {A : Type 0} → (FactScope → List A) → List FactScope → ℕ → ℕ → Option A
named_in of scopes count i = elim (slice_get scopes count) [ None ↦ None | Some s ↦ slice_get (of s) i ]

abbrev pub core_facts : CoreEntry → FactScope → CoreFacts
core_facts e own = record { entry = e; size = core_size (map (λ f. f.entry) own.core_types) e }

-- the size of a module type
abbrev pub module_size_of : CoreFacts → ℕ
module_size_of f = elim f.entry [ core_func g ↦ 0 | core_module ds ↦ f.size ]

abbrev pub module_size_at : List CoreFacts → ℕ → ℕ
module_size_at core_types i = elim (slice_get core_types i) [ None ↦ 0 | Some f ↦ module_size_of f ]

-- the size of what is imported or exported, among core types and types of these sizes
abbrev pub reference_size : List CoreFacts → List ℕ → ComponentTypeRef → ℕ
reference_size core_types types (to.Module i) = module_size_at core_types i
reference_size core_types types (to.Func i) = get_or types i 0
reference_size core_types types (to.TypeEq i) = get_or types i 0
reference_size core_types types (to.Component i) = get_or types i 0
reference_size core_types types (to.Instance i) = get_or types i 0

-- A type that is equal to another is a type of its own, and is what the other is.
abbrev pub equal_facts : Id → Facts → Facts
equal_facts id f = record f { id = id }

abbrev pub equal_extern : Id → Facts → Extern
equal_extern id f = record { refers = f.refers; names = id ∷ [] }

abbrev pub function_extern : Facts → Extern
function_extern f = record { refers = f.refers; names = [] }

-- What is imported or exported: a function; a type, which is named here; each export of an instance. Modules and components refer to
-- nothing.
abbrev pub externs_at : FactScope → List FactScope → ComponentTypeRef → List Extern
externs_at own outer (to.Module i) = []
externs_at own outer (to.Func i) = map function_extern (option_to_list (slice_get own.types i))
externs_at own outer (to.TypeEq i) = map (equal_extern (id_at (own ∷ outer))) (option_to_list (slice_get own.types i))
externs_at own outer (to.Component i) = []
externs_at own outer (to.Instance i) = flat_map (λ f. f.exports) (option_to_list (slice_get own.types i))

-- the type that an export adds
abbrev pub exported_facts : FactScope → List FactScope → ComponentTypeRef → List Facts
exported_facts own outer (to.TypeEq i) = map (equal_facts (id_at (own ∷ outer))) (option_to_list (slice_get own.types i))
exported_facts own outer _ = []

-- after an import or an export
abbrev pub after_import : List FactScope → Body → ComponentTypeRef → Body
after_import outer b r = record b {
  imports = b.imports ++ externs_at b.own outer r;
  size = b.size + reference_size b.own.core_types (sizes b.own.types) r;
  counts = with_import b.counts r;
}

abbrev pub after_export : List FactScope → Body → ComponentTypeRef → Body
after_export outer b r = with_facts
    (record b {
      exports = b.exports ++ externs_at b.own outer r;
      size = b.size + reference_size b.own.core_types (sizes b.own.types) r;
      counts = with_export b.counts r;
    })
    (exported_facts b.own outer r)

-- A type at its declaration, in its own scope and the scopes around it, innermost first.
abbrev mutual
  pub facts : Entry → FactScope → List FactScope → Facts
  facts (defined t) own outer = record {
    id = id_at (own ∷ outer);
    nominal = is_nominal t;
    refers = flat_map (value_needs own.types) (members t);
    size = defined_size (sizes own.types) t;
    exports = [];
  }
  facts (function s) own outer = record {
    id = id_at (own ∷ outer);
    nominal = false;
    refers = flat_map (value_needs own.types) (signature_members s);
    size = signature_size (sizes own.types) s;
    exports = [];
  }
  facts (component_type ds) own outer = record {
    id = id_at (own ∷ outer);
    nominal = false;
    refers = [];
    size = (after_decls ds (own ∷ outer) empty_body).size;
    exports = [];
  }
  facts (instance_type ds) own outer = record {
    id = id_at (own ∷ outer);
    nominal = false;
    refers = flat_map (λ x. x.refers) (after_decls ds (own ∷ outer) empty_body).exports;
    size = (after_decls ds (own ∷ outer) empty_body).size;
    exports = (after_decls ds (own ∷ outer) empty_body).exports;
  }

  pub after_decl : Decl → List FactScope → Body → Body
  after_decl (core_type_decl t k) outer b = with_core_facts b (core_facts t b.own ∷ [])
  after_decl (type_decl e) outer b = with_facts b (facts e b.own outer ∷ [])
  after_decl (type_alias count i k) outer b = with_facts b (option_to_list (named_in (λ s. s.types) (b.own ∷ outer) count i))
  after_decl (core_type_alias count i k) outer b = with_core_facts b (option_to_list (named_in (λ s. s.core_types) (b.own ∷ outer) count i))
  after_decl (import_decl name n r) outer b = after_import outer b r
  after_decl (export_decl name n r) outer b = after_export outer b r

  pub after_decls : Decls → List FactScope → Body → Body
  after_decls no_decls outer b = b
  after_decls (then_decls d ds) outer b = after_decls ds outer (after_decl d outer b)
