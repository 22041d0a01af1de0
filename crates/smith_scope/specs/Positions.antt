-- The positions of the entries of each kind.
use Rattle.std.specs.Prelude.{ℕ, List, [], ◌∷◌, ◌++◌, map}
use Rattle.smith_syntax.specs.Entries.{Entry, CoreEntry, defined, function, component_type, instance_type, core_func, core_module}
use Rattle.smith_syntax.specs.Marked.{Marked, MarkedOf}
use Rattle.smith_syntax.specs.Places.{places, is_core_func}
use Rattle.smith_syntax.specs.Scope.{Scope, ScopeOf, is_defined, is_func, is_component, is_instance, is_core_module}
use Rattle.smith_scope.specs.declared.kinds.Kind.{Kind}
use Rattle.smith_scope.specs.declared.kinds.Kind.TheVariants as kind

-- the kind of a type, and of a core type

abbrev pub kind_of : Entry → Kind
kind_of (defined t) = kind.Defined
kind_of (function s) = kind.Func
kind_of (component_type ds) = kind.Component
kind_of (instance_type ds) = kind.Instance

abbrev pub core_kind_of : CoreEntry → Kind
core_kind_of (core_func f) = kind.CoreFunc
core_kind_of (core_module ds) = kind.CoreModule

-- the indexes of the entries of a kind, ascending
abbrev pub kind_places : Kind → Scope → List ℕ
kind_places kind.Defined s = places is_defined 0 s.types
kind_places kind.Func s = places is_func 0 s.types
kind_places kind.Component s = places is_component 0 s.types
kind_places kind.Instance s = places is_instance 0 s.types
kind_places kind.CoreFunc s = places is_core_func 0 s.core_types
kind_places kind.CoreModule s = places is_core_module 0 s.core_types

-- the indexes of each kind
pub record ByKind : Type 0 where
  pub defined : List ℕ
  pub funcs : List ℕ
  pub components : List ℕ
  pub instances : List ℕ
  pub core_funcs : List ℕ
  pub core_modules : List ℕ

abbrev pub none_by_kind : ByKind
none_by_kind = record { defined = []; funcs = []; components = []; instances = []; core_funcs = []; core_modules = [] }

-- the indexes of one kind
abbrev pub of_kind : Kind → ByKind → List ℕ
of_kind kind.Defined p = p.defined
of_kind kind.Func p = p.funcs
of_kind kind.Component p = p.components
of_kind kind.Instance p = p.instances
of_kind kind.CoreFunc p = p.core_funcs
of_kind kind.CoreModule p = p.core_modules

-- with one more of a kind
abbrev pub with_place : ByKind → Kind → ℕ → ByKind
with_place p kind.Defined i = record p { defined = p.defined ++ i ∷ [] }
with_place p kind.Func i = record p { funcs = p.funcs ++ i ∷ [] }
with_place p kind.Component i = record p { components = p.components ++ i ∷ [] }
with_place p kind.Instance i = record p { instances = p.instances ++ i ∷ [] }
with_place p kind.CoreFunc i = record p { core_funcs = p.core_funcs ++ i ∷ [] }
with_place p kind.CoreModule i = record p { core_modules = p.core_modules ++ i ∷ [] }

-- the indexes of a scope
abbrev pub by_kind : Scope → ByKind
by_kind s = record {
  defined = kind_places kind.Defined s;
  funcs = kind_places kind.Func s;
  components = kind_places kind.Component s;
  instances = kind_places kind.Instance s;
  core_funcs = kind_places kind.CoreFunc s;
  core_modules = kind_places kind.CoreModule s;
}

-- Scopes as plain trees, given what types and core types show.
module _ {T C : Type 0} (plain : T → Entry) (core_plain : C → CoreEntry) where
  abbrev pub plain_scope : ScopeOf T C → Scope
  plain_scope s = record { types = map plain s.types; core_types = map core_plain s.core_types }

  -- the same with what is kept of them
  abbrev pub plain_marked : MarkedOf T C → Marked
  plain_marked s = record {
    types = map plain s.types;
    core_types = map core_plain s.core_types;
    keeps = s.keeps;
    marks = s.marks;
    core_sizes = s.core_sizes;
    exported = s.exported;
    size = s.size;
  }
