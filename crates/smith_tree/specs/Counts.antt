-- How many entries there are in a component, a component type or an instance type, by their sort: bounds of wasmparser's own.
use Rattle.std.specs.Prelude.{ℕ, ◌+◌, ◌≤◌}
use Rattle.smith_syntax.specs.declared.deftype.ComponentTypeRef.{ComponentTypeRef}
use Rattle.smith_syntax.specs.declared.deftype.ComponentTypeRef.TheVariants as to

-- types and core types, component and core functions, modules, components, instances, imports and exports
pub record Counts : Type 0 where
  pub types : ℕ
  pub functions : ℕ
  pub modules : ℕ
  pub components : ℕ
  pub instances : ℕ
  pub imports : ℕ
  pub exports : ℕ

pub record ValidCounts (c : Counts) : Type 0 where
  pub types : c.types ≤ 1000000
  pub functions : c.functions ≤ 1000000
  pub modules : c.modules ≤ 1000
  pub components : c.components ≤ 1000
  pub instances : c.instances ≤ 1000
  pub imports : c.imports ≤ 1000000
  pub exports : c.exports ≤ 1000000

abbrev pub no_counts : Counts
no_counts = record { types = 0; functions = 0; modules = 0; components = 0; instances = 0; imports = 0; exports = 0 }

-- with that many more types, functions, modules or components

abbrev pub with_type_count : Counts → ℕ → Counts
with_type_count c n = record c { types = c.types + n }

abbrev pub with_function : Counts → Counts
with_function c = record c { functions = c.functions + 1 }

abbrev pub with_module : Counts → Counts
with_module c = record c { modules = c.modules + 1 }

abbrev pub with_component : Counts → Counts
with_component c = record c { components = c.components + 1 }

-- with what else is imported or exported
abbrev pub with_reference : Counts → ComponentTypeRef → Counts
with_reference c (to.Module i) = with_module c
with_reference c (to.Func i) = with_function c
with_reference c (to.TypeEq i) = c
with_reference c (to.Component i) = with_component c
with_reference c (to.Instance i) = record c { instances = c.instances + 1 }

abbrev pub with_import : Counts → ComponentTypeRef → Counts
with_import c r = with_reference (record c { imports = c.imports + 1 }) r

abbrev pub with_export : Counts → ComponentTypeRef → Counts
with_export c r = with_reference (record c { exports = c.exports + 1 }) r
