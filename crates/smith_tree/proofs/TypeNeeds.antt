-- What types need of fuel and what they take of it, how large they are, and where they may be declared.
use Rattle.std.proofs.Common.{ℕ, zero, suc, ◌+◌, ◌≤◌, [], ◌∷◌, arith}
use Rattle.std.specs.Prelude.{◌<◌, max}
use Rattle.smith_format.specs.declared.config.Config.{Config}
use Rattle.smith_syntax.specs.Entries.{Entry, Decl, Decls, type_alias, core_type_alias, import_decl, export_decl, no_decls, then_decls}
use Rattle.smith_syntax.specs.Entries.{CoreEntry, core_func, core_module, defined, function, component_type, instance_type, type_decl, core_type_decl}
use Rattle.smith_syntax.specs.WellFormed.{size, decl_size, decls_size, defined_size, core_size}
use Rattle.smith_tree.specs.CoreTypeNeeds.{core_cost, core_need}
use Rattle.smith_tree.specs.TypeNeeds.{need_of, need, decl_need, decls_need, declaring, decl_declaring, decls_declaring}
use Rattle.smith_tree.specs.TypeNeeds.{cost, decl_cost, decls_cost}

-- what a type takes it needs, unless it needs none

core_costs : (e : CoreEntry) → core_cost e ≤ max 1 (core_need e)
core_costs (core_func f) = omega arith
core_costs (core_module []) = omega arith
core_costs (core_module (d ∷ ds)) = by (core_size (core_module (d ∷ ds)))
  where
    by : (n : ℕ) → n + 1 ≤ max 1 (n + 2)
    by n = omega arith

defined_costs : (n : ℕ) → n + 1 ≤ max 1 (need_of n)
defined_costs zero = omega arith
defined_costs (suc n) = omega arith

function_costs : (n : ℕ) → n + 1 ≤ max 1 (n + 2)
function_costs n = omega arith

scoped_costs : (n m : ℕ) → n ≤ m → n + 1 ≤ max 1 (max 2 (m + 1))
scoped_costs n m h = omega (arith, h)

turn_costs : (n m c d : ℕ) → n ≤ m → c + n + 1 ≤ max 2 (max (d + 1) (m + c + 1))
turn_costs n m c d h = omega (arith, h)

mutual
  costs : (e : Entry) → cost e ≤ max 1 (need e)
  costs (defined t) = defined_costs (defined_size t)
  costs (function s) = function_costs (size (function s))
  costs (component_type ds) = scoped_costs (decls_cost ds) (decls_need ds) (decls_costs ds)
  costs (instance_type ds) = scoped_costs (decls_cost ds) (decls_need ds) (decls_costs ds)

  pub decl_costs : (d : Decl) → decl_cost d ≤ max 1 (decl_need d)
  decl_costs (core_type_decl t k) = core_costs t
  decl_costs (type_decl e) = costs e
  decl_costs _ = omega arith

  decls_costs : (ds : Decls) → decls_cost ds ≤ decls_need ds
  decls_costs no_decls = omega arith
  decls_costs (then_decls d ds) = turn_costs (decls_cost ds) (decls_need ds) (decl_cost d) (decl_need d) (decls_costs ds)

-- what a type takes is no less than its size

pub core_sizes : (e : CoreEntry) → core_size e ≤ core_need e
core_sizes (core_func f) = omega arith
core_sizes (core_module []) = omega arith
core_sizes (core_module (d ∷ ds)) = omega arith

mutual
  sizes : (e : Entry) → size e ≤ cost e
  sizes (defined t) = omega arith
  sizes (function s) = omega arith
  sizes (component_type ds) = omega (arith, decls_sizes ds)
  sizes (instance_type ds) = omega (arith, decls_sizes ds)

  decl_sizes : (d : Decl) → decl_size d ≤ decl_cost d
  decl_sizes (type_decl e) = sizes e
  decl_sizes _ = omega arith

  decls_sizes : (ds : Decls) → decls_size ds ≤ decls_cost ds
  decls_sizes no_decls = omega arith
  decls_sizes (then_decls d ds) = omega (arith, decl_sizes d, decls_sizes ds)

need_of_size : (n : ℕ) → n ≤ need_of n
need_of_size zero = omega arith
need_of_size (suc n) = omega arith

pub type_sizes : (e : Entry) → size e ≤ need e
type_sizes (defined t) = need_of_size (defined_size t)
type_sizes (function s) = omega arith
type_sizes (component_type ds) = omega (arith, decls_sizes ds, decls_costs ds)
type_sizes (instance_type ds) = omega (arith, decls_sizes ds, decls_costs ds)

-- If that many scopes are on the stack, a type is declared in a type only if one more may nest.
abbrev mutual
  pub Nests : Entry → Config → ℕ → Type 0
  Nests (defined t) config scopes = Unit {0}
  Nests (function s) config scopes = Unit {0}
  Nests (component_type ds) config scopes = DeclsNest ds config (suc scopes)
  Nests (instance_type ds) config scopes = DeclsNest ds config (suc scopes)

  pub DeclNests : Decl → Config → ℕ → Type 0
  DeclNests (core_type_decl t k) config scopes = Unit {0}
  DeclNests (type_decl e) config scopes = (scopes < config.max_nesting_depth) × Nests e config scopes
  DeclNests (type_alias count i k) config scopes = Unit {0}
  DeclNests (core_type_alias count i k) config scopes = Unit {0}
  DeclNests (import_decl name n r) config scopes = Unit {0}
  DeclNests (export_decl name n r) config scopes = Unit {0}

  pub DeclsNest : Decls → Config → ℕ → Type 0
  DeclsNest no_decls config scopes = Unit {0}
  DeclsNest (then_decls d ds) config scopes = DeclNests d config scopes × DeclsNest ds config scopes

-- the same by how deep they are declared

mutual
  pub declared_within : (e : Entry) (config : Config) (scopes : ℕ) → Nests e config scopes → scopes + declaring e ≤ max scopes config.max_nesting_depth
  declared_within (defined t) config scopes n = omega arith
  declared_within (function s) config scopes n = omega arith
  declared_within (component_type ds) config scopes n = decls_within ds config scopes n
  declared_within (instance_type ds) config scopes n = decls_within ds config scopes n

  decl_within : (d : Decl) (config : Config) (scopes : ℕ) → DeclNests d config (suc scopes)
      → scopes + decl_declaring d ≤ max scopes config.max_nesting_depth
  decl_within (type_decl e) config scopes n = omega (arith, n.0, declared_within e config (suc scopes) n.1)
  decl_within _ config scopes n = omega arith

  decls_within : (ds : Decls) (config : Config) (scopes : ℕ) → DeclsNest ds config (suc scopes)
      → scopes + decls_declaring ds ≤ max scopes config.max_nesting_depth
  decls_within no_decls config scopes n = omega arith
  decls_within (then_decls d ds) config scopes n = omega (arith, decl_within d config scopes n.0, decls_within ds config scopes n.1)

mutual
  pub nests_within : (e : Entry) (config : Config) (scopes : ℕ) → scopes + declaring e ≤ max scopes config.max_nesting_depth → Nests e config scopes
  nests_within (defined t) config scopes h = tt
  nests_within (function s) config scopes h = tt
  nests_within (component_type ds) config scopes h = decls_nest ds config scopes h
  nests_within (instance_type ds) config scopes h = decls_nest ds config scopes h

  decl_nests : (d : Decl) (config : Config) (scopes : ℕ) → scopes + decl_declaring d ≤ max scopes config.max_nesting_depth
      → DeclNests d config (suc scopes)
  decl_nests (type_decl e) config scopes h = (omega (arith, h), nests_within e config (suc scopes) (omega (arith, h)))
  decl_nests _ config scopes h = tt

  decls_nest : (ds : Decls) (config : Config) (scopes : ℕ) → scopes + decls_declaring ds ≤ max scopes config.max_nesting_depth
      → DeclsNest ds config (suc scopes)
  decls_nest no_decls config scopes h = tt
  decls_nest (then_decls d ds) config scopes h = (decl_nests d config scopes (omega (arith, h)), decls_nest ds config scopes (omega (arith, h)))
