-- How much fuel a type takes, how much it needs to be read at all, and how deep types are declared in it.
use Rattle.std.specs.Prelude.{ℕ, suc, zero, ◌+◌, max}
use Rattle.smith_tree.specs.CoreTypeNeeds.{core_cost, core_need}
use Rattle.smith_syntax.specs.Entries.{Entry, defined, function, component_type, instance_type}
use Rattle.smith_syntax.specs.Entries.{Decl, Decls, core_type_decl, type_decl, no_decls, then_decls}
use Rattle.smith_syntax.specs.WellFormed.{size, defined_size}

-- How much fuel a type takes: one for itself, and one for each turn of its loops. What is in it takes its own.
abbrev mutual
  pub cost : Entry → ℕ
  cost (defined t) = defined_size t + 1
  cost (function s) = size (function s) + 1
  cost (component_type ds) = decls_cost ds + 1
  cost (instance_type ds) = decls_cost ds + 1

  pub decl_cost : Decl → ℕ
  decl_cost (core_type_decl t k) = core_cost t
  decl_cost (type_decl e) = cost e
  decl_cost _ = 0

  pub decls_cost : Decls → ℕ
  decls_cost no_decls = 0
  decls_cost (then_decls d ds) = decl_cost d + decls_cost ds + 1

-- A type of values without members needs none: if the fuel does not last, a type is a type of values.
abbrev pub need_of : ℕ → ℕ
need_of zero = 0
need_of (suc n) = suc n + 2

abbrev mutual
  pub need : Entry → ℕ
  need (defined t) = need_of (defined_size t)
  need (function s) = size (function s) + 2
  need (component_type ds) = max 2 (decls_need ds + 1)
  need (instance_type ds) = max 2 (decls_need ds + 1)

  pub decl_need : Decl → ℕ
  decl_need (core_type_decl t k) = core_need t
  decl_need (type_decl e) = need e
  decl_need _ = 0

  -- A turn needs two, what it declares one less than there is, and the later ones what that leaves.
  pub decls_need : Decls → ℕ
  decls_need no_decls = 0
  decls_need (then_decls d ds) = max 2 (max (decl_need d + 1) (decls_need ds + decl_cost d + 1))

-- How deep a type's declared types are below the innermost scope: each is one below the scope in which it is declared.
abbrev mutual
  pub declaring : Entry → ℕ
  declaring (defined t) = 0
  declaring (function s) = 0
  declaring (component_type ds) = decls_declaring ds
  declaring (instance_type ds) = decls_declaring ds

  pub decl_declaring : Decl → ℕ
  decl_declaring (type_decl e) = max 2 (declaring e + 1)
  decl_declaring _ = 0

  pub decls_declaring : Decls → ℕ
  decls_declaring no_decls = 0
  decls_declaring (then_decls d ds) = max (decl_declaring d) (decls_declaring ds)
