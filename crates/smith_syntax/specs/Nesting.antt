-- How many scopes a type opens.
use Rattle.std.specs.Prelude.{ℕ, ◌+◌, max}
use Rattle.smith_syntax.specs.Entries.{Entry, defined, function, component_type, instance_type}
use Rattle.smith_syntax.specs.Entries.{Decl, Decls, type_decl, no_decls, then_decls}

-- How deep the scopes of component types and instance types are in a type.
abbrev mutual
  pub nesting : Entry → ℕ
  nesting (defined t) = 0
  nesting (function s) = 0
  nesting (component_type ds) = decls_nesting ds + 1
  nesting (instance_type ds) = decls_nesting ds + 1

  pub decl_nesting : Decl → ℕ
  decl_nesting (type_decl e) = nesting e
  decl_nesting _ = 0

  pub decls_nesting : Decls → ℕ
  decls_nesting no_decls = 0
  decls_nesting (then_decls d ds) = max (decl_nesting d) (decls_nesting ds)
