-- How much fuel is enough: no more than two beyond what is taken.
use Rattle.std.proofs.Common.{ℕ, zero, suc, ◌+◌, ◌≤◌, [], ◌∷◌, arith}
use Rattle.smith_syntax.specs.Entries.{CoreEntry, Decl, Decls, Entry, component_type, core_func, core_module, core_type_alias, core_type_decl, defined}
use Rattle.smith_syntax.specs.Entries.{export_decl, function, import_decl, instance_type, no_decls, then_decls, type_alias, type_decl}
use Rattle.smith_syntax.specs.WellFormed.{core_size, defined_size}
use Rattle.smith_tree.specs.CoreTypeNeeds.{core_need}
use Rattle.smith_tree.specs.TypeNeeds.{cost, decl_cost, decl_need, decls_cost, decls_need, need, need_of}

pub core_needed : (t : CoreEntry) → core_need t ≤ core_size t + 2
core_needed (core_func f) = omega arith
core_needed (core_module []) = omega arith
core_needed (core_module (d ∷ ds)) = omega arith

of_members : (n : ℕ) → need_of n ≤ n + 3
of_members zero = omega arith
of_members (suc n) = omega arith

mutual
  pub needed : (e : Entry) → need e ≤ cost e + 2
  needed (defined t) = omega (arith, of_members (defined_size t))
  needed (function s) = omega arith
  needed (component_type ds) = grind (arith, decls_needed ds)
  needed (instance_type ds) = grind (arith, decls_needed ds)

  decl_needed : (d : Decl) → decl_need d ≤ decl_cost d + 2
  decl_needed (core_type_decl t k) = omega (arith, core_needed t)
  decl_needed (type_decl e) = needed e
  decl_needed (type_alias count i k) = omega arith
  decl_needed (core_type_alias count i k) = omega arith
  decl_needed (import_decl name n r) = omega arith
  decl_needed (export_decl name n r) = omega arith

  decls_needed : (ds : Decls) → decls_need ds ≤ decls_cost ds + 2
  decls_needed no_decls = omega arith
  decls_needed (then_decls d ds) = grind (arith, decl_needed d, decls_needed ds)
