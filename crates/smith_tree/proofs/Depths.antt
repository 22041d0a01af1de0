-- How deep scopes are, by how deep types are declared.
use Rattle.std.proofs.Common.{◌+◌, ◌≤◌, List, [], ◌∷◌, arith}
use Rattle.smith_format.specs.declared.config.Config.{Config}
use Rattle.smith_syntax.specs.Entries.{Entry, Decl, Decls, no_decls, then_decls}
use Rattle.smith_syntax.specs.Entries.{defined, function, component_type, instance_type, type_decl}
use Rattle.smith_syntax.specs.Nesting.{nesting, decl_nesting, decls_nesting}
use Rattle.smith_tree.specs.Depths.{scope_depth, scope_depth_in, declared_depth_in}
use Rattle.smith_tree.specs.Limits.{Maxima, max_depth}
use Rattle.smith_tree.specs.Tree.{Tree, Part, ends, first, component, types}
use Rattle.smith_tree.specs.Tree.{declared_depth, most}
use Rattle.smith_tree.specs.TypeNeeds.{declaring, decl_declaring, decls_declaring}

mutual
  nests_below : (e : Entry) → nesting e ≤ declaring e + 1
  nests_below (defined t) = omega arith
  nests_below (function s) = omega arith
  nests_below (component_type ds) = omega (arith, decls_nest_below ds)
  nests_below (instance_type ds) = omega (arith, decls_nest_below ds)

  decl_nests_below : (d : Decl) → decl_nesting d ≤ decl_declaring d
  decl_nests_below (type_decl e) = omega (arith, nests_below e)
  decl_nests_below _ = omega arith

  decls_nest_below : (ds : Decls) → decls_nesting ds ≤ decls_declaring ds
  decls_nest_below no_decls = omega arith
  decls_nest_below (then_decls d ds) = omega (arith, decl_nests_below d, decls_nest_below ds)

most_nests_below : (ts : List Entry) → most nesting ts ≤ most declaring ts + 1
most_nests_below [] = omega arith
most_nests_below (t ∷ ts) = omega (arith, nests_below t, most_nests_below ts)

mutual
  scopes_below : (t : Tree) → scope_depth t ≤ declared_depth t + 1
  scopes_below ends = omega arith
  scopes_below (first p t) = omega (arith, scopes_below_in p, scopes_below t)

  scopes_below_in : (p : Part) → scope_depth_in p ≤ declared_depth_in p + 1
  scopes_below_in (component t) = omega (arith, scopes_below t)
  scopes_below_in (types ts) = omega (arith, most_nests_below ts)
  scopes_below_in _ = omega arith

pub scopes_within : (config : Config) (tree : Tree) → Maxima config tree → scope_depth tree ≤ max_depth config + 1
scopes_within config tree m = omega (arith, scopes_below tree, m.declared)
