-- How deep scopes are, and the depths of parts by themselves.
use Rattle.std.specs.Prelude.{ℕ}
use Rattle.smith_syntax.specs.Nesting.{nesting}
use Rattle.smith_tree.specs.Tree.{Tree, Part, depth_by, depth_by_in, most, no_depth}
use Rattle.smith_tree.specs.TypeNeeds.{declaring}

-- how deep scopes are: the scopes of components, and the scopes that component types and instance types open
abbrev pub scope_depth : Tree → ℕ
scope_depth t = depth_by (most nesting) t

abbrev pub scope_depth_in : Part → ℕ
scope_depth_in p = depth_by_in (most nesting) p

-- the depths of a part by itself

abbrev pub depth_in : Part → ℕ
depth_in p = depth_by_in no_depth p

abbrev pub declared_depth_in : Part → ℕ
declared_depth_in p = depth_by_in (most declaring) p
