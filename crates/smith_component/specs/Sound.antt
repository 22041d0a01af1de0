-- What is true of a builder at every moment, and which parts keep it true.
use Rattle.std.specs.Prelude.{◌≡◌, ◌+◌, ◌≤◌, List, [], ◌∷◌, ◌++◌, length}
use Rattle.std.specs.List.{AllByRecursion, flat_map}
use Rattle.smith_format.specs.Consistency.{IsConsistent}
use Rattle.smith_format.specs.declared.config.Config.{Config}
use Rattle.smith_syntax.specs.Marked.{Marked}
use Rattle.smith_tree.specs.Marking.{marked_after_part, marked_in, marked_inner}
use Rattle.smith_tree.specs.Offered.{IsOffered}
use Rattle.smith_tree.specs.Readable.{IsReadable}
use Rattle.smith_tree.specs.Limits.{max_depth, OwnLimits, OwnSizes, Maxima, Minima, Sized}
use Rattle.smith_tree.specs.Open.{Open, tree_so_far, scopes_in}
use Rattle.smith_tree.specs.Spaces.{Spaces, after_part}
use Rattle.smith_tree.specs.Tree.{Tree, Part, add, inside, module_count, component_count, instance_count, imports_in, modules_in, imported_modules_in}
use Rattle.smith_tree.specs.Tree.{imported_components_in, imported_instances_in, anywhere_in, canons_in, components_in, exports_in}
use Rattle.smith_tree.specs.Depths.{depth_in, declared_depth_in}
use Rattle.smith_tree.specs.WellFormed.{WellFormed, FormedPart}
use Rattle.smith_component.specs.declared.builder.totals.TreeTotals.{TreeTotals}

-- the components that are finished
abbrev pub finished_in : Open → List Tree
finished_in stack = flat_map inside stack.outer ++ inside stack.inner

-- The config was accepted, and the tree so far is well formed and has at most what it may have. The components that are finished have
-- what they must have.
pub record Sound (config : Config) (stack : Open) : Type 0 where
  pub consistent : IsConsistent config
  pub formed : WellFormed (tree_so_far stack.outer stack.inner)
  pub maxima : Maxima config (tree_so_far stack.outer stack.inner)
  pub minima : AllByRecursion (Minima config) (finished_in stack)
  pub sized : Sized config (tree_so_far stack.outer stack.inner)

-- What is open was made from an input: each component can be read as far as it is, and all that the tree so far uses was offered.
pub record IsReadSoFar (config : Config) (stack : Open) : Type 0 where
  pub readable : AllByRecursion (IsReadable config) (stack.inner ∷ stack.outer)
  pub offered : IsOffered config (tree_so_far stack.outer stack.inner)

-- The running totals are the totals of the tree so far.
pub record Totalled (totals : TreeTotals) (stack : Open) : Type 0 where
  pub modules : totals.modules ≡ module_count (tree_so_far stack.outer stack.inner)
  pub components : totals.components ≡ component_count (tree_so_far stack.outer stack.inner)
  pub instances : totals.instances ≡ instance_count (tree_so_far stack.outer stack.inner)

-- The running totals are the totals of the tree so far, and the scopes are the open components' too.
pub record TracksStack (config : Config) (scopes : List Marked) (totals : TreeTotals) (stack : Open) : Type 0 where
  pub sound : Sound config stack
  pub scopes_are : scopes ≡ marked_inner config stack.outer stack.inner ∷ marked_in config stack.outer
  pub totalled : Totalled totals stack

-- A part that may be added to the inner component: it is well formed there, not a component, and within the limits if what is there
-- is.
pub record IsAddable (config : Config) (stack : Open) (p : Part) : Type 0 where
  pub formed : FormedPart p (scopes_in stack.outer) stack.inner
  pub own : OwnLimits config stack.inner → OwnLimits config (add stack.inner p)
  pub sizes : OwnSizes config stack.inner → OwnSizes config (add stack.inner p)
  pub modules :
      module_count (tree_so_far stack.outer stack.inner) ≤ config.max_modules
      → module_count (tree_so_far stack.outer stack.inner) + (length (modules_in p) + length (imported_modules_in p)) ≤ config.max_modules
  pub components :
      component_count (tree_so_far stack.outer stack.inner) ≤ config.max_components
      → component_count (tree_so_far stack.outer stack.inner) + length (imported_components_in p) ≤ config.max_components
  pub instances :
      instance_count (tree_so_far stack.outer stack.inner) ≤ config.max_instances
      → instance_count (tree_so_far stack.outer stack.inner) + length (imported_instances_in p) ≤ config.max_instances
  pub no_component : anywhere_in components_in p ≡ []
  pub flat : depth_in p ≡ 1
  pub declared : length stack.outer + 1 ≤ max_depth config → length stack.outer + declared_depth_in p ≤ max_depth config

-- A part that leaves the index spaces as they are and what is kept of them, and adds nothing that is counted in its component.
pub record IsQuiet (p : Part) : Type 0 where
  pub spaces : (s : Spaces) → after_part s p ≡ s
  pub marked : (s : Spaces) (outer : List Marked) (own : Marked) → marked_after_part p s outer own ≡ own
  pub imports : imports_in p ≡ []
  pub canons : canons_in p ≡ []
  pub exports : exports_in p ≡ []
