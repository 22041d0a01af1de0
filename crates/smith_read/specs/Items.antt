-- The items of a component, in order: each custom section, each core module, that a component begins, and each entry of a section that is a
-- list. Those of a component follow its beginning.
use Rattle.std.specs.Prelude.{ℕ, zero, suc, ◌+◌, ◌-◌, List, [], ◌∷◌, length, take, nat_lt, if◌then◌else◌}
use Rattle.smith_tree.specs.Tree.{Part, Tree, canons, component, core_module, core_types, custom, ends, exports, first, imports, tree_of, types}

-- how many there are
abbrev mutual
  pub items : Tree → ℕ
  items ends = 0
  items (first p t) = items_in p + items t

  pub items_in : Part → ℕ
  items_in (custom name contents) = 1
  items_in (core_module text) = 1
  items_in (core_types ts) = length ts
  items_in (component t) = suc (items t)
  items_in (types ts) = length ts
  items_in (canons fs) = length fs
  items_in (imports is) = length is
  items_in (exports es) = length es

-- A component with that many of its items, and the part that holds the last of them.
abbrev mutual
  pub upto : ℕ → Tree → Tree
  upto n ends = ends
  upto n (first p t) = if nat_lt n (items_in p) then tree_of (cut n p) else first p (upto (n - items_in p) t)

  pub cut : ℕ → Part → List Part
  cut n (custom name contents) = take n (custom name contents ∷ [])
  cut n (core_module text) = take n (core_module text ∷ [])
  cut n (core_types ts) = core_types (take n ts) ∷ []
  cut zero (component t) = []
  cut (suc n) (component t) = component (upto n t) ∷ []
  cut n (types ts) = types (take n ts) ∷ []
  cut n (canons fs) = canons (take n fs) ∷ []
  cut n (imports is) = imports (take n is) ∷ []
  cut n (exports es) = exports (take n es) ∷ []

-- It holds of what precedes that item, and not of what ends with it.
abbrev pub IsFirst : (ℕ → Type 0) → ℕ → Type 0
IsFirst P item = P item × (¬ P (item + 1))

-- The component has the property as far as that item, and not with it.
abbrev pub StopsAt : (Tree → Type 0) → ℕ → Tree → Type 0
StopsAt P item t = IsFirst (λ n. P (upto n t)) item
