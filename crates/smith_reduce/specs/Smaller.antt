-- The components that are smaller than one by a step, and the ones of them that are wanted.
use Rattle.std.specs.Prelude.{◌≡◌, ℕ, ◌+◌, ◌-◌, ◌≤◌, ◌<◌, List, Option, None, Some, nat_lt, if◌then◌else◌}
use Rattle.smith_format.specs.declared.config.Config.{Config}
use Rattle.smith_tree.specs.Grammar.{Spells}
use Rattle.smith_tree.specs.Tree.{Tree}
use Rattle.smith_edit.specs.Edits.{without}
use Rattle.smith_edit.specs.Items.{tree_items}
use Rattle.smith_edit.specs.Simpler.{simplified}
use Rattle.smith_script.specs.IsScript.{IsScript}

-- The steps of a component: as many remove an item each, and then as many make one simpler, if they can.
abbrev pub steps : Tree → ℕ
steps t = tree_items t + tree_items t

abbrev pub stepped : ℕ → Tree → Option Tree
stepped n t = if nat_lt n (tree_items t) then without n t else simplified (n - tree_items t) t

-- The step leads to a component that has the property, and these are its bytes.
pub record LeadsTo (P : Tree → Type 0) (t : Tree) (n : ℕ) (bytes : List ℕ) : Type 0 where
  pub smaller : Tree
  pub is : stepped n t ≡ Some smaller
  pub spelled : Spells smaller bytes
  pub has : P smaller

abbrev pub Leads : (Tree → Type 0) → Tree → ℕ → Type 0
Leads P t n = (bytes : List ℕ) × LeadsTo P t n bytes

-- Of the numbers below the first, as many as the second says have the property.
pub data HowMany (P : ℕ → Type 0) : ℕ → ℕ → Type 0 where
  nothing : HowMany P 0 0
  counted : {n c : ℕ} → P n → HowMany P n c → HowMany P (n + 1) (c + 1)
  passed : {n c : ℕ} → (¬ P n) → HowMany P n c → HowMany P (n + 1) c

-- The bytes are a component's that has the property, to which a step leads that has k before it that lead to one. There are none if no more
-- than k steps lead to one.
abbrev pub IsKth : (Tree → Type 0) → Tree → ℕ → Option (List ℕ) → Type 0
IsKth P t k (Some bytes) = (n : ℕ) × LeadsTo P t n bytes × HowMany (Leads P t) n k
IsKth P t k None = (c : ℕ) × (c ≤ k) × HowMany (Leads P t) (steps t) c

-- This is the first step from that number on that leads to a component that has the property, by its number, and these are the component's
-- bytes. There is none if no step from there on leads to one.
abbrev pub IsNext : (Tree → Type 0) → Tree → ℕ → Option (ℕ × List ℕ) → Type 0
IsNext P t from (Some step) = (from ≤ step.0) × LeadsTo P t step.0 step.1 × ((n : ℕ) → from ≤ n → n < step.0 → ¬ Leads P t n)
IsNext P t from None = (n : ℕ) → from ≤ n → ¬ Leads P t n

-- The component has a script within the limits.
abbrev pub HasScript : Config → Tree → Type 0
HasScript config t = (script : List ℕ) × IsScript config t script
