-- Turns in a row.
use Rattle.std.specs.Prelude.{◌≡◌, ℕ, ◌+◌, ◌≤◌, ◌<◌, ◌⊎◌, zero, suc, List, [], ◌∷◌, length}
use Rattle.smith_format.specs.declared.config.Config.{Config}
use Rattle.smith_tree.specs.Tree.{Tree}
use Rattle.smith_tree.specs.Limits.{max_depth}
use Rattle.smith_tree.specs.Open.{Open, root}
use Rattle.smith_component.specs.ButLast.{AreFinishableButLast}
use Rattle.smith_component.specs.Turn.{Next, Turn, building, answered}
use Rattle.smith_tree.specs.Readable.{AreFinishable, CanBeGenerated}

-- k such turns in a row
abbrev pub Turns : Config → Next → List ℕ → Next → List ℕ → ℕ → Type 0
Turns config now left next left2 zero = (next ≡ now) × (left2 ≡ left)
Turns config (answered t) left next left2 (suc k) = ⊥
Turns config (building stack) left next left2 (suc k) = (mid : Next) × (left1 : List ℕ) × Turn config stack left mid left1 × Turns config mid left1 next left2 k

-- k turns in a row lead from one empty open component to the answer
abbrev pub Run : Config → List ℕ → Tree → List ℕ → ℕ → Type 0
Run config left c left2 k = Turns config (building root) left (answered c) left2 k

-- Turns in a row lead from the input to the tree and the bytes left, at most as many as the input has bytes and components may
-- nest.
pub record RunsTo (config : Config) (input : List ℕ) (tree : Tree) (left : List ℕ) : Type 0 where
  pub turns : ℕ
  pub few : turns ≤ length input + max_depth config
  pub run : Run config input tree left turns

-- Something is left, or the end of the input changes nothing: the input finished each component.
abbrev pub IsFollowed : Config → List ℕ → Type 0
IsFollowed config left = (config.finish_after ≡ 0) ⊎ (0 < length left)

-- A component that is made of the input: a run leads to it, and it can be generated. If the input did not end in it, each component of it has as
-- many sections as that takes; if it did, each but the ones that may have been open then.
pub record IsMade (config : Config) (input : List ℕ) (tree : Tree) (left : List ℕ) : Type 0 where
  pub run : RunsTo config input tree left
  pub image : CanBeGenerated config tree
  pub finishable : IsFollowed config left → AreFinishable config tree
  pub but_last : AreFinishableButLast config tree

-- what is left to do
abbrev pub todo : Config → List ℕ → Open → ℕ
todo config [] stack = length stack.outer + 1
todo config (x ∷ xs) stack = length (x ∷ xs) + max_depth config

-- a turn that continues lowers it
abbrev pub Falls : Config → List ℕ → Open → List ℕ → Next → Type 0
Falls config left stack left2 (building next) = todo config left2 next + 1 ≤ todo config left stack
Falls config left stack left2 (answered t) = Unit {0}
