-- How far a run has got, and how long it is.
use Rattle.std.proofs.Common.{◌≡◌, ℕ, zero, suc, ◌+◌, ◌≤◌, List, [], ◌∷◌, length, arith, refl, subst}
use Rattle.smith_input.specs.declared.error.Error.{Error}
use Rattle.smith_format.specs.Consistency.{IsConsistent}
use Rattle.smith_format.specs.declared.config.Config.{Config}
use Rattle.smith_tree.specs.Tree.{Tree, no_depth}
use Rattle.smith_component.specs.Turn.{Next, building, answered, Turn, LacksAt, RefusesModuleAt}
use Rattle.smith_component.specs.Runs.{Run, RunsTo, Turns, todo}
use Rattle.smith_tree.specs.Limits.{max_depth}
use Rattle.smith_tree.specs.Open.{Open, root}
use Rattle.smith_component.specs.Sound.{Sound}
use Rattle.smith_component.specs.Refusals.{IsStepRefusal, RunReaches, IsRefusal}
use Rattle.smith_component.proofs.Refusals.{step_refused}
use Rattle.smith_component.proofs.Tree.{depth-outer}
use Rattle.smith_component.proofs.Turn.{turn_falls, turn_shallow}

pub todo_start : (config : Config) (input : List ℕ) → todo config input root ≤ length input + max_depth config
todo_start config [] = omega arith
todo_start config (x ∷ xs) = omega arith

todo_some : (config : Config) (left : List ℕ) (stack : Open) → 1 ≤ todo config left stack
todo_some config [] stack = omega arith
todo_some config (x ∷ xs) stack = omega arith

-- A run has no more turns than there is to do.
turns_few : (k : ℕ) (config : Config) (stack : Open) (left : List ℕ) (c : Tree) (r : List ℕ) → length stack.outer + 1 ≤ max_depth config
    → Turns config (building stack) left (answered c) r k → k ≤ todo config left stack
turns_few zero config stack left c r m t = omega arith
turns_few (suc zero) config stack left c r m t = todo_some config left stack
turns_few (suc (suc k)) config stack left c r m (answered t, left1, one, none) = absurd none
turns_few (suc (suc k)) config stack left c r m (building next, left1, one, more) =
    let later : suc k ≤ todo config left1 next = turns_few (suc k) config next left1 c r (turn_shallow config stack next left left1 m one) more in
    omega (arith, later, turn_falls config stack next left left1 m one)

-- A run from the start is never longer than it may be.
pub runs_to : (config : Config) (input : List ℕ) (c : Tree) (r : List ℕ) (k : ℕ) → Run config input c r k → RunsTo config input c r
runs_to config input c r k t = grind (arith, turns_few, todo_start)

-- No more components are open than may be nested.
pub open_few : (config : Config) (stack : Open) → Sound config stack → length stack.outer + 1 ≤ max_depth config
open_few config stack s = omega (arith, depth-outer no_depth stack.outer stack.inner, s.maxima.depth)

-- From the start these open components and bytes left were reached: what continues from there continues from the start.
pub record Reached (config : Config) (input : List ℕ) (stack : Open) (left : List ℕ) : Type 0 where
  pub onward : (next : Next) (rest : List ℕ) (k : ℕ) → Turns config (building stack) left next rest k → (j : ℕ) × Turns config (building root) input next rest j

pub reached_start : (config : Config) (input : List ℕ) → Reached config input root input
reached_start config input = record { onward = λ next rest k t. (k, t) }

reached_turn : (config : Config) (input : List ℕ) (stack next : Open) (left left2 : List ℕ) → Reached config input stack left
    → Turn config stack left (building next) left2 → Reached config input next left2
reached_turn config input stack next left left2 r t = record { onward = λ n rest k ts. r.onward n rest (suc k) (building next, left2, t, ts) }

reached_end : (config : Config) (input : List ℕ) (stack : Open) (c : Tree) (left left2 : List ℕ) → Reached config input stack left
    → Turn config stack left (answered c) left2 → RunsTo config input c left2
reached_end config input stack c left left2 r t =
    let j = r.onward (answered c) left2 1 (answered c, left2, t, (refl, refl)) in
    runs_to config input c left2 j.0 j.1

-- What is true of where the run has got to is reached on the input.
reached_there : (At : Open → List ℕ → Type 0) (config : Config) (input : List ℕ) (stack : Open) (left : List ℕ) → Reached config input stack left
    → At stack left → RunReaches config At input
reached_there At config input stack left r there =
    let j = r.onward (building stack) left 0 (refl, refl) in
    record { stack = stack; left = left; turns = j.0; run = j.1; there = there }

-- The same when the config and what follows are known by equations.

pub reached_step : (config same : Config) (input : List ℕ) (stack next : Open) (now : Next) (left left2 : List ℕ) → same ≡ config → now ≡ building next
    → Reached config input stack left → Turn same stack left now left2 → Reached config input next left2
reached_step config same input stack next now left left2 e n r t = grind (arith, reached_turn)

pub reached_refusal : (config same : Config) (input : List ℕ) (stack : Open) (left : List ℕ) → same ≡ config → Reached config input stack left
    → IsConsistent config → (e : Error) (rest : List ℕ) → IsStepRefusal same stack left e rest → IsRefusal config input e rest
reached_refusal config same input stack left e r consistent error rest h =
    let P : Config → Type 0 = λ x. IsStepRefusal x stack left error rest in
    step_refused config stack left rest input consistent (reached_there (LacksAt config rest) config input stack left r)
    (reached_there (RefusesModuleAt config rest) config input stack left r) error (subst P e h)

pub reached_answer : (config same : Config) (input : List ℕ) (stack : Open) (c : Tree) (now : Next) (left left2 : List ℕ) → same ≡ config → now ≡ answered c
    → Reached config input stack left → Turn same stack left now left2 → RunsTo config input c left2
reached_answer config same input stack c now left left2 e n r t = grind (arith, reached_end)
