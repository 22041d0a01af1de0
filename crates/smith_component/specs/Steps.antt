-- What a step leads to.
use Rattle.std.specs.Prelude.{◌≡◌, ℕ, ◌⊎◌, List, [], ◌∷◌, ◌++◌, Option, Some, None, IsTrue, Result, IfErr}
use Rattle.smith_input.specs.Choices.{ReadsAmong}
use Rattle.smith_format.specs.declared.config.Config.{Config}
use Rattle.smith_input.specs.declared.error.Error.{Error}
use Rattle.smith_input.specs.declared.error.Error.TheVariants.{MinimumNotMet}
use Rattle.smith_tree.specs.Open.{Open, is_component_offered, is_module_offered, items}
use Rattle.smith_component.specs.SectionValues.{AddsCoreTypeSection, AddsImportSection, AddsModule, AddsTypeSection}
use Rattle.smith_component.specs.Turn.{Next, Turn, building, answered, Closes, Does}
use Rattle.smith_tree.specs.Readable.{CanBeGenerated}
use Rattle.smith_tree.specs.WellFormed.{WellFormed}
use Rattle.smith_tree.specs.Limits.{Limits, Minima, Sized}
use Rattle.smith_component.specs.Building.{Building, open_of}
use Rattle.smith_component.specs.BuilderView.{building_of, stack_of, IsSound}
use Rattle.smith_component.specs.Fills.{FillsAll}
use Rattle.smith_component.specs.Filling.{CanFill}
use Rattle.smith_component.specs.Refusals.{IsAnswered, IsStepRefusal}
use Rattle.smith_component.specs.Shown.{shown_sections}
use Rattle.smith_tree.specs.Tree.{Tree}
use Rattle.smith_component.specs.declared.builder.Progress.{Progress}
use Rattle.smith_component.specs.declared.component.Section.{Section}
use Rattle.smith_component.specs.declared.component.Section.TheVariants.{Component}
use Rattle.smith_component.specs.declared.builder.Step.{Step}
use Rattle.smith_component.specs.declared.builder.Step.TheVariants.{StillBuilding, Finished}
use Rattle.smith_tree.specs.declared.choices.Item.{Item}
use Rattle.smith_tree.specs.declared.choices.Item.TheVariants as item
use Rattle.smith_tree.specs.Validates.{Validates}

abbrev pub next_of : Step → Next
next_of (StillBuilding b) = building (open_of b)
next_of (Finished c) = answered c

-- The inner component has more sections after the ones that it had.
pub record AddsSections (old new : Building) : Type 0 where
  pub more : List Section
  pub outer : new.outer ≡ old.outer
  pub inner : new.inner ≡ old.inner ++ more

-- An empty component is in the one that was the inner one.
pub record OpensComponent (old new : Building) : Type 0 where
  pub outer : new.outer ≡ old.outer ++ old.inner ∷ []
  pub inner : new.inner ≡ []

-- The inner component, with more sections after the ones that it had, became the last section of the one around it.
pub record ClosesComponent (old new : Building) : Type 0 where
  pub parent : List Section
  pub more : List Section
  pub outer : old.outer ≡ new.outer ++ parent ∷ []
  pub inner : new.inner ≡ parent ++ Component (shown_sections (old.inner ++ more)) ∷ []

-- The inner component, with more sections after the ones that it had, is a section of the one around it, or the answer.
abbrev pub ClosesSections : Building → Step → Type 0
ClosesSections old (StillBuilding new) = ClosesComponent old new
ClosesSections old (Finished c) = (old.outer ≡ []) × (more : List Section) × (c ≡ shown_sections (old.inner ++ more))

-- The sections that were there before a turn stay in front, unchanged.
abbrev pub KeepsSections : Building → Step → Type 0
KeepsSections old (StillBuilding new) = AddsSections old new ⊎ OpensComponent old new ⊎ ClosesComponent old new
KeepsSections old (Finished c) = ClosesSections old (Finished c)

-- What an item adds on the bytes b, if a plain tree leaves something of it out.
abbrev pub AddsValues : Config → Item → Building → List ℕ → Step → List ℕ → Type 0
AddsValues config item.Finish old b step rest = Unit {0}
AddsValues config item.Custom old b step rest = Unit {0}
AddsValues config item.CoreTypes old b step rest = (new : Building) × (step ≡ StillBuilding new) × AddsCoreTypeSection config old b new rest
AddsValues config item.Types old b step rest = (new : Building) × (step ≡ StillBuilding new) × AddsTypeSection config 0 old b new rest
AddsValues config item.Imports old b step rest = (new : Building) × (step ≡ StillBuilding new) × AddsImportSection config 0 old b new rest
AddsValues config item.Canonical old b step rest = Unit {0}
AddsValues config item.Module old b step rest = (new : Building) × (step ≡ StillBuilding new) × AddsModule config old b new rest
AddsValues config item.Component old b step rest = Unit {0}
AddsValues config item.Exports old b step rest = Unit {0}

-- One turn by the sections that it adds: a choice names an item, and what that adds is what the bytes after the choice produce,
-- including URLs, what outer aliases keep, and the parts of a core module.
pub record TurnAdds (config : Config) (old : Building) (left : List ℕ) (step : Step) (left2 : List ℕ) : Type 0 where
  pub item : Item
  pub after : List ℕ
  pub chooses : ReadsAmong (items config (open_of old) left) left item after
  pub adds : AddsValues config item old after step left2

-- A builder that continues has the same config, and an answer is well formed and within the limits, and its types within their fuel.
abbrev pub StaysWithin : Config → Step → Type 0
StaysWithin config (StillBuilding b) = b.config ≡ config
StaysWithin config (Finished c) = Limits config c × WellFormed c × Sized config c

-- A turn: one that leads to that step, what it keeps, and what it adds.
pub record IsTurn (old : Building) (left : List ℕ) (step : Step) (left2 : List ℕ) : Type 0 where
  pub turn : Turn old.config (open_of old) left (next_of step) left2
  pub keeps : StaysWithin old.config step
  pub sections : KeepsSections old step
  pub values : TurnAdds old.config old left step left2

-- A builder that continues has the same config, and an answer is one of the components that can be generated.
abbrev pub StaysSound : Config → Step → Type 0
StaysSound config (StillBuilding b) = b.config ≡ config
StaysSound config (Finished c) = CanBeGenerated config c

-- A step: a turn that leads to it, what it keeps, and what it adds.
pub record IsStep (old : Building) (left : List ℕ) (step : Step) (left2 : List ℕ) : Type 0 where
  pub turn : Turn old.config (open_of old) left (next_of step) left2
  pub keeps : StaysSound old.config step
  pub sections : KeepsSections old step
  pub values : TurnAdds old.config old left step left2

-- An answer validates.
abbrev pub ValidatesIfDone : Step → Type 0
ValidatesIfDone (StillBuilding b) = Unit {0}
ValidatesIfDone (Finished c) = Validates c

-- what a turn leads to: the component, if it is finished
abbrev pub step_of : Progress → Option Tree → Step
step_of b None = StillBuilding (building_of b)
step_of b (Some c) = Finished c

-- Unless it is finished, it is sound.
abbrev pub SoundUnlessDone : Progress → Option Tree → Type 0
SoundUnlessDone b None = IsSound b
SoundUnlessDone b (Some c) = Unit {0}

-- The inner component alone has grown, by sections after the ones that it had.
pub record Grows (old new : Progress) : Type 0 where
  pub sound : IsSound new
  pub keeps : new.config ≡ old.config
  pub sections : AddsSections (building_of old) (building_of new)

-- It has grown by this section.
pub record GrowsBy (section : Section) (old new : Progress) : Type 0 where
  pub grows : Grows old new
  pub last : new.inner.sections.items ≡ old.inner.sections.items ++ section ∷ []

-- The inner component was closed, and c is the root, if it was that.
pub record ClosesInner (old new : Progress) (c : Option Tree) : Type 0 where
  pub closes : Closes (stack_of old) (next_of (step_of new c))
  pub sound : SoundUnlessDone new c
  pub keeps : StaysWithin old.config (step_of new c)
  pub sections : ClosesSections (building_of old) (step_of new c)

-- What is missing of the minima was filled on the bytes b.
pub record FillsMinima (old : Progress) (b : List ℕ) (new : Progress) (rest : List ℕ) : Type 0 where
  pub filled : FillsAll old.config (stack_of old) b (stack_of new).inner rest
  pub minima : Minima old.config (stack_of new).inner
  pub grows : Grows old new

-- An item was done on the bytes b, and c is the component that it finished, if any.
pub record DoesItem (item : Item) (old : Progress) (b : List ℕ) (new : Progress) (c : Option Tree) (rest : List ℕ) : Type 0 where
  pub does : Does old.config item (stack_of old) b (next_of (step_of new c)) rest
  pub values : AddsValues old.config item (building_of old) b (step_of new c) rest
  pub sound : SoundUnlessDone new c
  pub keeps : StaysWithin old.config (step_of new c)
  pub sections : KeepsSections (building_of old) (step_of new c)

-- Core modules and components are offered if the limits leave room for one.
abbrev pub IsOffered : Config → Open → Item → Type 0
IsOffered config stack chosen =
    (chosen ≡ item.Module → IsTrue (is_module_offered config stack)) × (chosen ≡ item.Component → IsTrue (is_component_offered config stack))

-- No input is left, and the root alone is open and is missing nothing.
pub record IsReady (config : Config) (stack : Open) (left : List ℕ) : Type 0 where
  pub empty : left ≡ []
  pub alone : stack.outer ≡ []
  pub enough : Minima config stack.inner

-- Why a step is refused, and when it is not: if it is ready, and for a minimum if what is missing can be filled.
pub record RefusesStep {T : Type 0} (config : Config) (stack : Open) (left : List ℕ) (result : Result T Error) (left2 : List ℕ) : Type 0 where
  pub refuses : IfErr result (λ e. IsStepRefusal config stack left e left2)
  pub alone : IsReady config stack left → IsAnswered result
  pub fills : CanFill config stack.outer stack.inner → IfErr result (λ e. ¬ (e ≡ MinimumNotMet))
