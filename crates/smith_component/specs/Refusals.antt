-- Which refusal is returned.
use Rattle.std.specs.Prelude.{◌≡◌, ℕ, List, None, Result, IfErr, OnOk}
use Rattle.smith_input.specs.Choices.{ReadsAmong}
use Rattle.smith_input.specs.Reading.{IsTail}
use Rattle.smith_format.specs.Consistency.{IsConsistent}
use Rattle.smith_format.specs.declared.config.Config.{Config}
use Rattle.smith_input.specs.declared.error.Error.{Error}
use Rattle.smith_input.specs.declared.error.Error.TheVariants.{InconsistentLimits, MinimumNotMet, ModuleRefused, TooLong, OutOfMemory, PartsDisagree}
use Rattle.smith_tree.specs.Grammar.{component_text}
use Rattle.smith_tree.specs.Tree.{Tree}
use Rattle.smith_tree.specs.declared.choices.Item.{Item}
use Rattle.smith_tree.specs.Open.{Open, items, root}
use Rattle.smith_component.specs.Turn.{LacksAt, RefusesModuleAt, building}
use Rattle.smith_component.specs.Fills.{Lacks}
use Rattle.smith_component.specs.Runs.{RunsTo, Turns}

-- A builder is refused if limits do not fit together, and otherwise only when out of memory.
abbrev pub IsNewRefusal : Config → Error → Type 0
IsNewRefusal config InconsistentLimits = ¬ IsConsistent config
IsNewRefusal config MinimumNotMet = ⊥
IsNewRefusal config ModuleRefused = ⊥
IsNewRefusal config TooLong = ⊥
IsNewRefusal config OutOfMemory = IsConsistent config
IsNewRefusal config PartsDisagree = ⊥

-- A component that is to be finished is refused if imports or functions are missing, and otherwise only when out of memory. The last of
-- the bytes are left.
abbrev pub IsFillRefusal : Config → Open → List ℕ → Error → List ℕ → Type 0
IsFillRefusal config stack b InconsistentLimits rest = ⊥
IsFillRefusal config stack b MinimumNotMet rest = Lacks config stack b rest
IsFillRefusal config stack b ModuleRefused rest = ⊥
IsFillRefusal config stack b TooLong rest = ⊥
IsFillRefusal config stack b OutOfMemory rest = Unit {0}
IsFillRefusal config stack b PartsDisagree rest = ⊥

-- A turn is refused if the inner component is to be finished and imports or functions are missing, if a core module is chosen that the
-- limits on memories do not leave, and otherwise only when out of memory.
abbrev pub IsStepRefusal : Config → Open → List ℕ → Error → List ℕ → Type 0
IsStepRefusal config stack left InconsistentLimits rest = ⊥
IsStepRefusal config stack left MinimumNotMet rest = LacksAt config rest stack left
IsStepRefusal config stack left ModuleRefused rest = RefusesModuleAt config rest stack left
IsStepRefusal config stack left TooLong rest = ⊥
IsStepRefusal config stack left OutOfMemory rest = Unit {0}
IsStepRefusal config stack left PartsDisagree rest = ⊥

-- Turns in a row lead from the input to components that are open and bytes that are left, of which something is true.
pub record RunReaches (config : Config) (At : Open → List ℕ → Type 0) (input : List ℕ) : Type 0 where
  pub stack : Open
  pub left : List ℕ
  pub turns : ℕ
  pub run : Turns config (building root) input (building stack) left turns
  pub there : At stack left

-- The input leads to a component that is to be finished, of which imports or functions are missing when these bytes are left.
abbrev pub LacksOn : Config → List ℕ → List ℕ → Type 0
LacksOn config input rest = RunReaches config (LacksAt config rest) input

-- The input leads to a core module that the limits on memories do not leave, and these bytes are left.
abbrev pub RefusesModuleOn : Config → List ℕ → List ℕ → Type 0
RefusesModuleOn config input rest = RunReaches config (RefusesModuleAt config rest) input

-- Limits that do not fit together are refused as such, before a byte is read; a component is refused of which something of a minimum is
-- missing, or that is to have a core module that the limits do not leave, and all else only when out of memory.
abbrev pub IsRefusal : Config → List ℕ → Error → List ℕ → Type 0
IsRefusal config input InconsistentLimits rest = ¬ IsConsistent config × (rest ≡ input)
IsRefusal config input MinimumNotMet rest = IsConsistent config × LacksOn config input rest
IsRefusal config input ModuleRefused rest = IsConsistent config × RefusesModuleOn config input rest
IsRefusal config input TooLong rest = ⊥
IsRefusal config input OutOfMemory rest = IsConsistent config
IsRefusal config input PartsDisagree rest = ⊥

-- A component is too long only if it is made of the input and has no spelling.
abbrev pub IsGenerateRefusal : Config → List ℕ → Error → List ℕ → Type 0
IsGenerateRefusal config input InconsistentLimits rest = ¬ IsConsistent config × (rest ≡ input)
IsGenerateRefusal config input MinimumNotMet rest = IsConsistent config × LacksOn config input rest
IsGenerateRefusal config input ModuleRefused rest = IsConsistent config × RefusesModuleOn config input rest
IsGenerateRefusal config input TooLong rest = IsConsistent config × (tree : Tree) × RunsTo config input tree rest × (component_text tree ≡ None)
IsGenerateRefusal config input OutOfMemory rest = IsConsistent config
IsGenerateRefusal config input PartsDisagree rest = ⊥

-- A call that reads within limits: limits that do not fit together are refused before a byte is read, others only as Refusal says, and a tail
-- of the bytes is left, also after a refusal.
pub record ConsumesWithin {T : Type 0} (config : Config) (Refusal : Config → List ℕ → Error → List ℕ → Type 0) (result : Result T Error)
    (bytes rest : List ℕ) : Type 0 where
  pub accepts : OnOk result (IsConsistent config)
  pub refuses : IfErr result (λ e. Refusal config bytes e rest)
  pub unread : ¬ IsConsistent config → rest ≡ bytes
  pub tail : IsTail rest bytes

-- This item is chosen, and these bytes are left.
abbrev pub IsChosen : Config → Open → List ℕ → Item → List ℕ → Type 0
IsChosen config stack left chosen after = ReadsAmong (items config stack left) left chosen after

-- There is no refusal.
abbrev pub IsAnswered : {T E : Type 0} → Result T E → Type 0
IsAnswered result = IfErr result (λ e. ⊥)
