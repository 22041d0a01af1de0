-- What a sample is, and why there is none.
use Rattle.std.specs.Prelude.{◌≡◌, ◌⊎◌, ℕ, ◌<◌, ◌≤◌, true, List, [], length}
use Rattle.smith_format.specs.Consistency.{IsConsistent}
use Rattle.smith_format.specs.declared.config.Config.{Config}
use Rattle.smith_input.specs.declared.error.Error.{Error}
use Rattle.smith_input.specs.declared.error.Error.TheVariants.{OutOfMemory}
use Rattle.smith_component.specs.Refusals.{IsGenerateRefusal}
use Rattle.smith_component.specs.Runs.{IsMade}
use Rattle.smith_swarm.specs.Swarm.{after_front, swarmed}
use Rattle.smith_tree.specs.Generates.{Generates}
use Rattle.smith_tree.specs.Tree.{Tree}
use Rattle.smith_tree.specs.Validates.{Validates}
use Rattle.smith_corpus.specs.declared.samples.Sample.{Sample}
use Rattle.smith_corpus.specs.declared.samples.SampleError.{SampleError}
use Rattle.smith_corpus.specs.declared.samples.SampleError.TheVariants.{BytesLeft, Refused}

-- The component is made of the input, of which nothing is left, and it is the only reading of the bytes. If components must
-- validate, it does.
pub record IsSample (config : Config) (s : Sample) : Type 0 where
  pub consistent : IsConsistent config
  pub tree : Tree
  pub made : IsMade config s.input.items tree []
  pub generated : Generates config tree s.component.items
  pub validates : config.must_validate ≡ true → Validates tree

-- an input of at most that many bytes that is refused
pub record HasRefusal (config : Config) (len : ℕ) (error : Error) : Type 0 where
  pub input : List ℕ
  pub few : length input ≤ len
  pub left : List ℕ
  pub refused : IsGenerateRefusal config input error left

-- an input of at most that many bytes of which some are left
pub record HasRest (config : Config) (len : ℕ) : Type 0 where
  pub consistent : IsConsistent config
  pub input : List ℕ
  pub few : length input ≤ len
  pub tree : Tree
  pub left : List ℕ
  pub made : IsMade config input tree left
  pub some : 0 < length left

-- There is such an input.
abbrev pub IsSampleError : Config → ℕ → SampleError → Type 0
IsSampleError config len (Refused error) = HasRefusal config len error
IsSampleError config len BytesLeft = HasRest config len

-- The component is a sample's within the limits that the first bytes of the input encode, and the input of that sample is what
-- follows them.
pub record IsSwarmSample (config : Config) (s : Sample) : Type 0 where
  pub own : Sample
  pub follows : own.input.items ≡ after_front s.input.items
  pub same : own.component ≡ s.component
  pub is : IsSample (swarmed config s.input.items) own

-- No memory is left, or some bytes encode limits within which there is no sample.
abbrev pub IsSwarmError : Config → ℕ → SampleError → Type 0
IsSwarmError config len e = (e ≡ Refused OutOfMemory) ⊎ ((front : List ℕ) × IsSampleError (swarmed config front) len e)
