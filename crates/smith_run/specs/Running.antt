-- What a run takes from its reader, and what it passes to its writer. `Some` bytes are what a reader has left, or a writer holds; `None` says nothing.
use Rattle.std.specs.Prelude.{◌≢◌, ℕ, ◌≡◌, ◌+◌, ◌≤◌, ◌++◌, List, length, ⊤, Option, Result, Ok, Err}
use Rattle.std.specs.Io.KnownBytes.{Appends, Consumes, IsAtEnd}
use Rattle.std.specs.Vec.{vec_len}
use Rattle.std.specs.declared.alloc.Global.{Global}
use Rattle.std.specs.declared.vec.Vec.{Vec}
use Rattle.smith_input.specs.Reading.{IsTail}
use Rattle.smith_input.specs.declared.error.Error.TheVariants.{OutOfMemory}
use Rattle.smith_component.specs.declared.Config.{Config}
use Rattle.smith_tree.specs.Tree.{Tree}
use Rattle.smith_tree.specs.Generates.{Generates}
use Rattle.smith_tree.specs.Grammar.{Spells}
use Rattle.smith_tree.specs.Script.{Within, script}
use Rattle.smith_component.specs.Runs.{IsMade}
use Rattle.smith_component.specs.Refusals.{IsGenerateRefusal}
use Rattle.smith_run.specs.declared.running.RunError.{RunError}
use Rattle.smith_run.specs.declared.running.RunError.TheVariants.{Refused, ReadFault, InputTooLong, WriteFault}
use Rattle.smith_run.specs.declared.running.Form.{Form}
use Rattle.smith_run.specs.declared.running.Form.TheVariants.{Raw, Page}
use Rattle.smith_run.specs.Page.{page}

-- how many bytes an input may have
abbrev pub longest_input : ℕ
longest_input = 1048576

-- A read puts that many bytes after the input, and none only at the reader's end.
pub record TakesSome (old new : Vec ℕ Global) (after : Option (List ℕ)) (count : ℕ) : Type 0 where
  pub grows : vec_len new ≡ vec_len old + count
  pub end : count ≡ 0 → (new.items ≡ old.items) × IsAtEnd after

-- The reader returned this input, is at its end, and the input is not too long.
pub record GivesAll (before after : Option (List ℕ)) (input : List ℕ) : Type 0 where
  pub given : Consumes before after input
  pub ended : IsAtEnd after
  pub within : length input ≤ longest_input

-- The reader returned one byte more than an input may have.
pub record GivesTooMuch (before after : Option (List ℕ)) : Type 0 where
  pub taken : List ℕ
  pub given : Consumes before after taken
  pub past : length taken ≡ longest_input + 1

-- what is written of a component's bytes, of which that many bytes of the input are left: these bytes, or their page
abbrev pub written_text : Form → List ℕ → ℕ → List ℕ
written_text Raw bytes left = bytes
written_text Page bytes left = page bytes left

-- The bytes of the component that is made of the input are written in the form. If the input begins with the script of a plan, they
-- are the plan's bytes, and what is after the script is left.
pub record Writes (config : Config) (form : Form) (input left : List ℕ) (before after : Option (List ℕ)) : Type 0 where
  pub component : Tree
  pub bytes : List ℕ
  pub generated : Generates config component bytes
  pub is_left : IsTail left input
  pub made : IsMade config input component left
  pub reach : (plan : Tree) (rest : List ℕ) → Within config plan → input ≡ script config plan ++ rest → Spells plan bytes × (left ≡ rest)
  pub written : Appends before after (written_text form bytes (length left))

-- It happens only once the whole input is read.
abbrev pub ComesAfterReading : RunError → Type 0
ComesAfterReading (Refused error) = error ≢ OutOfMemory
ComesAfterReading ReadFault = ⊥
ComesAfterReading InputTooLong = ⊥
ComesAfterReading WriteFault = ⊤

-- A refusal is one of the component's making from the input.
abbrev pub IsRefusedOn : Config → List ℕ → RunError → Type 0
IsRefusedOn config input (Refused error) = (left : List ℕ) × IsGenerateRefusal config input error left
IsRefusedOn config input ReadFault = ⊤
IsRefusedOn config input InputTooLong = ⊤
IsRefusedOn config input WriteFault = ⊤

-- the status that the program ends with
abbrev pub status_of : RunError → ℕ
status_of (Refused error) = 1
status_of ReadFault = 2
status_of InputTooLong = 2
status_of WriteFault = 2

-- the same for how a run ended: 0 if it did not fail
abbrev pub status_of_answer : {A : Type 0} → Result A RunError → ℕ
status_of_answer (Ok _) = 0
status_of_answer (Err error) = status_of error
