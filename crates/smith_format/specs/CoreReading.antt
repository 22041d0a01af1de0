-- How core types are read: the bytes determine the type, and leave the rest.
use Rattle.std.specs.Prelude.{◌≡◌, ℕ, ◌+◌, ◌-◌, Bool, true, false, List, [], ◌∷◌, Option, Some, None}
use Rattle.smith_input.specs.Choices.{ReadsAmong}
use Rattle.smith_input.specs.Loops.{Loop, Never}
use Rattle.smith_input.specs.Reading.{Reads, Flips}
use Rattle.smith_format.specs.CoreTypes.{Function}
use Rattle.smith_format.specs.declared.types.MemoryType.{MemoryType}
use Rattle.smith_format.specs.declared.types.RefType.{RefType}
use Rattle.smith_format.specs.declared.types.RefType.TheVariants.{FuncRef, ExternRef}
use Rattle.smith_format.specs.declared.types.TableType.{TableType}
use Rattle.smith_format.specs.declared.types.TagType.{TagType}
use Rattle.smith_format.specs.declared.types.ValType.{ValType}

-- a number from `low` to `high`: `low`, and a choice of how much more
pub record ReadsBetween (low high : ℕ) (bytes : List ℕ) (n : ℕ) (rest : List ℕ) : Type 0 where
  pub place : ℕ
  pub is : n ≡ low + place
  pub reads : Reads (high - low + 1) bytes place rest

-- a boolean, and a maximum from the minimum to 20 if it is true
pub data ReadsMaximum (minimum : ℕ) : List ℕ → Option ℕ → List ℕ → Type 0 where
  unbounded : {bytes rest : List ℕ} → Flips bytes false rest → ReadsMaximum minimum bytes None rest
  bounded : {bytes mid : List ℕ} {n : ℕ} {rest : List ℕ} → Flips bytes true mid → ReadsBetween minimum 20 mid n rest → ReadsMaximum minimum bytes (Some n) rest

-- limits (core specification, Types, Limits): a minimum from 0 to 10, and a maximum or none
pub record ReadsLimits (bytes : List ℕ) (minimum : ℕ) (maximum : Option ℕ) (rest : List ℕ) : Type 0 where
  pub mid : List ℕ
  pub least : ReadsBetween 0 10 bytes minimum mid
  pub most : ReadsMaximum minimum mid maximum rest

-- a memory type (Types, Memory Types)
pub record ReadsMemory (bytes : List ℕ) (m : MemoryType) (rest : List ℕ) : Type 0 where
  pub limits : ReadsLimits bytes m.minimum m.maximum rest
  pub shared : m.shared ≡ false
  pub memory64 : m.memory64 ≡ false

-- What a table holds: a choice of two if there are reference types as value types, otherwise functions, with no byte
-- read.
pub data ReadsElement : Bool → List ℕ → RefType → List ℕ → Type 0 where
  only_functions : {bytes : List ℕ} → ReadsElement false bytes FuncRef bytes
  either : {bytes : List ℕ} {t : RefType} {rest : List ℕ} → ReadsAmong (FuncRef ∷ ExternRef ∷ []) bytes t rest → ReadsElement true bytes t rest

-- a table type (Types, Table Types), whether or not there are reference types as value types
pub record ReadsTable (references : Bool) (bytes : List ℕ) (t : TableType) (rest : List ℕ) : Type 0 where
  pub mid : List ℕ
  pub element : ReadsElement references bytes t.element_type mid
  pub limits : ReadsLimits mid t.minimum t.maximum rest
  pub table64 : t.table64 ≡ false

-- a tag type (Types, Tag Types): one of the indexes
abbrev pub ReadsTag : List ℕ → List ℕ → TagType → List ℕ → Type 0
ReadsTag candidates bytes t rest = ReadsAmong candidates bytes t.func_type_idx rest

-- a value type of a loop: one of these
abbrev pub ReadsValue : List ValType → Unit {0} → List ℕ → ValType → List ℕ → Unit {0} → Type 0
ReadsValue valtypes s bytes x rest t = ReadsAmong valtypes bytes x rest

-- at most max value types, each one of these, by a loop of so many bits
abbrev pub ReadsValues : ℕ → List ValType → ℕ → List ℕ → List ValType → List ℕ → Type 0
ReadsValues bits valtypes max bytes xs rest = Loop Never (ReadsValue valtypes) bits 0 max 0 tt bytes xs rest tt

-- a function type (Types, Composite Types): at most 20 parameters, and then the results
pub record ReadsFunction (bits : ℕ) (valtypes : List ValType) (max_results : ℕ) (bytes : List ℕ) (f : Function) (rest : List ℕ) : Type 0 where
  pub mid : List ℕ
  pub params : ReadsValues bits valtypes 20 bytes f.0 mid
  pub results : ReadsValues bits valtypes max_results mid f.1 rest
