-- What the inside of a core module is to a validator, if it has the two sections that are generated, and no others (core specification, Binary Format,
-- Modules, Type Section and Memory Section; Validation, Types, Memory Types).
use Rattle.std.specs.Prelude.{◌≡◌, ℕ, ◌≤◌, false, List, length, Some}
use Rattle.std.specs.List.{AllByRecursion}
use Rattle.smith_format.specs.CoreTypes.{Function}
use Rattle.smith_format.specs.declared.types.MemoryType.{MemoryType}
use Rattle.smith_syntax.specs.Possible.{PossibleMemory}
use Rattle.smith_core.specs.StandInText.{StandIn, stand_in_text}
use Rattle.smith_verdict.specs.Contained.{IsPlain}
use Rattle.smith_verdict.specs.declared.modules.ModuleJudgement.{ModuleJudgement}
use Rattle.smith_verdict.specs.declared.modules.ModuleJudgement.TheVariants.{Sound, Broken, Bounded, Other}

-- no references to types of the module, of which the standard asks that they are there
abbrev pub IsPlainFunction : Function → Type 0
IsPlainFunction f = AllByRecursion IsPlain f.0 × AllByRecursion IsPlain f.1

-- the bytes of these two sections, with no such reference in their value types
abbrev pub IsTwo : List ℕ → StandIn → Type 0
IsTwo text s = (stand_in_text s ≡ Some text) × AllByRecursion IsPlainFunction s.types

-- a memory of a sort that every validator has: neither shared nor of 64 bits
abbrev pub SoundMemory : MemoryType → Type 0
SoundMemory m = PossibleMemory m × (m.shared ≡ false) × (m.memory64 ≡ false)

-- at most 1,000 parameters and as many results, a million types and 100 memories: implementations refuse more, as wasmparser does
abbrev pub FewValues : Function → Type 0
FewValues f = (length f.0 ≤ 1000) × (length f.1 ≤ 1000)

abbrev pub IsFew : StandIn → Type 0
IsFew s = (length s.types ≤ 1000000) × (length s.memories ≤ 100) × AllByRecursion FewValues s.types

-- every validator has to accept it
abbrev pub SoundModule : List ℕ → Type 0
SoundModule text = (s : StandIn) × IsTwo text s × AllByRecursion SoundMemory s.memories × IsFew s

-- none may accept it
abbrev pub BrokenModule : List ℕ → Type 0
BrokenModule text = (s : StandIn) × IsTwo text s × (¬ AllByRecursion PossibleMemory s.memories)

-- the standard has all of its memories, but implementations may refuse it
abbrev pub BoundedModule : List ℕ → Type 0
BoundedModule text = (s : StandIn) × IsTwo text s × AllByRecursion PossibleMemory s.memories × (¬ IsFew s)

-- what each judgement says of the bytes
abbrev pub JudgesModule : List ℕ → ModuleJudgement → Type 0
JudgesModule text Sound = SoundModule text
JudgesModule text Broken = BrokenModule text
JudgesModule text Bounded = BoundedModule text
JudgesModule text Other = (¬ SoundModule text) × (¬ BrokenModule text) × (¬ BoundedModule text)

-- ---- the same of the two sections, once they are read

abbrev pub AreSound : StandIn → Type 0
AreSound s = AllByRecursion IsPlainFunction s.types × AllByRecursion SoundMemory s.memories × IsFew s

abbrev pub AreBroken : StandIn → Type 0
AreBroken s = AllByRecursion IsPlainFunction s.types × (¬ AllByRecursion PossibleMemory s.memories)

abbrev pub AreBounded : StandIn → Type 0
AreBounded s = AllByRecursion IsPlainFunction s.types × AllByRecursion PossibleMemory s.memories × (¬ IsFew s)

-- what each judgement says of them
abbrev pub JudgesSections : StandIn → ModuleJudgement → Type 0
JudgesSections s Sound = AreSound s
JudgesSections s Broken = AreBroken s
JudgesSections s Bounded = AreBounded s
JudgesSections s Other = (¬ AreSound s) × (¬ AreBroken s) × (¬ AreBounded s)
