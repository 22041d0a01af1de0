-- How core modules of the two sections that are generated are read.
use Rattle.std.specs.Prelude.{ℕ, List, [], length, drop, map, Option, Some, None, nat_eq, ◌==◌, if◌then◌else◌}
use Rattle.std.specs.List.{starts_with}
use Rattle.smith_format.specs.CoreTypes.{Function}
use Rattle.smith_format.specs.Shown.{shown_func}
use Rattle.smith_format.specs.declared.types.MemoryType.{MemoryType}
use Rattle.smith_core.specs.Preamble.{core_preamble}
use Rattle.smith_core.specs.StandInText.{StandIn, stand_in}
use Rattle.smith_read.specs.CoreTypes.{core_function_at, limits_at, memory_of}
use Rattle.smith_read.specs.declared.module_sections.ModuleSections.{ModuleSections}
use Rattle.smith_read.specs.Reading.{Found, ◌>>=◌, all_of, behind, byte_at, framed_at, many_at, seen}

unfoldable pub function_at : List ℕ → Found Function
function_at bs = behind 0x60 core_function_at bs

unfoldable pub memory_at : List ℕ → Found MemoryType
memory_at bs = seen memory_of (limits_at bs)

-- a list that has an entry
abbrev pub some_entries : {A : Type 0} → List A → Option (List A)
some_entries xs = if length xs == 0 then None else Some xs

unfoldable pub filled_at : {A : Type 0} → (List ℕ → Found A) → List ℕ → Option (List A)
filled_at reading bs = all_of (many_at reading bs) >>= some_entries

-- the list of the section of that id, or none if another byte is first
abbrev pub listed_after : {A : Type 0} → ℕ → (List ℕ → Found A) → List ℕ → ℕ × List ℕ → Found (List A)
listed_after id reading bs t = if t.0 == id then framed_at (filled_at reading) t.1 else Some ([], bs)

unfoldable pub listed_at : {A : Type 0} → ℕ → (List ℕ → Found A) → List ℕ → Found (List A)
listed_at id reading bs = if length bs == 0 then Some ([], bs) else (byte_at bs >>= listed_after id reading bs)

abbrev pub ended : List Function → List MemoryType × List ℕ → Option StandIn
ended types m = if length m.1 == 0 then Some (stand_in types m.0) else None

unfoldable pub sections_at : List ℕ → Option StandIn
sections_at bs = listed_at 1 function_at bs >>= λ t. listed_at 5 memory_at t.1 >>= ended t.0

unfoldable pub core_preamble_at : List ℕ → Option (List ℕ)
core_preamble_at bs = if starts_with nat_eq bs core_preamble then Some (drop 8 bs) else None

unfoldable pub stand_in_at : List ℕ → Option StandIn
stand_in_at bs = core_preamble_at bs >>= sections_at

-- what they are, once they are read
abbrev pub shown_sections : ModuleSections → StandIn
shown_sections s = stand_in (map shown_func s.types.items) s.memories.items
