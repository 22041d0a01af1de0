-- Function types of the program by their signatures.
use Rattle.std.specs.Prelude.{ℕ, List, map, Option, String, string_bytes}
use Rattle.std.specs.declared.alloc.Global.{Global}
use Rattle.smith_syntax.specs.Entries.{Signature}
use Rattle.smith_syntax.specs.declared.types.ComponentValType.{ComponentValType}

-- the bytes of a name, and what follows it
abbrev pub named : {B : Type 0} → String Global × B → List ℕ × B
named p = (string_bytes p.0, p.1)

-- what contracts see of a function type with these fields
abbrev pub signature : List (String Global × ComponentValType) → Option ComponentValType → Signature
signature ps r = record { params = map named ps; result = r }
