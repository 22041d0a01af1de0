-- The effective sizes of a module type's own function types, and of a declaration.
use Rattle.std.specs.Prelude.{ℕ, List, map, sum}
use Rattle.smith_format.specs.CoreTypes.{Function}
use Rattle.smith_syntax.specs.Entries.{ModuleDecl}
use Rattle.smith_syntax.specs.ModuleTypes.{entities_in}
use Rattle.smith_syntax.specs.Sizes.{capped, entity_size, function_size}

-- the sizes as they are kept
abbrev pub sizes_in : List Function → List ℕ
sizes_in fs = map (λ f. capped (function_size f)) fs

-- the sizes of what a declaration imports or exports
abbrev pub added_size : List Function → ModuleDecl → ℕ
added_size own d = sum (map (entity_size own) (entities_in d))
