-- Whose declarations are changed.
use Rattle.std.specs.Prelude.{Bool, true, false}
use Rattle.smith_change.specs.declared.types.Owner.{Owner}
use Rattle.smith_change.specs.declared.types.Owner.TheVariants.{Component, Instance}

-- Only component types import (Binary.md, componentdecl).
abbrev pub may_import : Owner → Bool
may_import Component = true
may_import Instance = false
