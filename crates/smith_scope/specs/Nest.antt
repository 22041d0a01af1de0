-- Scopes, one in another.
use Rattle.std.specs.Prelude.{List, [], ◌∷◌, ◌++◌, reverse}
use Rattle.smith_scope.specs.declared.nest.Nest.{Nest}

-- outermost first
abbrev pub outward_of : {S : Type 0} → Nest S → List S
outward_of n = n.outer.items ++ n.own ∷ []

-- innermost first
abbrev pub inward_of : {S : Type 0} → Nest S → List S
inward_of n = n.own ∷ reverse n.outer.items
