-- What precedes a place in a component, as far as it is judged by that.
use Rattle.std.specs.Prelude.{◌≡◌, ℕ, List, [], map}
use Rattle.smith_format.specs.CoreTypes.{Function}
use Rattle.smith_format.specs.Shown.{shown_func}
use Rattle.smith_format.specs.declared.types.FuncType.{FuncType}
use Rattle.std.specs.Borrow.{Bor}
use Rattle.smith_syntax.specs.Scope.{Scope as PlainScope}
use Rattle.smith_tree.specs.Spaces.{Spaces, no_spaces}
use Rattle.smith_check.specs.Taken.{Knows}
use Rattle.smith_check.specs.declared.check.Open.{Open}

-- the function types that these are
abbrev pub functions_in : List (Bor FuncType) → List Function
functions_in fs = map (λ f. shown_func f.now) fs

-- the index spaces of an open component
abbrev pub spaces_in : PlainScope → Open → Spaces
spaces_in own o = record { types = own.types; core_types = own.core_types; functions = o.functions.items; core_functions = o.core_functions.items }

-- The index spaces of a component so far, and the names of its imports and of its exports.
pub record Scene : Type 0 where
  pub spaces : Spaces
  pub imports : List (List ℕ)
  pub exports : List (List ℕ)

abbrev pub empty_scene : Scene
empty_scene = record { spaces = no_spaces; imports = []; exports = [] }

abbrev pub scope_at : Scene → PlainScope
scope_at s = record { types = s.spaces.types; core_types = s.spaces.core_types }

-- An open component has these functions, and these names, which are well named.
pub record IsAt (o : Open) (s : Scene) : Type 0 where
  pub functions : o.functions.items ≡ s.spaces.functions
  pub core_functions : o.core_functions.items ≡ s.spaces.core_functions
  pub imports : Knows o.imports s.imports
  pub exports : Knows o.exports s.exports
