-- The judgement of a component step by step.
use Rattle.std.specs.Prelude.{◌≡◌, ◌++◌, List, [], ◌∷◌, length, map, reverse, true}
use Rattle.std.specs.List.{AllByRecursion}
use Rattle.smith_syntax.specs.Scope.{Scope as PlainScope}
use Rattle.smith_syntax.specs.Possible.{PossibleCores, PossibleNames, PossibleTypes}
use Rattle.smith_syntax.specs.WellFormed.{FormedCores, FormedTypes, Named}
use Rattle.smith_tree.specs.Possible.{PossibleCanons, PossibleImports, PossibleParts}
use Rattle.smith_tree.specs.Spaces.{after_part, no_spaces}
use Rattle.smith_tree.specs.Tree.{Part, canons, component, core_module, core_types, custom, ends, exports, imports, types}
use Rattle.smith_tree.specs.WellFormed.{Formed, FormedCanons, FormedExports, FormedImport, export_names, import_names}
use Rattle.smith_read.specs.Walk.{Step, closes, marks, one, opens}
use Rattle.smith_scopes.specs.NodeScopes.{outer_in, own_in}
use Rattle.smith_check.specs.Preceding.{IsAt, Scene, empty_scene, scope_at}
use Rattle.smith_check.specs.declared.check.Check.{Check}
use Rattle.smith_check.specs.declared.check.Open.{Open}

-- what there is after a section
abbrev pub after : Scene → Part → Scene
after s (core_types ts) = record s { spaces = after_part s.spaces (core_types ts) }
after s (types ts) = record s { spaces = after_part s.spaces (types ts) }
after s (canons fs) = record s { spaces = after_part s.spaces (canons fs) }
after s (imports is) = record s { spaces = after_part s.spaces (imports is); imports = s.imports ++ import_names is }
after s (exports es) = record s { spaces = after_part s.spaces (exports es); exports = s.exports ++ export_names es }
after s _ = s

-- A section is well formed after that.
abbrev pub FormedAt : Part → List PlainScope → Scene → Type 0
FormedAt (custom name contents) outer s = Unit {0}
FormedAt (core_module text) outer s = Unit {0}
FormedAt (core_types ts) outer s = FormedCores ts (scope_at s)
FormedAt (component t) outer s = Formed t (scope_at s ∷ outer) ends
FormedAt (types ts) outer s = FormedTypes ts (scope_at s) outer
FormedAt (canons fs) outer s = FormedCanons fs s.spaces
FormedAt (imports is) outer s = AllByRecursion (FormedImport (scope_at s)) is × Named (s.imports ++ import_names is)
FormedAt (exports es) outer s = FormedExports es s.spaces × Named (s.exports ++ export_names es)

-- A section is possible after that.
abbrev pub PossibleAt : Part → List PlainScope → Scene → Type 0
PossibleAt (custom name contents) outer s = Unit {0}
PossibleAt (core_module text) outer s = Unit {0}
PossibleAt (core_types ts) outer s = PossibleCores ts (scope_at s) (length outer)
PossibleAt (component t) outer s = PossibleParts t (scope_at s ∷ outer) no_spaces ends
PossibleAt (types ts) outer s = PossibleTypes ts (scope_at s) outer
PossibleAt (canons fs) outer s = PossibleCanons fs s.spaces
PossibleAt (imports is) outer s = PossibleImports is s.spaces × PossibleNames true (s.imports ++ import_names is)
PossibleAt (exports es) outer s = FormedExports es s.spaces × PossibleNames true (s.exports ++ export_names es)

-- what there is in the innermost open component, and in those around it, innermost first
pub record State : Type 0 where
  pub here : Scene
  pub around : List Scene

-- The innermost one ends. The root ends last.
abbrev pub closed : Scene → List Scene → State
closed s [] = record { here = s; around = [] }
closed s (o ∷ os) = record { here = o; around = os }

abbrev pub next : Step → State → State
next (one p) at = record { here = after at.here p; around = at.around }
next opens at = record { here = empty_scene; around = at.here ∷ at.around }
next closes at = closed at.here at.around
next marks at = at

abbrev pub Fits : Step → State → Type 0
Fits (one p) at = FormedAt p (map scope_at at.around) at.here
Fits opens at = Unit {0}
Fits closes at = Unit {0}
Fits marks at = Unit {0}

abbrev pub MayFit : Step → State → Type 0
MayFit (one p) at = PossibleAt p (map scope_at at.around) at.here
MayFit opens at = Unit {0}
MayFit closes at = Unit {0}
MayFit marks at = Unit {0}

abbrev pub AreAt : List Open → List Scene → Type 0
AreAt [] [] = Unit {0}
AreAt [] (s ∷ ss) = ⊥
AreAt (o ∷ os) [] = ⊥
AreAt (o ∷ os) (s ∷ ss) = IsAt o s × AreAt os ss

-- The check knows that state.
pub record Stands (c : Check) (at : State) : Type 0 where
  pub own : own_in c.scopes ≡ scope_at at.here
  pub outer : outer_in c.scopes ≡ map scope_at at.around
  pub here : IsAt c.opens.own at.here
  pub around : AreAt (reverse c.opens.outer.items) at.around

-- It has as many open components as scopes.
abbrev pub IsEven : Check → Type 0
IsEven c = length (outer_in c.scopes) ≡ length c.opens.outer.items
