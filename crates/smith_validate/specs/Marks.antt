-- What is kept of types that have to be named.
use Rattle.std.specs.Prelude.{◌≡◌, ℕ, ◌<◌, ◌≤◌, ◌⊎◌, min, max, Bool, true, false, nat_le, nat_lt, List, [], ◌∷◌, length, Option, None, Some, if◌then◌else◌}
use Rattle.std.specs.List.{AllByRecursion}
use Rattle.smith_input.specs.NewNames.{is_among}
use Rattle.smith_tree.specs.Facts.{Id}
use Rattle.smith_validate.specs.declared.facts.Facts.{Facts as KeptFacts}
use Rattle.smith_validate.specs.declared.facts.Needs.{Needs}
use Rattle.smith_validate.specs.declared.facts.Outermost.{Outermost}
use Rattle.smith_validate.specs.declared.facts.Outermost.TheVariants.{Unnamed, Scope, Nothing}

-- the outermost of two
abbrev pub outer_of : Outermost → Outermost → Outermost
outer_of Unnamed y = Unnamed
outer_of (Scope a) Unnamed = Unnamed
outer_of (Scope a) (Scope b) = Scope (min a b)
outer_of (Scope a) Nothing = Scope a
outer_of Nothing y = y

abbrev pub greater_of : Option ℕ → Option ℕ → Option ℕ
greater_of None y = y
greater_of (Some a) None = Some a
greater_of (Some a) (Some b) = Some (max a b)

abbrev pub is_nothing : Outermost → Bool
is_nothing Unnamed = false
is_nothing (Scope a) = false
is_nothing Nothing = true

-- Is no scope that names them farther out than that level?
abbrev pub is_within : Outermost → ℕ → Bool
is_within Unnamed level = false
is_within (Scope a) level = nat_le level a
is_within Nothing level = true

-- without what is named deeper than that level, if all of it is or none
abbrev pub outer_outside : Outermost → ℕ → Outermost
outer_outside Unnamed level = Unnamed
outer_outside (Scope a) level = if nat_lt level a then Nothing else Scope a
outer_outside Nothing level = Nothing

-- Is there a level, deeper than that one?
abbrev pub is_below : Option ℕ → ℕ → Bool
is_below None depth = false
is_below (Some level) depth = nat_lt depth level

-- the level, or that one if it is deeper
abbrev pub not_below : Option ℕ → ℕ → Option ℕ
not_below None depth = None
not_below (Some level) depth = Some (min level depth)

abbrev pub both : Needs → Needs → Needs
both x y = record { outermost = outer_of x.outermost y.outermost; innermost = greater_of x.innermost y.innermost }

abbrev pub no_needs : Needs
no_needs = record { outermost = Nothing; innermost = None }

abbrev pub unnamed_needs : Needs
unnamed_needs = record { outermost = Unnamed; innermost = None }

abbrev pub named_needs : ℕ → Needs
named_needs level = record { outermost = Scope level; innermost = Some level }

-- without what is named deeper than that level
abbrev pub closed_needs : Needs → ℕ → Needs
closed_needs needs depth = record { outermost = outer_outside needs.outermost depth; innermost = not_below needs.innermost depth }

-- types of values and of functions; of values that have to be named; of instances

abbrev pub plain_facts : Needs → ℕ → KeptFacts
plain_facts refers size = record { refers = refers; needs = refers; nominal = false; size = size; instance = None }

abbrev pub nominal_facts : Needs → ℕ → KeptFacts
nominal_facts refers size = record { refers = refers; needs = unnamed_needs; nominal = true; size = size; instance = None }

abbrev pub instance_facts : Needs → ℕ → ℕ → KeptFacts
instance_facts refers size number = record { refers = refers; needs = unnamed_needs; nominal = false; size = size; instance = Some number }

-- a type that is equal to that one, named at that level
abbrev pub named_facts : KeptFacts → ℕ → KeptFacts
named_facts f level = record f { needs = if f.nominal then named_needs level else f.needs }

-- What the values that are kept stand for.

-- Each of the types is among these.
abbrev pub Within : List Id → List Id → Type 0
Within those ids = AllByRecursion (λ id. is_among those id ≡ true) ids

abbrev pub IsAbove : Option ℕ → ℕ → Type 0
IsAbove None level = Unit {0}
IsAbove (Some deepest) level = deepest < level

abbrev pub IsUpTo : Option ℕ → ℕ → Type 0
IsUpTo None level = ⊥
IsUpTo (Some deepest) level = level ≤ deepest

-- Of open scopes, innermost first, each with what it names, one between the two levels names it.
abbrev pub IsNamedIn : ℕ → Option ℕ → List (List Id) → Id → Type 0
IsNamedIn from deepest [] id = ⊥
IsNamedIn from deepest (here ∷ names) id =
    ((is_among here id ≡ true) × (from ≤ length names) × IsUpTo deepest (length names)) ⊎ IsNamedIn from deepest names id

abbrev pub IsCoveredBy : Outermost → Option ℕ → List (List Id) → Id → Type 0
IsCoveredBy Unnamed deepest names id = Unit {0}
IsCoveredBy (Scope from) deepest names id = IsNamedIn from deepest names id
IsCoveredBy Nothing deepest names id = ⊥

-- What is kept says where each of the types is named. If one of them is not, it says nothing of the others.
abbrev pub Covers : List (List Id) → Needs → List Id → Type 0
Covers names needs ids = AllByRecursion (λ id. IsCoveredBy needs.outermost needs.innermost names id) ids
