-- What is kept of types for a validator: where what they refer to is named (Explainer.md, import and export definitions), and their effective
-- sizes.
use Rattle.std.specs.Prelude.{ℕ, zero, suc, Bool, true, false, nat_le, List, [], ◌∷◌, map, Option, None, Some, slice_get, if◌then◌else◌}
use Rattle.smith_syntax.specs.declared.types.ComponentValType.{ComponentValType}
use Rattle.smith_syntax.specs.declared.types.ComponentValType.TheVariants.{Primitive, Indexed}
use Rattle.smith_syntax.specs.declared.marks.Mark.{Mark}
use Rattle.smith_syntax.specs.declared.marks.Reach.{Reach}
use Rattle.smith_syntax.specs.declared.marks.Reach.TheVariants.{Everywhere, Here, Nowhere}

abbrev pub sizes : List Mark → List ℕ
sizes types = map (λ m. m.size) types

-- the narrower of two, and of any number
abbrev pub narrower : Reach → Reach → Reach
narrower Everywhere r = r
narrower Here Everywhere = Here
narrower Here Here = Here
narrower Here Nowhere = Nowhere
narrower Nowhere r = Nowhere

abbrev pub narrowest : List Reach → Reach
narrowest [] = Everywhere
narrowest (r ∷ rs) = narrower r (narrowest rs)

-- where values of that type are named, and where what an import or an export of the type with that index refers to is

abbrev pub used_by : Option Mark → Reach
used_by None = Everywhere
used_by (Some m) = m.used

abbrev pub parts_of : Option Mark → Reach
parts_of None = Everywhere
parts_of (Some m) = m.parts

abbrev pub value_reach : List Mark → ComponentValType → Reach
value_reach types (Primitive p) = Everywhere
value_reach types (Indexed i) = used_by (slice_get types i)

-- a type that is declared, of values or of a function: what is nominal is not named yet
abbrev pub declared_mark : Bool → List Reach → ℕ → Mark
declared_mark nominal rs size =
    record { nominal = nominal; parts = narrowest rs; used = if nominal then Nowhere else narrowest rs; size = size }

-- what exports name in one scope is not named in another
abbrev pub elsewhere : Reach → Reach
elsewhere Everywhere = Everywhere
elsewhere Here = Nowhere
elsewhere Nowhere = Nowhere

-- a type of components or of instances, which export what reaches so far
abbrev pub closed_mark : Reach → ℕ → Mark
closed_mark r size = record { nominal = false; parts = elsewhere r; used = elsewhere r; size = size }

-- a type equal to that one, which is named where it is exported
abbrev pub equal_mark : Mark → Mark
equal_mark m = record m { used = if m.nominal then Here else m.used }

-- A type that an outer alias names, as it is in the scope of the alias.
abbrev pub aliased_mark : ℕ → Mark → Mark
aliased_mark zero m = m
aliased_mark (suc count) m = record m { parts = elsewhere m.parts; used = elsewhere m.used }

-- the mark of a type of which nothing is kept
abbrev pub no_mark : Mark
no_mark = record { nominal = false; parts = Everywhere; used = Everywhere; size = 0 }

-- The size that a type may have to be used, imported or exported: a hundred of these, and one more, are below the bound of a million.
abbrev pub small_size : ℕ
small_size = 9999

-- The size of a component up to which one more may be imported or exported: a small type more is below the bound.
abbrev pub room_size : ℕ
room_size = 990000

abbrev pub is_small : Mark → Bool
is_small m = nat_le m.size small_size

-- Is all named wherever it is, and is it named somewhere?

abbrev pub reaches_everywhere : Reach → Bool
reaches_everywhere Everywhere = true
reaches_everywhere Here = false
reaches_everywhere Nowhere = false

abbrev pub reaches_somewhere : Reach → Bool
reaches_somewhere Everywhere = true
reaches_somewhere Here = true
reaches_somewhere Nowhere = false

abbrev pub is_everywhere : Mark → Bool
is_everywhere m = reaches_everywhere m.parts

abbrev pub is_somewhere : Mark → Bool
is_somewhere m = reaches_somewhere m.parts
