-- How canonical functions are read, and when a lift defines its type.
use Rattle.std.specs.Prelude.{◌≡◌, ℕ, ◌-◌, ◌<◌, ◌≤◌, List, [], ◌∷◌, ◌++◌, length, Some, slice_get}
use Rattle.smith_input.specs.Choices.{ReadsAmong}
use Rattle.smith_input.specs.Loops.{Loop}
use Rattle.smith_input.specs.Reading.{Reads}
use Rattle.smith_format.specs.CoreTypes.{Function}
use Rattle.smith_format.specs.declared.config.Config.{Config}
use Rattle.smith_syntax.specs.Entries.{function, Signature}
use Rattle.smith_syntax.specs.Flat.{Flattens}
use Rattle.smith_syntax.specs.Places.{places}
use Rattle.smith_syntax.specs.HasSignature.{is_of_signature}
use Rattle.smith_types.specs.Lifting.{ReadsLiftedType}
use Rattle.smith_tree.specs.Spaces.{Spaces, spaces_of}
use Rattle.smith_tree.specs.Tree.{Canon, lift, lower, Tree, types, canons, add, function_count}
use Rattle.smith_tree.specs.WellFormed.{HasSignature}
use Rattle.smith_tree.specs.declared.choices.CanonItem.{CanonItem}
use Rattle.smith_tree.specs.declared.choices.CanonItem.TheVariants.{Lower, Lift}
use Rattle.smith_tree.specs.Offers.{canon_items, scalar_functions}

-- A canonical section that grows: the parts in front of it, and what it has so far.
pub record Growing : Type 0 where
  pub before : Tree
  pub funcs : List Canon

-- the component with that section
abbrev pub grown : Growing → Tree
grown s = add s.before (canons s.funcs)

abbrev pub spaces_at : Growing → Spaces
spaces_at s = spaces_of (grown s)

-- the section with one more function
abbrev pub with_canon : Growing → Canon → Growing
with_canon s c = record { before = s.before; funcs = s.funcs ++ c ∷ [] }

-- a choice of a function that can be lowered
abbrev pub ReadsLower : Growing → List ℕ → List ℕ → Growing → Type 0
ReadsLower s bytes rest next = (f : ℕ) × ReadsAmong (scalar_functions (spaces_at s)) bytes f rest × (next ≡ with_canon s (lower f))

-- the types of the component that are equal to a function type
abbrev pub equal_types : Growing → Signature → List ℕ
equal_types s signature = places (is_of_signature signature) 0 (spaces_at s).types

-- A type section of that type after the canonical section, and a canonical section with the lift after that.
abbrev pub with_defined : Growing → ℕ → Signature → Growing
with_defined s c signature = record { before = add (grown s) (types (function signature ∷ [])); funcs = lift c (length (spaces_at s).types) ∷ [] }

-- A lift is to a type that is equal, by a choice among these. If there is none, it defines the type if the component may have one more;
-- otherwise it is abandoned.
pub data LiftsTo (config : Config) (s : Growing) (c : ℕ) (signature : Signature) (bytes rest : List ℕ) (next : Growing) : Type 0 where
  to_equal : {t : ℕ} → ReadsAmong (equal_types s signature) bytes t rest → next ≡ with_canon s (lift c t) → LiftsTo config s c signature bytes rest next
  to_defined : equal_types s signature ≡ [] → length (spaces_at s).types < config.max_types → rest ≡ bytes → next ≡ with_defined s c signature
      → LiftsTo config s c signature bytes rest next
  given_up : equal_types s signature ≡ [] → config.max_types ≤ length (spaces_at s).types → rest ≡ bytes → next ≡ s
      → LiftsTo config s c signature bytes rest next

-- A lift: a choice of a core function, and a function type that flattens as the type of the function that it lowers.
pub record ReadsLift (config : Config) (s : Growing) (bytes rest : List ℕ) (next : Growing) : Type 0 where
  pub c : ℕ
  pub mid : List ℕ
  pub low : List ℕ
  pub f : ℕ
  pub lowered : Signature
  pub core : Function
  pub signature : Signature
  pub chooses : Reads (length (spaces_at s).core_functions) bytes c mid
  pub lowers : slice_get (spaces_at s).core_functions c ≡ Some f
  pub of : HasSignature (spaces_at s) f lowered
  pub flattens : Flattens lowered core
  pub reads : ReadsLiftedType config.max_name_length core mid signature low
  pub lifts : LiftsTo config s c signature low rest next

-- a turn by what was chosen
abbrev pub ReadsCanon : Config → Growing → CanonItem → List ℕ → List ℕ → Growing → Type 0
ReadsCanon config s Lower bytes rest next = ReadsLower s bytes rest next
ReadsCanon config s Lift bytes rest next = ReadsLift config s bytes rest next

abbrev pub CanonTurn : Config → Growing → List ℕ → CanonItem → List ℕ → Growing → Type 0
CanonTurn config s bytes item rest next = (mid : List ℕ) × ReadsAmong (canon_items (spaces_at s)) bytes item mid × ReadsCanon config s item mid rest next

-- The section ends when no function can be lowered or lifted.
abbrev pub NoCanon : Growing → List ℕ → List ℕ → Growing → Type 0
NoCanon s bytes rest next = (canon_items (spaces_at s) ≡ []) × (rest ≡ bytes) × (next ≡ s)

-- an empty section at the end of the component
abbrev pub empty_section : Tree → Growing
empty_section t = record { before = t; funcs = [] }

-- at least that many turns, and at most as many as the component may still have functions
abbrev pub ReadsCanons : Config → ℕ → Tree → List ℕ → List CanonItem → List ℕ → Growing → Type 0
ReadsCanons config min t bytes turns rest next =
    Loop NoCanon (CanonTurn config) config.loop_bits min (config.max_funcs - function_count t) 0 (empty_section t) bytes turns rest next
