-- What is known of the types before a place (Explainer.md, index spaces, import and export definitions): which types they refer to.
use Rattle.std.specs.Prelude.{ℕ, Bool, List, [], ◌∷◌, map, length, slice_get, if◌then◌else◌}
use Rattle.std.specs.List.{flat_map}
use Rattle.std.specs.Option.{option_to_list}
use Rattle.smith_syntax.specs.Entries.{CoreEntry}
pub use Rattle.smith_syntax.specs.Members.{is_nominal, members}
use Rattle.smith_syntax.specs.Scope.{ScopeOf}
use Rattle.smith_syntax.specs.declared.types.ComponentValType.{ComponentValType}
use Rattle.smith_syntax.specs.declared.types.ComponentValType.TheVariants.{Primitive, Indexed}

-- A type is known by where it was added: how many types there were in its scope, in the scope around it, and so on. An alias adds none
-- of its own.
abbrev pub Id : Type 0
Id = List ℕ

-- what an import or an export refers to, and what it names
pub record Extern : Type 0 where
  pub refers : List Id
  pub names : List Id

-- A type: where it was added; whether it is to be named itself (`is_nominal`), and not only what it is made of; the
-- types to be named that it is made of; its effective size; for instances, its exports in order.
pub record Facts : Type 0 where
  pub id : Id
  pub nominal : Bool
  pub refers : List Id
  pub size : ℕ
  pub exports : List Extern

-- a core type, and its effective size
pub record CoreFacts : Type 0 where
  pub entry : CoreEntry
  pub size : ℕ

abbrev pub FactScope : Type 0
FactScope = ScopeOf Facts CoreFacts

abbrev pub sizes : List Facts → List ℕ
sizes types = map (λ f. f.size) types

-- a place, by how many types there are before it in the scopes around it, innermost first
abbrev pub id_at : List FactScope → Id
id_at scopes = map (λ s. length s.types) scopes

-- what has to be named if a value is of that type
abbrev pub needs : Facts → List Id
needs f = if f.nominal then f.id ∷ [] else f.refers

abbrev pub value_needs : List Facts → ComponentValType → List Id
value_needs types (Primitive p) = []
value_needs types (Indexed i) = flat_map needs (option_to_list (slice_get types i))
