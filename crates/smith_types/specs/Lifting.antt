-- How a function type that flattens to a core function type is read (CanonicalABI.md, flattening, from the other side).
use Rattle.std.specs.Prelude.{◌≡◌, ℕ, ◌<◌, List, [], ◌∷◌, ◌++◌, length, Some}
use Rattle.std.specs.List.{AllByRecursion}
use Rattle.smith_format.specs.CoreTypes.{Function}
use Rattle.smith_format.specs.declared.types.ValType.{ValType}
use Rattle.smith_input.specs.Choices.{ReadsAmong}
use Rattle.smith_input.specs.Names.{ReadsNew}
use Rattle.smith_syntax.specs.Entries.{Field, Signature}
use Rattle.smith_syntax.specs.declared.types.ComponentValType.TheVariants.{Primitive}
use Rattle.smith_syntax.specs.declared.types.PrimitiveValType.{PrimitiveValType}
use Rattle.smith_tree.specs.TypeOffers.{lifted}

-- Can it be lifted?
abbrev pub IsLiftable : ValType → Type 0
IsLiftable v = 0 < length (lifted v)

-- Can a core function type be lifted? All its parameters can, and there is one result, which can.
pub record IsLiftableFunction (f : Function) : Type 0 where
  pub params : AllByRecursion IsLiftable f.0
  pub one : length f.1 ≡ 1
  pub results : AllByRecursion IsLiftable f.1

-- Parameters, each with a name that is new among those before it, of which at most max bytes are read, and a primitive
-- that flattens to the core parameter.
pub data ReadsParams (max : ℕ) : List (List ℕ) → List ValType → List ℕ → List Field → List ℕ → Type 0 where
  no_params : {names : List (List ℕ)} {bytes : List ℕ} → ReadsParams max names [] bytes [] bytes
  a_param : {names : List (List ℕ)} {v : ValType} {vs : List ValType} {bytes mid low rest name : List ℕ} {p : PrimitiveValType} {fs : List Field}
      → ReadsNew max names bytes name mid → ReadsAmong (lifted v) mid p low → ReadsParams max (names ++ name ∷ []) vs low fs rest
      → ReadsParams max names (v ∷ vs) bytes ((name, Primitive p) ∷ fs) rest

-- A signature: the parameters, and a primitive that flattens to the one core result.
pub record ReadsLiftedType (max : ℕ) (f : Function) (bytes : List ℕ) (s : Signature) (rest : List ℕ) : Type 0 where
  pub mid : List ℕ
  pub core_result : ValType
  pub primitive : PrimitiveValType
  pub params : ReadsParams max [] f.0 bytes s.params mid
  pub only : f.1 ≡ core_result ∷ []
  pub result : ReadsAmong (lifted core_result) mid primitive rest
  pub is : s.result ≡ Some (Primitive primitive)
