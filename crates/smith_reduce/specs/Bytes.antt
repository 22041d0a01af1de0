-- The edits of components, of the bytes that spell them.
use Rattle.std.specs.Prelude.{◌≡◌, ℕ, List, Option, None, Some}
use Rattle.smith_tree.specs.Grammar.{Spells, component_text}
use Rattle.smith_tree.specs.Tree.{Tree}
use Rattle.smith_edit.specs.Edits.{joined, without}
use Rattle.smith_read.specs.Reads.{AreUnread}
use Rattle.smith_reduce.specs.declared.error.JoinError.{JoinError}
use Rattle.smith_reduce.specs.declared.error.JoinError.TheVariants as join_error
use Rattle.smith_reduce.specs.declared.error.ReduceError.{ReduceError}
use Rattle.smith_reduce.specs.declared.error.ReduceError.TheVariants as error

-- the component without its k-th item, or none if there is no k-th
abbrev pub IsWithout : ℕ → Tree → Option (List ℕ) → Type 0
IsWithout k t (Some bytes) = (less : Tree) × (without k t ≡ Some less) × Spells less bytes
IsWithout k t None = without k t ≡ None

-- two components, and the one that they are joined to
pub record AreJoined (first second : List ℕ) (P : Tree → Type 0) : Type 0 where
  pub left : Tree
  pub right : Tree
  pub of_first : Spells left first
  pub of_second : Spells right second
  pub is : P (joined left right)

-- why there is no component from these bytes
abbrev pub IsReduceRefusal : List ℕ → ReduceError → Type 0
IsReduceRefusal bytes error.OutOfMemory = Unit {0}
IsReduceRefusal bytes error.InconsistentLimits = Unit {0}
IsReduceRefusal bytes (error.Unread reason offset) = AreUnread bytes offset

-- why two are not joined
abbrev pub IsJoinRefusal : List ℕ → List ℕ → JoinError → Type 0
IsJoinRefusal first second join_error.OutOfMemory = Unit {0}
IsJoinRefusal first second join_error.TooLong = AreJoined first second (λ t. component_text t ≡ None)
IsJoinRefusal first second (join_error.FirstUnread reason offset) = AreUnread first offset
IsJoinRefusal first second (join_error.SecondUnread reason offset) = AreUnread second offset
