-- What the result of a judgement says of demands.
use Rattle.std.specs.Prelude.{Result, Ok, Err}
use Rattle.smith_tree.specs.Demands.{Demands, everything}
use Rattle.smith_validate.specs.Outcome.{asking, nothing}
use Rattle.smith_validate.specs.declared.error.Demand.TheVariants.{Named, Size, Count, Memories, Tables}
use Rattle.smith_validate.specs.declared.error.Stop.{Stop}
use Rattle.smith_validate.specs.declared.error.Stop.TheVariants.{OutOfMemory, Invalid}

-- A bound is exceeded.
abbrev pub IsPassed : Stop → Type 0
IsPassed OutOfMemory = ⊥
IsPassed (Invalid Named) = ⊥
IsPassed (Invalid Size) = Unit {0}
IsPassed (Invalid Count) = Unit {0}
IsPassed (Invalid Memories) = Unit {0}
IsPassed (Invalid Tables) = Unit {0}

-- what is asked when it stops: that demand alone
abbrev pub asked : Stop → Demands
asked OutOfMemory = nothing
asked (Invalid demand) = asking demand

-- If a bound is exceeded, the demand does not hold even if it alone is asked.
pub record Refutes (e : Stop) (P : Demands → Type 0) : Type 0 where
  pub is : IsPassed e → ¬ (P (asked e))

-- A judgement succeeds only if all demands hold. It stops at a bound only if that one does not.
abbrev pub Judges : {A : Type 0} → Result A Stop → (Demands → Type 0) → Type 0
Judges (Ok x) P = P everything
Judges (Err e) P = Refutes e P

-- It is that something has to be named.
abbrev pub IsNamed : Stop → Type 0
IsNamed OutOfMemory = ⊥
IsNamed (Invalid Named) = Unit {0}
IsNamed (Invalid Size) = ⊥
IsNamed (Invalid Count) = ⊥
IsNamed (Invalid Memories) = ⊥
IsNamed (Invalid Tables) = ⊥

-- It is another reason.
abbrev pub IsUnnamed : Stop → Type 0
IsUnnamed e = ¬ (IsNamed e)
