-- What the result of a check says of a fact.
use Rattle.std.specs.Prelude.{◌≡◌, Bool, true, false, Result, Ok, Err}
use Rattle.smith_check.specs.declared.error.Rule.{Rule}
use Rattle.smith_check.specs.declared.error.Stop.{Stop}
use Rattle.smith_check.specs.declared.error.Stop.TheVariants.{IllFormed, OutOfMemory}

-- The fact does not hold, unless memory ran out.
pub record Refutes (e : Stop) (P : Type 0) : Type 0 where
  pub is : ¬ (e ≡ OutOfMemory) → ¬ P

-- A check succeeds only if the fact holds. It fails only if the fact does not hold or memory ran out.
abbrev pub Judges : {A : Type 0} → Result A Stop → Type 0 → Type 0
Judges (Ok x) P = P
Judges (Err e) P = Refutes e P

-- What is found has the property, or nothing has it or memory ran out.
abbrev pub Finds : {A B : Type 0} → (A → B) → Result A Stop → (B → Type 0) → Type 0
Finds view (Ok x) P = P (view x)
Finds {A} {B} view (Err e) P = Refutes e ((y : B) × P y)

-- A test says whether the fact holds.
abbrev pub Decides : Bool → Type 0 → Type 0
Decides true P = P
Decides false P = ¬ P

-- If a rule of the standard is broken, what the standard asks does not hold.
pub record Breaks (e : Stop) (Q : Type 0) : Type 0 where
  pub is : (rule : Rule) → e ≡ IllFormed rule → ¬ Q

-- A check that fails says by whom what is broken is asked.
abbrev pub Grades : {A : Type 0} → Result A Stop → Type 0 → Type 0
Grades (Ok x) Q = Unit {0}
Grades (Err e) Q = Breaks e Q
