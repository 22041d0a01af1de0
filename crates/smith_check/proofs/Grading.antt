-- Who asks what a check finds broken.
use Rattle.std.proofs.Common.{◌≡◌, sym, ◌∙◌, subst, Result, Ok, Err, IsErrAnd}
use Rattle.smith_check.specs.Judges.{Breaks, Grades, Judges, Refutes}
use Rattle.smith_check.specs.declared.error.Rule.{Rule}
use Rattle.smith_check.specs.declared.error.Stop.{Stop}
use Rattle.smith_check.specs.declared.error.Stop.TheVariants.{IllFormed, OutOfMemory, Outside}

-- what does not hold, and with it what the standard asks
pub breaks_refuted : {e : Stop} {P Q : Type 0} → (Q → P) → Refutes e P → Breaks e Q
breaks_refuted f r = record { is = λ rule is q. r.is (λ o. let z : IllFormed rule ≡ OutOfMemory = sym is ∙ o in absurd cc) (f q) }

-- a fact that another rests on
pub breaks_by : {e : Stop} {P Q : Type 0} → (Q → P) → Breaks e P → Breaks e Q
breaks_by f b = record { is = λ rule is q. b.is rule is (f q) }

-- what only Lupinanon asks
pub breaks_outside : (rule : Rule) {Q : Type 0} → Breaks (Outside rule) Q
breaks_outside rule {Q} = record { is = λ other is q. let z : Outside rule ≡ IllFormed other = is in absurd cc }

pub breaks_memory : {Q : Type 0} → Breaks OutOfMemory Q
breaks_memory {Q} = record { is = λ other is q. let z : OutOfMemory ≡ IllFormed other = is in absurd cc }

-- an error that is passed on
pub grades_passed : {A : Type 0} (r : Result A Stop) (e : Stop) {Q : Type 0} → IsErrAnd r (λ y. y ≡ e) → Breaks e Q → Grades r Q
grades_passed (Ok x) e {Q} is b = absurd is
grades_passed (Err y) e {Q} is b = subst (λ (z : Stop). Breaks z Q) (sym is) b

pub grades_by : {A : Type 0} (r : Result A Stop) {P Q : Type 0} → (Q → P) → Grades r P → Grades r Q
grades_by (Ok x) {P} {Q} f g = tt
grades_by (Err e) {P} {Q} f g = breaks_by f g

pub grades_judged : {A : Type 0} (r : Result A Stop) {P Q : Type 0} → (Q → P) → Judges r P → Grades r Q
grades_judged (Ok x) {P} {Q} f j = tt
grades_judged (Err e) {P} {Q} f j = breaks_refuted f j
