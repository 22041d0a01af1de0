-- Steps of checks.
use Rattle.std.proofs.Common.{◌≡◌, ℕ, ◌+◌, ◌<◌, ◌≤◌, List, length, map, get_or, sym, subst, Result, Ok, Err, IsErrAnd}
use Rattle.std.proofs.Math.ListN.{drop}
use Rattle.std.specs.List.{AllByRecursion}
use Rattle.smith_input.proofs.Rests.{drop_past, rest_at}
use Rattle.std.specs.Prelude.{OnOk}
use Rattle.smith_check.specs.Judges.{Judges, Refutes}
use Rattle.smith_check.specs.declared.error.Stop.{Stop}

-- a fact that another rests on
pub refute_by : {e : Stop} {P Q : Type 0} → (Q → P) → Refutes e P → Refutes e Q
refute_by f r = record { is = λ n q. r.is n (f q) }

-- an error that is passed on
pub passed_on : {A : Type 0} (r : Result A Stop) (e : Stop) {P : Type 0} → IsErrAnd r (λ y. y ≡ e) → Refutes e P → Judges r P
passed_on (Ok x) e {P} is d = absurd is
passed_on (Err y) e {P} is d = subst (λ (z : Stop). Refutes z P) (sym is) d

-- Two facts that hold together: all, and the rest of it.
pub record Same (P Q : Type 0) : Type 0 where
  pub to : P → Q
  pub from : Q → P

pub same_all : {P : Type 0} → Same P P
same_all = record { to = λ p. p; from = λ p. p }

-- the rest begins with this, which holds
pub same_step : {P Q R T : Type 0} → Same P Q → Same Q (R × T) → R → Same P T
same_step s t r = record { to = λ p. (t.to (s.to p)).1; from = λ q. s.from (t.from (r, q)) }

-- it does not
pub same_exit : {e : Stop} {P Q R T : Type 0} → Same P Q → Same Q (R × T) → Refutes e R → Refutes e P
same_exit s t d = refute_by (λ p. (t.to (s.to p)).0) d

-- a property of something, by what it is
pub same_by : {A : Type 0} (F : A → Type 0) (x y : A) → x ≡ y → Same (F x) (F y)
same_by F x y e = record { to = λ p. subst F e p; from = λ p. subst F (sym e) p }

module _ {A B : Type 0} (F : B → Type 0) (f : A → B) (xs : List A) (i : ℕ) where
  -- what holds of the rest of a list
  abbrev pub AllLeft : Type 0
  AllLeft = AllByRecursion F (map f (drop i xs))

  pub left_at : (x : A) → i < length xs → x ≡ get_or xs i x → Same AllLeft (F (f x) × AllByRecursion F (map f (drop (i + 1) xs)))
  left_at x h e = same_by (λ ys. AllByRecursion F (map f ys)) _ _ (rest_at xs i x h e)

  pub left_done : length xs ≤ i → AllLeft
  left_done h = subst (λ (ys : List A). AllByRecursion F (map f ys)) (sym (drop_past xs i h)) tt

pub same_trans : {P Q R : Type 0} → Same P Q → Same Q R → Same P R
same_trans s t = record { to = λ p. t.to (s.to p); from = λ r. s.from (t.from r) }

pub judged_by : {A : Type 0} (r : Result A Stop) {P Q : Type 0} → (P → Q) → (Q → P) → Judges r P → Judges r Q
judged_by (Ok x) {P} {Q} f g j = f j
judged_by (Err e) {P} {Q} f g j = refute_by g j

pub on_by : {A : Type 0} (r : Result A Stop) {P Q : Type 0} → (P → Q) → OnOk r P → OnOk r Q
on_by (Ok x) {P} {Q} f p = f p
on_by (Err e) {P} {Q} f p = tt

pub on_both : {A : Type 0} (r : Result A Stop) {P Q R : Type 0} → (P → Q → R) → OnOk r P → OnOk r Q → OnOk r R
on_both (Ok x) {P} {Q} {R} f p q = f p q
on_both (Err e) {P} {Q} {R} f p q = tt
