-- What there is, or why there is none.
use Rattle.std.proofs.Common.{◌≡◌, ℕ, zero, suc, Bool, true, false, Option, None, Some, refl, subst}
use Rattle.std.specs.Prelude.{if◌then◌else◌}
use Rattle.std.specs.Option.{option_map}
use Rattle.smith_edit.specs.Simpler.{itself_or}

pub data Gives {A : Type 0} (Why : Type 0) (Q : A → Type 0) : Option A → Type 0 where
  nothing : Why → Gives Why Q None
  gives : (x : A) → Q x → Gives Why Q (Some x)

-- for whatever reason there is none
abbrev pub Perhaps : {A : Type 0} → (A → Type 0) → Option A → Type 0
Perhaps Q o = Gives (Unit {0}) Q o

module _ {A W : Type 0} {P : A → Type 0} where
  pub mapped : {B : Type 0} {Q : B → Type 0} {o : Option A} (f : A → B) → ((x : A) → P x → Q (f x)) → Gives W P o → Gives W Q (option_map f o)
  mapped f h (nothing why) = nothing why
  mapped f h (gives x p) = gives (f x) (h x p)

  pub more : {Q : A → Type 0} {o : Option A} → ((x : A) → P x → Q x) → Gives W P o → Gives W Q o
  more h (nothing why) = nothing why
  more h (gives x p) = gives x (h x p)

  pub because : {V : Type 0} {o : Option A} → (W → V) → Gives W P o → Gives V P o
  because h (nothing why) = nothing (h why)
  because h (gives x p) = gives x p

  pub either : {o p : Option A} (b : Bool) → Gives W P o → Gives W P p → Gives W P (if b then o else p)
  either true g h = g
  either false g h = h

  pub itself : {o : Option A} {inside : ℕ → Option A} (k : ℕ) → Gives W P o → ((j : ℕ) → Gives W P (inside j)) → Gives W P (itself_or o inside k)
  itself zero g h = g
  itself (suc k) g h = h k

  pub given : {o : Option A} (y : A) → Gives W P o → o ≡ Some y → P y
  given y (nothing why) e = absurd cc
  given y (gives x p) e = let is : x ≡ y = cc in subst P is p

  pub reason : {o : Option A} → Gives W P o → o ≡ None → W
  reason (nothing why) e = why
  reason (gives x p) e = absurd cc

pub both : {A : Type 0} {P Q : A → Type 0} {o : Option A} → Perhaps P o → Perhaps Q o → Perhaps (λ x. P x × Q x) o
both (nothing why) h = nothing tt
both (gives x p) h = gives x (p, given x h refl)

pub whatever : {A : Type 0} {P : A → Type 0} (o : Option A) → ((x : A) → P x) → Perhaps P o
whatever None h = nothing tt
whatever (Some x) h = gives x (h x)

-- the one, or else the other
pub first_of : {A : Type 0} {P : A → Type 0} {o p : Option A} → Perhaps P o → Perhaps P p → Perhaps P (elim o [ None ↦ p | Some x ↦ Some x ])
first_of (nothing why) h = h
first_of (gives x p) h = gives x p
