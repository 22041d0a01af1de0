-- What is offered, item by item.
use Rattle.std.proofs.Common.{◌≡◌, ℕ, suc, ◌≤◌, Bool, true, false, List, [], ◌∷◌, length, ap, ◌∙◌, refl, arith, zero, subst, None}
use Rattle.std.specs.List.{AllByRecursion}
use Rattle.std.specs.Prelude.{if◌then◌else◌, slice_get, Some}
use Rattle.smith_input.specs.Offers.{offers_of}

-- What holds of each item whose condition holds, holds of what is offered.

offered_first : {A : Type 0} (P : A → Type 0) (o : Bool × A) (os : List (Bool × A)) → (o.0 ≡ true → P o.1)
    → ((k : ℕ) (x : A) → slice_get (offers_of os) k ≡ Some x → P x)
    → (b : Bool) → o.0 ≡ b → (k : ℕ) (x : A) → slice_get (if b then o.1 ∷ offers_of os else offers_of os) k ≡ Some x → P x
offered_first P o os here later true f zero x e = let same : o.1 ≡ x = cc in subst P same (here f)
offered_first P o os here later true f (suc k) x e = later k x e
offered_first P o os here later false f k x e = later k x e

pub offer_holds : {A : Type 0} (P : A → Type 0) (os : List (Bool × A)) → AllByRecursion (λ o. o.0 ≡ true → P o.1) os → (k : ℕ) (x : A)
    → slice_get (offers_of os) k ≡ Some x → P x
offer_holds P [] h k x e = absurd (let z : None ≡ Some x = e in cc)
offer_holds P (o ∷ os) h k x e = offered_first P o os h.0 (offer_holds P os h.1) o.0 refl k x e

-- What is offered is among what is offered.
offered_later : {A : Type 0} (p : Bool × A) (os : List (Bool × A)) (x : A) → (j : ℕ) × (slice_get (offers_of os) j ≡ Some x) → (b : Bool) → p.0 ≡ b
    → (j : ℕ) × (slice_get (if b then p.1 ∷ offers_of os else offers_of os) j ≡ Some x)
offered_later p os x later true e = (suc later.0, later.1)
offered_later p os x later false e = later

pub offers_found : {A : Type 0} (os : List (Bool × A)) (k : ℕ) (b : Bool) (x : A) → slice_get os k ≡ Some (b, x) → b ≡ true
    → (j : ℕ) × (slice_get (offers_of os) j ≡ Some x)
offers_found [] k b x e t = absurd (cc)
offers_found {A} (p ∷ os) zero b x e t =
    let same : p ≡ (b, x) = cc in
    let yes : p.0 ≡ true = ap (λ (z : Bool × A). z.0) same ∙ t in
    (0, ap (λ c. slice_get (if c then p.1 ∷ offers_of os else offers_of os) 0) yes ∙ ap (λ (z : Bool × A). Some z.1) same)
offers_found (p ∷ os) (suc k) b x e t = offered_later p os x (offers_found os k b x e t) p.0 refl

offers_few_by : {A : Type 0} (p : Bool × A) (os : List (Bool × A)) (n : ℕ) → length (offers_of os) ≤ n → (b : Bool) → p.0 ≡ b
    → length (if b then p.1 ∷ offers_of os else offers_of os) ≤ suc n
offers_few_by p os n h true e = omega (arith, h)
offers_few_by p os n h false e = omega (arith, h)

pub offers_few : {A : Type 0} (os : List (Bool × A)) → length (offers_of os) ≤ length os
offers_few [] = omega arith
offers_few (p ∷ os) = offers_few_by p os (length os) (offers_few os) p.0 refl
