-- What reads leave is a tail, and is determined.
use Rattle.std.proofs.Common.{◌∷◌, ◌≡◌, ℕ, ◌+◌, ◌*◌, ◌<◌, ◌≤◌, ◌%◌, Bool, true, false, List, drop, refl, ap, sym, ◌∙◌, arith, ⊎_elim, ◌-◌}
use Rattle.std.proofs.Math.Seq.{drop-drop}
use Rattle.std.proofs.lemmas.Bool.{cases_lt}
use Rattle.std.proofs.Math.Nat.{mod-eq_of_lt, one-le-pow}
use Rattle.std.proofs.lemmas.Nat.{mod-mul-add}
use Rattle.smith_input.specs.Reading.{spelled, IsWidth, Reads, Flips, GoesOn, More, IsTail, one_ends_in}

pub tail_same : (bytes : List ℕ) → IsTail bytes bytes
tail_same bytes = (0, refl)

pub tail_is : {bytes rest : List ℕ} → rest ≡ bytes → IsTail rest bytes
tail_is e = (0, e)

pub tail_trans : {a b c : List ℕ} → IsTail c b → IsTail b a → IsTail c a
tail_trans {a} h g = (g.0 + h.0, h.1 ∙ (ap (drop h.0) g.1 ∙ drop-drop h.0 g.0 a))

pub reads_tail : {n k : ℕ} {bytes rest : List ℕ} → Reads n bytes k rest → IsTail rest bytes
reads_tail r = (r.width, r.left)

pub more_tail : {bits done min max : ℕ} {answer : Bool} {bytes rest : List ℕ} → More bits done min max bytes answer rest → IsTail rest bytes
more_tail {bits} {done} {min} {max} m =
    ⊎_elim
    (λ lt. ⊎_elim (λ below. tail_is (m.forced lt below).1) (λ above. (1, (m.asked lt above).left)) (cases_lt done min))
    (λ le. tail_is (m.full le).1)
    (cases_lt done max)

pub width_unique : {n v w : ℕ} → IsWidth n v → IsWidth n w → v ≡ w
width_unique {n} {v} {w} p q = omega (arith, p.least w q.enough, q.least v p.enough)

-- k is the number modulo n
pub rest_unique : (n a b s t number : ℕ) → a < n → b < n → number ≡ a + s * n → number ≡ b + t * n → a ≡ b
rest_unique n a b s t number p q e f =
    let same : s * n + a ≡ t * n + b = omega (arith, e, f) in
    sym (mod-mul-add s n a p) ∙ (ap (λ x. x % n) same ∙ mod-mul-add t n b q)

pub reads_unique : {n j k : ℕ} {bytes rest left : List ℕ} → Reads n bytes j rest → Reads n bytes k left → (j ≡ k) × (rest ≡ left)
reads_unique {n} {j} {k} {bytes} r s =
    let w : r.width ≡ s.width = width_unique r.is_width s.is_width in (
      rest_unique n j k r.turns s.turns (spelled r.width bytes) r.below s.below r.spells (ap (λ v. spelled v bytes) w ∙ s.spells),
      r.left ∙ (ap (λ v. drop v bytes) w ∙ sym s.left),
    )

pub flips_unique : {a b : Bool} {bytes rest left : List ℕ} → Flips bytes a rest → Flips bytes b left → (a ≡ b) × (rest ≡ left)
flips_unique {a = true} {b = true} f g = (refl, f.left ∙ sym g.left)
flips_unique {a = true} {b = false} f g = absurd (cc (g.bit.1 (f.bit.0 refl)))
flips_unique {a = false} {b = true} f g = absurd (cc (f.bit.1 (g.bit.0 refl)))
flips_unique {a = false} {b = false} f g = (refl, f.left ∙ sym g.left)

pub goes_on_unique : {bits : ℕ} {a b : Bool} {bytes rest left : List ℕ} → GoesOn bits bytes a rest → GoesOn bits bytes b left → (a ≡ b) × (rest ≡ left)
goes_on_unique {a = true} {b = true} f g = (refl, f.left ∙ sym g.left)
goes_on_unique {a = true} {b = false} f g = absurd (cc (g.bit.1 (f.bit.0 refl)))
goes_on_unique {a = false} {b = true} f g = absurd (cc (f.bit.1 (g.bit.0 refl)))
goes_on_unique {a = false} {b = false} f g = (refl, f.left ∙ sym g.left)

pub more_unique : {bits done min max : ℕ} {a b : Bool} {bytes rest left : List ℕ} → More bits done min max bytes a rest → More bits done min max bytes b left
    → (a ≡ b) × (rest ≡ left)
more_unique {bits} {done} {min} {max} m n =
    ⊎_elim
    (λ lt. ⊎_elim
    (λ below. ((m.forced lt below).0 ∙ sym (n.forced lt below).0, (m.forced lt below).1 ∙ sym (n.forced lt below).1))
    (λ above. goes_on_unique (m.asked lt above) (n.asked lt above))
    (cases_lt done min))
    (λ le. ((m.full le).0 ∙ sym (n.full le).0, (m.full le).1 ∙ sym (n.full le).1))
    (cases_lt done max)

-- a loop that has made all its turns makes no other
pub more_full : {bits done min max : ℕ} (bytes : List ℕ) → max ≤ done → More bits done min max bytes false bytes
more_full bytes h = record {
  full = λ _. (refl, refl);
  forced = λ lt. absurd (omega arith);
  asked = λ lt. absurd (omega arith);
}

-- a loop that goes on has not made all its turns
pub more_within : {bits done min max : ℕ} {bytes rest : List ℕ} → More bits done min max bytes true rest → done < max
more_within {bits} {done} {min} {max} m = ⊎_elim (λ lt. lt) (λ le. absurd (let e : true ≡ false = (m.full le).0 in cc)) (cases_lt done max)

-- below its minimum it goes on
pub more_past : {bits done min max : ℕ} {bytes rest : List ℕ} → done < max → More bits done min max bytes false rest → min ≤ done
more_past {bits} {done} {min} {max} lt m = ⊎_elim (λ below. absurd (let e : false ≡ true = (m.forced lt below).0 in cc)) (λ le. le) (cases_lt done min)

-- the results of single bytes

pub flips_one : (rest : List ℕ) → Flips (1 ∷ rest) true rest
flips_one rest = record { bit = (λ _. refl, λ _. refl); left = refl }

pub flips_zero : (rest : List ℕ) → Flips (0 ∷ rest) false rest
flips_zero rest = record { bit = (λ h. absurd (let z : false ≡ true = h in cc), λ h. absurd (omega arith)); left = refl }

pub ends_apart : (bits : ℕ) → 2 ≤ one_ends_in bits
ends_apart bits = omega (arith, one-le-pow (bits - 1) 2 (omega arith))

pub goes_on_one : {bits : ℕ} (rest : List ℕ) → GoesOn bits (1 ∷ rest) true rest
goes_on_one {bits} rest =
    let one : 1 % one_ends_in bits ≡ 1 = mod-eq_of_lt (omega (arith, ends_apart bits)) in
    record { bit = (λ _. omega (arith, one), λ _. refl); left = refl }

pub goes_on_zero : {bits : ℕ} (rest : List ℕ) → GoesOn bits (0 ∷ rest) false rest
goes_on_zero {bits} rest =
    let none : 0 % one_ends_in bits ≡ 0 = mod-eq_of_lt (omega (arith, ends_apart bits)) in
    record { bit = (λ h. absurd (let z : false ≡ true = h in cc), λ h. absurd (omega (arith, none, h))); left = refl }

pub more_one : {bits done min max : ℕ} (rest : List ℕ) → done < max → min ≤ done → More bits done min max (1 ∷ rest) true rest
more_one rest lt le = record { full = λ h. absurd (omega arith); forced = λ a h. absurd (omega arith); asked = λ a h. goes_on_one rest }

pub more_zero : {bits done min max : ℕ} (rest : List ℕ) → done < max → min ≤ done → More bits done min max (0 ∷ rest) false rest
more_zero rest lt le = record { full = λ h. absurd (omega arith); forced = λ a h. absurd (omega arith); asked = λ a h. goes_on_zero rest }

-- a turn that the minimum forces
pub more_first : {bits done min max : ℕ} (rest : List ℕ) → done < max → done < min → More bits done min max rest true rest
more_first rest lt below = record { full = λ h. absurd (omega arith); forced = λ a h. (refl, refl); asked = λ a h. absurd (omega arith) }
