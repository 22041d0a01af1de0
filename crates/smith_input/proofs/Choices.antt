-- Choices among the items of a list: what they leave, that they are determined, and what a script says.
use Rattle.std.proofs.Common.{◌≡◌, ℕ, zero, suc, ◌≤◌, ◌^◌, Bool, true, false, List, [], ◌∷◌, ◌++◌, length, refl, sym, ap, ◌∙◌}
use Rattle.std.proofs.lemmas.Bool.{false≢true}
use Rattle.std.proofs.lemmas.Option.{slice_get_within, get_or_from_slice_get, slice_get_read}
use Rattle.std.specs.Bool.{Decides}
use Rattle.std.specs.List.{Contains}
use Rattle.std.specs.Prelude.{Some, None, slice_get, if◌then◌else◌}
use Rattle.smith_input.specs.Choices.{ReadsAmong}
use Rattle.smith_input.specs.Script.{rank_of, script_among}
use Rattle.smith_input.specs.Reading.{Reads, IsTail}
use Rattle.smith_input.proofs.Picks.{reads-pick}
use Rattle.smith_input.proofs.Reading.{reads_tail, reads_unique}

-- what a call for one of the items returns
pub among : {A : Type 0} {xs : List A} {bytes : List ℕ} {x : A} {rest : List ℕ} → (k : ℕ) × Reads (length xs) bytes k rest × (slice_get xs k ≡ Some x)
    → ReadsAmong xs bytes x rest
among r = record { place = r.0; reads = r.1; named = r.2 }

pub among_tail : {A : Type 0} {xs : List A} {bytes : List ℕ} {x : A} {rest : List ℕ} → ReadsAmong xs bytes x rest → IsTail rest bytes
among_tail r = reads_tail r.reads

pub among_same : {A : Type 0} {xs : List A} {bytes : List ℕ} {x y : A} {left rest : List ℕ} → ReadsAmong xs bytes x left → ReadsAmong xs bytes y rest
    → (x ≡ y) × (left ≡ rest)
among_same {xs = xs} {x = x} {y = y} r s =
    let d = reads_unique r.reads s.reads in
    let e : Some x ≡ Some y = sym r.named ∙ ap (slice_get xs) d.0 ∙ s.named in
    (let z : x ≡ y = cc in z, d.1)

pub among_contains : {A : Type 0} {xs : List A} {bytes : List ℕ} {x : A} {rest : List ℕ} → ReadsAmong xs bytes x rest → Contains xs x
among_contains {xs = xs} {x = x} r = (r.place, slice_get_within xs r.place x r.named, get_or_from_slice_get xs r.place x x r.named)

module _ {A : Type 0} (eq : A → A → Bool) (decides : (x y : A) → Decides (eq x y) (x ≡ y)) where
  rank_cases : (y x : A) (ys : List A) → ((k : ℕ) → slice_get ys k ≡ Some x → slice_get ys (rank_of eq ys x) ≡ Some x) → (k : ℕ) → slice_get (y ∷ ys) k ≡ Some x
      → (b : Bool) → eq y x ≡ b → slice_get (y ∷ ys) (if b then zero else suc (rank_of eq ys x)) ≡ Some x
  rank_cases y x ys later k f true e = ap Some ((decides y x).0 e)
  rank_cases y x ys later zero f false e = let z : y ≡ x = cc in absurd (false≢true (sym e ∙ (decides y x).1 z))
  rank_cases y x ys later (suc k) f false e = later k f

  -- the rank of an item is the place of one that is equal to it
  pub rank_found : (ys : List A) (x : A) (k : ℕ) → slice_get ys k ≡ Some x → slice_get ys (rank_of eq ys x) ≡ Some x
  rank_found [] x k f = absurd (let z : None ≡ Some x = f in cc)
  rank_found (y ∷ ys) x k f = rank_cases y x ys (rank_found ys x) k f (eq y x) refl

  -- the script of a choice, followed by any bytes, is read as the item
  pub among_read : (xs : List A) (x : A) (k : ℕ) (rest : List ℕ) → length xs ≤ 2 ^ 64 → slice_get xs k ≡ Some x
      → ReadsAmong xs (script_among eq xs x ++ rest) x rest
  among_read xs x k rest many f =
      let found = rank_found xs x k f in
      record {
        place = rank_of eq xs x;
        reads = reads-pick (length xs) (rank_of eq xs x) rest many (slice_get_within xs (rank_of eq xs x) x found);
        named = found;
      }

  pub among_written : (xs : List A) (x : A) (rest : List ℕ) → length xs ≤ 2 ^ 64 → Contains xs x → ReadsAmong xs (script_among eq xs x ++ rest) x rest
  among_written xs x rest many c = among_read xs x c.0 rest many (slice_get_read xs (length xs) c.0 x refl c.1 (sym c.2))

-- Nothing is chosen among nothing.
pub among_none : {A : Type 0} {xs : List A} {b : List ℕ} {x : A} {r : List ℕ} → xs ≡ [] → ReadsAmong xs b x r → ⊥
among_none {x = x} none c = let e : slice_get [] c.place ≡ Some x = ap (λ ys. slice_get ys c.place) (sym none) ∙ c.named in cc
