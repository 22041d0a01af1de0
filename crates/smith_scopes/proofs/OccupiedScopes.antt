-- The counts of scopes that have an entry, one scope after another.
use Rattle.std.proofs.Common.{arith, ◌≡◌, ℕ, ◌+◌, ◌≤◌, Bool, true, false, cond, append-nil, append_assoc, List, [], ◌∷◌, ◌++◌, length, refl, sym, ap, ◌∙◌}
use Rattle.std.specs.Prelude.{drop, Option, None, Some, option_map, slice_get}
use Rattle.smith_input.proofs.Rests.{drop_past}
use Rattle.smith_syntax.specs.Marked.{Marked}
use Rattle.smith_syntax.specs.Places.{places}
use Rattle.smith_tree.specs.TypeOffers.{is_occupied, occupied}
use Rattle.smith_scopes.proofs.Plain.{rest_from}

-- a scope that has an entry, or has none
found : (o : Option Marked) (b : Bool) → option_map is_occupied o ≡ Some b → (s : Marked) × (o ≡ Some s) × (is_occupied s ≡ b)
found None b e = absurd (cc)
found (Some s) b e = (s, refl, cc)

module _ (scopes : List Marked) (i : ℕ) (b : Bool) (stands : option_map is_occupied (slice_get scopes i) ≡ Some b) (so_far : List ℕ)
    (here : so_far ++ places is_occupied i (drop i scopes) ≡ occupied scopes) where
  abbrev later : List ℕ
  later = places is_occupied (i + 1) (drop (i + 1) scopes)

  from_here : so_far ++ cond b (i ∷ later) later ≡ occupied scopes
  from_here = grind (arith, found, rest_from)

  pub occupied_here : b ≡ true → (so_far ++ i ∷ []) ++ later ≡ occupied scopes
  occupied_here t = append_assoc so_far (i ∷ []) later ∙ (ap (λ c. so_far ++ cond c (i ∷ later) later) (sym t) ∙ from_here)

  pub empty_here : b ≡ false → so_far ++ later ≡ occupied scopes
  empty_here f = ap (λ c. so_far ++ cond c (i ∷ later) later) (sym f) ∙ from_here

pub occupied_past : (scopes : List Marked) (i : ℕ) (so_far : List ℕ) → length scopes ≤ i
    → so_far ++ places is_occupied i (drop i scopes) ≡ occupied scopes → so_far ≡ occupied scopes
occupied_past scopes i so_far h e =
    sym (append-nil so_far) ∙ (ap (λ ss. so_far ++ places is_occupied i ss) (sym (drop_past scopes i h)) ∙ e)
