-- How the parts of a module are tested, one member of a list after another, and where each of the groups that tile is.
use Rattle.std.proofs.Common.{◌≡◌, ℕ, zero, suc, ◌<◌, ◌≤◌, ◌↔◌, List, [], ◌∷◌, length, drop, get_or, arith}
use Rattle.std.proofs.lemmas.List.{get_or_default}
use Rattle.std.specs.List.{AllByRecursion}
use Rattle.smith_core.specs.Parts.{Tiles}

-- What a test has found so far: P holds of all members if it holds of the remaining ones.
pub record Passed {A : Type 0} (P : A → Type 0) (xs : List A) (i : ℕ) : Type 0 where
  pub so_far : AllByRecursion P (drop i xs) → AllByRecursion P xs

tiles_le : (gs : List (ℕ × ℕ)) (low high : ℕ) → Tiles gs low high → low ≤ high
tiles_le [] low high t = omega (arith, t)
tiles_le (g ∷ gs) low high t = let l = tiles_le gs g.1 high t.2 in omega (arith, t.0, t.1)

-- Each group ends no sooner than it begins, and no later than the last of them.
pub tiles_within : (gs : List (ℕ × ℕ)) (low high i : ℕ) (d : ℕ × ℕ) → Tiles gs low high → i < length gs
    → ((get_or gs i d).0 ≤ (get_or gs i d).1) × ((get_or gs i d).1 ≤ high)
tiles_within [] low high i d t h = absurd (omega (arith, h))
tiles_within (g ∷ gs) low high zero d t h = (t.1, tiles_le gs g.1 high t.2)
tiles_within (g ∷ gs) low high (suc i) d t h = tiles_within gs g.1 high i d t.2 (omega (arith, h))

-- a member, whatever is used for one that is not there
pub member_is : {A : Type 0} (xs : List A) (i : ℕ) (d : A) → i < length xs
    → get_or xs i d ≡ get_or xs i (get_or xs i d)
member_is xs i d h = get_or_default xs i d _ h

-- What a test of the groups has found so far: they tile if the remaining ones do, from where the last one ended.
pub record Tiled (gs : List (ℕ × ℕ)) (i next high : ℕ) : Type 0 where
  pub is : Tiles gs 0 high ↔ Tiles (drop i gs) next high
