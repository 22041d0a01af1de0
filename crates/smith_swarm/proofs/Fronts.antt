-- Bytes after the first ones do not affect the limits.
use Rattle.std.proofs.Common.{◌≡◌, ℕ, ◌<◌, ◌++◌, ◌∷◌, List, [], length, length-append, get_or, ap, arith, append-nil}
use Rattle.std.specs.Prelude.{slice_index}
use Rattle.std.proofs.lemmas.List.{drop_at, get_or_append_left}
use Rattle.smith_format.specs.declared.config.Config.{Config}
use Rattle.smith_swarm.specs.Swarm.{after_front, front_len, limit_count, swarmed}

same_byte : (front rest : List ℕ) → length front ≡ front_len (front ++ rest) → (k : ℕ) → k < limit_count
    → get_or (front ++ rest) k 0 ≡ get_or front k 0
same_byte front [] whole k below = ap (λ bytes. get_or bytes k 0) (append-nil front)
same_byte front (x ∷ rest) whole k below = get_or_append_left front (x ∷ rest) 0 k (omega (arith, length-append front (x ∷ rest), whole))

module _ (front rest : List ℕ) (whole : length front ≡ front_len (front ++ rest)) where
  same_at : (k : ℕ) → k < limit_count → slice_index (front ++ rest) k ≡ slice_index front k
  same_at k below = same_byte front rest whole k below

  pub same_limits : (given : Config) → swarmed given (front ++ rest) ≡ swarmed given front
  unfolding swarmed
  same_limits given =
      cc (
        same_at 0 (omega arith),
        same_at 1 (omega arith),
        same_at 2 (omega arith),
        same_at 3 (omega arith),
        same_at 4 (omega arith),
        same_at 5 (omega arith),
        same_at 6 (omega arith),
        same_at 7 (omega arith),
        same_at 8 (omega arith),
        same_at 9 (omega arith),
        same_at 10 (omega arith),
        same_at 11 (omega arith),
        same_at 12 (omega arith),
        same_at 13 (omega arith),
        same_at 14 (omega arith),
        same_at 15 (omega arith),
        same_at 16 (omega arith),
        same_at 17 (omega arith),
        same_at 18 (omega arith),
        same_at 19 (omega arith),
      )

  pub same_rest : after_front (front ++ rest) ≡ rest
  same_rest = drop_at front rest (front_len (front ++ rest)) whole
