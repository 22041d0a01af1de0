-- Components that hold components: how they are read at each depth, and results for the contents of sections.
use Rattle.std.proofs.Common.{◌≡◌, ℕ, zero, suc, ◌+◌, ◌-◌, ◌<◌, ◌≤◌, List, [], ◌∷◌, ◌++◌, length, Option, Some, None, refl, ap, sym, ◌∙◌, arith}
use Rattle.std.proofs.Common.{append_assoc}
use Rattle.std.proofs.lemmas.List.{append-nil}
use Rattle.smith_tree.specs.Tree.{Tree, Part}
use Rattle.smith_read.specs.Reading.{◌>>=◌}
use Rattle.smith_read.specs.Parts.{part_at, parts_at, contents_at, component_at}

pub depth_none : (n : ℕ) (bs : List ℕ) → n ≡ 0 → component_at n bs ≡ None
unfolding component_at
depth_none n bs e = ap (λ m. component_at m bs) e

pub depth_some : (n : ℕ) (bs : List ℕ) → 0 < n → component_at n bs ≡ contents_at (n - 1) (component_at (n - 1)) bs
unfolding component_at
depth_some zero bs h = absurd (omega arith)
depth_some (suc n) bs h = ap (λ m. contents_at m (component_at m) bs) (omega arith)

module _ (l : ℕ) (inner : List ℕ → Option Tree) where
  -- what was read before, and what is still read
  abbrev pub with_parts : List Part → Option (List Part) → Option (List Part)
  with_parts front read = read >>= λ ps. Some (front ++ ps)

  nothing_left : (n : ℕ) → parts_at l inner n [] ≡ Some []
  unfolding parts_at
  nothing_left zero = refl
  nothing_left (suc n) = refl

  one_more : (n : ℕ) (bs : List ℕ) → 0 < length bs → parts_at l inner (suc n) bs ≡ part_at l inner bs >>= λ p. parts_at l inner n p.1 >>= λ ps. Some (p.0 ∷ ps)
  unfolding parts_at
  one_more n [] h = absurd (omega arith)
  one_more n (b ∷ bs) h = refl

  regroup : (front : List Part) (p : Part) (r : Option (List Part)) → with_parts front (r >>= λ ps. Some (p ∷ ps)) ≡ with_parts (front ++ p ∷ []) r
  regroup front p None = refl
  regroup front p (Some ps) = ap Some (sym (append_assoc front (p ∷ []) ps))

  pub parts_next : (front : List Part) (count i : ℕ) (bs : List ℕ) (p : Part) (after : List ℕ) (total : Option (List Part)) → i < count → 0 < length bs
      → part_at l inner bs ≡ Some (p, after)
      → with_parts front (parts_at l inner (count - i) bs) ≡ total → with_parts (front ++ p ∷ []) (parts_at l inner (count - (i + 1)) after) ≡ total
  parts_next front count i bs p after total lt some h so_far =
      let k : count - i ≡ suc (count - (i + 1)) = omega arith in
      let one : with_parts front (parts_at l inner (count - i) bs) ≡ with_parts (front ++ p ∷ []) (parts_at l inner (count - (i + 1)) after)
      = ap (λ n. with_parts front (parts_at l inner n bs)) k
      ∙ ap (with_parts front)
      (one_more (count - (i + 1)) bs some ∙ ap (λ r. r >>= λ q. parts_at l inner (count - (i + 1)) q.1 >>= λ ps. Some (q.0 ∷ ps)) h)
      ∙ regroup front p (parts_at l inner (count - (i + 1)) after) in
      sym one ∙ so_far

  pub parts_stop : (front : List Part) (count i : ℕ) (bs : List ℕ) (total : Option (List Part)) → i < count → 0 < length bs
      → with_parts front (parts_at l inner (count - i) bs) ≡ total → part_at l inner bs ≡ None → total ≡ None
  parts_stop front count i bs total lt some so_far h =
      let k : count - i ≡ suc (count - (i + 1)) = omega arith in
      sym so_far ∙ ap (λ n. with_parts front (parts_at l inner n bs)) k
      ∙ ap (with_parts front) (one_more (count - (i + 1)) bs some ∙ ap (λ r. r >>= λ q. parts_at l inner (count - (i + 1)) q.1 >>= λ ps. Some (q.0 ∷ ps)) h)

  pub parts_done : (front : List Part) (n : ℕ) (bs : List ℕ) (total : Option (List Part)) → length bs ≡ 0 → with_parts front (parts_at l inner n bs) ≡ total
      → total ≡ Some front
  parts_done front n [] total z so_far = sym so_far ∙ ap (with_parts front) (nothing_left n) ∙ ap Some (append-nil front)
  parts_done front n (b ∷ bs) total z so_far = absurd (omega arith)

  pub parts_left : (front : List Part) (count i : ℕ) (bs : List ℕ) (total : Option (List Part)) → count ≤ i → 0 < length bs
      → with_parts front (parts_at l inner (count - i) bs) ≡ total → total ≡ None
  unfolding parts_at
  parts_left front count i [] total le some so_far = absurd (omega arith)
  parts_left front count i (b ∷ bs) total le some so_far = grind arith

pub ruleset depths = (depth_none, depth_some)
