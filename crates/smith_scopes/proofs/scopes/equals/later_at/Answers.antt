use Rattle.std.proofs.Common.{◌≡◌, ℕ, ◌+◌, ◌-◌, List, ◌∷◌, ap, ◌∙◌, arith, add-one}
use Rattle.std.specs.Prelude.{slice_get}
use Rattle.smith_scopes.proofs.Rows.{later_no, later_yes}
use Rattle.smith_scopes.proofs.scopes.equals.later_at.Goals as goal
use Rattle.smith_scopes.proofs.scopes.equals.later_at.Goals.{else-is_equal, then-is_equal+else-earlier-k}

slice_next : (i : ℕ) (is : List ℕ) (n m : ℕ) → n ≡ m + 1 → slice_get (i ∷ is) n ≡ slice_get is m
slice_next i is n m e = ap (slice_get (i ∷ is)) (e ∙ add-one m)

pub returns-then-earlier-k : goal.returns-then-earlier-k
returns-then-earlier-k c = grind (arith, later_yes)

pub loop-index-preserved : goal.loop-index-preserved
loop-index-preserved c = grind (arith, later_yes, slice_next, else-is_equal, later_no)
