use Rattle.std.proofs.Common.{arith, ap, ◌∙◌, ◌++◌, ◌∷◌, [], get_or}
use Rattle.smith_run.specs.Page.{two_digits}
use Rattle.smith_run.proofs.Digits.{parted_first, parted_more}
use Rattle.smith_run.proofs.pages.spaced.Goals as goal
use Rattle.smith_run.proofs.pages.spaced.Goals.{then-not-is_first+in_ok-push, else-not-is_first}

pub loop-place-preserved : goal.loop-place-preserved
loop-place-preserved c =
    let place = c.loop-place.place in
    let bytes = c.args.bytes.now in
    let here = c.loop-place-test.true in
    let piece = two_digits (get_or bytes place 0) in
    c.in_ok-push_digits.ensures
    ∙ elim c.if-not-is_first.branch [
      | then-not-is_first+in_ok-push w ↦
          let space = ap (λ v. v.items) w.text-is ∙ (w.in_ok-push.ensures.items ∙ ap (λ t. t ++ 32 ∷ []) c.loop-place.invariant) in
          ap (λ t. t ++ piece) space ∙ parted_more two_digits place bytes (omega arith) here
      | else-not-is_first w ↦
          let same = ap (λ v. v.items) w.text-is ∙ c.loop-place.invariant in
          ap (λ t. t ++ piece) same ∙ parted_first two_digits place bytes (omega arith) here
    ]
