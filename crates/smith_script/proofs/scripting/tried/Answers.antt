use Rattle.std.proofs.Common.{◌∙◌, ◌≤◌, arith, length, subst, sym}
use lib.Pointwise.{bytes_decides}
use Rattle.std.proofs.lemmas.Bool.{false≢true}
use Rattle.std.proofs.lemmas.Result.{IfOk-weaker}
use Rattle.smith_script.proofs.Differing.{common_within}
use Rattle.smith_script.proofs.Given.{are_bytes, given_or_memory, nothing_left, same_bytes}
use Rattle.smith_script.specs.Refusals.{DiffersWithin}
use Rattle.smith_script.proofs.scripting.tried.Goals.{else-is_empty-via-then-is_empty+else-eq, else-is_empty-via-else-is_empty}
use Rattle.smith_script.proofs.scripting.tried.Goals as goal

pub returns-else-is_empty-clause-refuses : goal.returns-else-is_empty-clause-refuses
returns-else-is_empty-clause-refuses c other t spells given =
    let run = rw c.new-left.ensures at c.in-Ok.ensures.made.run in
    let reading = c.in-Ok.ensures.generated.reading in
    let left = nothing_left c.args.config.now t c.args.input.now c.args.bytes.now spells _ _ _ run reading given in
    let same = same_bytes c.args.config.now t c.args.input.now c.args.bytes.now spells _ _ _ run reading given in
    elim c.else-is_empty.branch [
      | else-is_empty-via-then-is_empty+else-eq w ↦ false≢true (w.if-eq.ensures {u = tt} ∙ (bytes_decides _ _).1 (w.as_slice.ensures.value ∙ same))
      | else-is_empty-via-else-is_empty w ↦ false≢true ((w.if-is_empty.ensures {u = tt}).1 left)
    ]

pub returns-else-is_empty-clause-offset : goal.returns-else-is_empty-clause-offset
returns-else-is_empty-clause-offset c = subst (λ n. n ≤ length c.args.bytes.now) (sym c.common_length.ensures) (common_within _ c.args.bytes.now)

pub returns-else-is_empty-clause-bytes : goal.returns-else-is_empty-clause-bytes
returns-else-is_empty-clause-bytes c = are_bytes c.args.input.now (λ i. omega (arith, c.type_inv.input i))

pub returns-in-Err-clause-refuses : goal.returns-in-Err-clause-refuses
returns-in-Err-clause-refuses c =
    let why = rw c.new-left.ensures at c.in-Err.ensures.input.refuses in
    IfOk-weaker c.refused.result _ _ (λ is h other t spells given. h.1 (
    given_or_memory c.args.config.now t c.args.input.now c.args.bytes.now spells given c.in-Err.error _ why
    )) c.refused.ensures

pub returns-in-Err-clause-bytes : goal.returns-in-Err-clause-bytes
returns-in-Err-clause-bytes c = are_bytes c.args.input.now (λ i. omega (arith, c.type_inv.input i))

pub returns-in-Err-clause-offset : goal.returns-in-Err-clause-offset
returns-in-Err-clause-offset c =
    IfOk-weaker c.refused.result _ _ (λ is h. subst (DiffersWithin c.args.bytes.now) (sym h.0) tt) c.refused.ensures
