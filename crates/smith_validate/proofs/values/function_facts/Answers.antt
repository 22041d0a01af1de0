use Rattle.std.proofs.Common.{◌≡◌, ◌++◌, ◌∙◌, ap, map, refl, subst}
use Rattle.std.specs.Option.{option_to_list}
use Rattle.std.specs.Prelude.{◌<◌}
use Rattle.smith_syntax.specs.Signature.{named}
use Rattle.smith_tree.specs.Demands.{Keeps}
use Rattle.smith_tree.specs.Facts.{sizes}
use Rattle.smith_tree.specs.Sizes.{size_bound, summed}
use Rattle.smith_syntax.specs.Sizes.{capped}
use Rattle.smith_validate.specs.Marks.{no_needs}
use Rattle.smith_validate.specs.Values.{CoversValues, function_plain, marks_from}
use Rattle.smith_validate.proofs.Judging.{passed_on, refuted_at}
use Rattle.smith_syntax.proofs.Members.{field_types}
use Rattle.smith_validate.proofs.Valued.{plain_kept, plain_marks}
use Rattle.smith_validate.proofs.values.function_facts.Goals as goal

pub returns-in_err-values-clause-judged : goal.returns-in_err-values-clause-judged
returns-in_err-values-clause-judged c = λ own k.
    let ps = c.ty.inside.params.items in
    rw (← c.ty.view_is)
    (passed_on _ _ c.from_residual.ensures.1
    (refuted_at (λ ts d. Keeps d.sizes (summed (sizes own.types) (ts ++ option_to_list c.ty.inside.result) < size_bound)) _ _ (field_types ps)
    (rw c.deref.ensures.value at ((c.in_err-values.ensures {u = tt}).judged own k))))

pub returns-clause-judged : goal.returns-clause-judged
returns-clause-judged c = λ own k.
    let ps = c.ty.inside.params.items in
    rw (← c.ty.view_is)
    (subst (λ ts. summed (sizes own.types) (ts ++ option_to_list c.ty.inside.result) < size_bound) (field_types ps)
    (rw c.deref.ensures.value at ((c.in_ok-values.ensures {u = tt}).judged own k)))

pub returns-clause-size : goal.returns-clause-size
returns-clause-size c = λ own k.
    let ps = c.ty.inside.params.items in
    rw (← c.ty.view_is)
    (ap (λ f. f.size) c.plain_type.ensures
    ∙ subst (λ ts. c.in_ok-values.values.size ≡ capped (summed (sizes own.types) (ts ++ option_to_list c.ty.inside.result))) (field_types ps)
    (rw c.deref.ensures.value at ((c.in_ok-values.ensures {u = tt}).size own k)))

pub returns-clause-kept : goal.returns-clause-kept
returns-clause-kept c = λ id types names table are.
    let ps = c.ty.inside.params.items in
    let v = c.in_ok-values.values in
    rw (← c.ty.view_is, c.plain_type.ensures)
    (plain_kept table names v.needs v.size (function_plain id types (record { params = map named ps; result = c.ty.inside.result })) refl
    (subst (λ ts. CoversValues types names v.needs (ts ++ option_to_list c.ty.inside.result)) (field_types ps)
    (rw c.deref.ensures.value at ((c.in_ok-values.ensures {u = tt}).needs types names table are))) refl)

pub returns-clause-marks : goal.returns-clause-marks
returns-clause-marks c =
    let ps = c.ty.inside.params.items in
    let v = c.in_ok-values.values in
    rw (← c.ty.view_is, c.plain_type.ensures)
    (plain_marks v.needs v.size _
    (subst (λ ts. v.needs ≡ marks_from c.args.scope.now.types.items no_needs (ts ++ option_to_list c.ty.inside.result)) (field_types ps)
    (rw c.deref.ensures.value at (c.in_ok-values.ensures {u = tt}).marks)))
