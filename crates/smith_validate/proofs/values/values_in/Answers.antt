use Rattle.std.proofs.Common.{◌≡◌, ◌+◌, ◌∙◌, [], ap, append-nil, arith, Some, subst}
use Rattle.std.specs.List.{flat_map}
use Rattle.std.specs.Option.{option_to_list}
use Rattle.std.specs.Prelude.{◌<◌}
use Rattle.smith_tree.specs.Facts.{sizes}
use Rattle.smith_tree.specs.Sizes.{maybe_size, size_bound, summed, value_size}
use Rattle.smith_syntax.specs.Sizes.{capped}
use Rattle.smith_syntax.proofs.Members.{case_types, field_types, tuple_types}
use Rattle.smith_validate.specs.Marks.{both}
use Rattle.smith_validate.specs.Values.{AreValues, marks_from, value_marks}
use Rattle.smith_validate.proofs.Valued.{marks_append}
use Rattle.smith_validate.proofs.values.values_in.Goals as goal

pub returns-in-Record : goal.returns-in-Record
returns-in-Record c =
    let xs = c.in-Record.ty.fields.items in
    rw (c.in-Record.is)
    (subst (λ vs. AreValues c.small_values.result c.args.scope.now vs (λ types. summed types vs < size_bound) (λ types. summed types vs))
    (append-nil (flat_map (λ p. option_to_list (Some p.1)) xs) ∙ field_types xs) (rw c.deref.ensures.value at c.small_values.ensures))

pub returns-in-Variant : goal.returns-in-Variant
returns-in-Variant c =
    let xs = c.in-Variant.ty.cases.items in
    rw (c.in-Variant.is)
    (subst (λ vs. AreValues c.small_values-in-Variant.result c.args.scope.now vs (λ types. summed types vs < size_bound) (λ types. summed types vs))
    (append-nil (flat_map (λ p. option_to_list p.1) xs) ∙ case_types xs) (rw c.deref-in-Variant.ensures.value at c.small_values-in-Variant.ensures))

pub returns-in-Tuple : goal.returns-in-Tuple
returns-in-Tuple c =
    let xs = c.in-Tuple.ty.fields.items in
    rw (c.in-Tuple.is)
    (subst (λ vs. AreValues c.small_values-in-Tuple.result c.args.scope.now vs (λ types. summed types vs < size_bound) (λ types. summed types vs))
    (append-nil (flat_map (λ v. option_to_list (Some v)) xs) ∙ tuple_types xs) (rw c.deref-in-Tuple.ensures.value at c.small_values-in-Tuple.ensures))

pub returns-in-List : goal.returns-in-List
returns-in-List c = rw (c.in-List.is) (record {
  bound = tt;
  judged = λ own k. tt;
  size = λ own k.
      let v = value_size (sizes own.types) c.in-List.ty.elem_ty in
      let same : c.new-in-List.result.size + v ≡ v = omega (arith, c.new-in-List.ensures.size) in
      c.add.ensures.size own k ∙ ap capped same;
  needs = λ types names table are. c.add.ensures.needs types names table [] are tt;
  marks = c.add.ensures.marks ∙ ap (λ n. both n (value_marks c.args.scope.now.types.items c.in-List.ty.elem_ty)) c.new-in-List.ensures.needs;
})

pub returns-in-Option : goal.returns-in-Option
returns-in-Option c = rw (c.in-Option.is) (record {
  bound = tt;
  judged = λ own k. tt;
  size = λ own k.
      let v = value_size (sizes own.types) c.in-Option.ty.inner_ty in
      let same : c.new-in-Option.result.size + v ≡ v = omega (arith, c.new-in-Option.ensures.size) in
      c.add-in-Option.ensures.size own k ∙ ap capped same;
  needs = λ types names table are. c.add-in-Option.ensures.needs types names table [] are tt;
  marks = c.add-in-Option.ensures.marks ∙ ap (λ n. both n (value_marks c.args.scope.now.types.items c.in-Option.ty.inner_ty)) c.new-in-Option.ensures.needs;
})

pub returns-in-Result : goal.returns-in-Result
returns-in-Result c =
    let kept = c.args.scope.now.types.items in
    let ok = c.in-Result.ty.ok_ty in
    let err = c.in-Result.ty.err_ty in
    rw (c.in-Result.is) (record {
      bound = tt;
      judged = λ own k. tt;
      size = λ own k.
          let a = c.add_maybe-ok.ensures.size own k ∙ ap (λ n. capped (n + maybe_size (sizes own.types) ok)) c.new-in-Result.ensures.size in
          c.add_maybe.ensures.size own k ∙ omega (arith, a);
      needs = λ types names table are.
          c.add_maybe.ensures.needs types names table (option_to_list ok) are (c.add_maybe-ok.ensures.needs types names table [] are tt);
      marks = marks_append kept c.add_maybe-ok.result.needs c.add_maybe.result.needs (option_to_list ok) (option_to_list err)
          (c.add_maybe-ok.ensures.marks ∙ ap (λ n. marks_from kept n (option_to_list ok)) c.new-in-Result.ensures.needs) c.add_maybe.ensures.marks;
    })
