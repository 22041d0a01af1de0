use Rattle.std.proofs.Common.{◌≡◌, ◌∷◌, ◌++◌, [], ◌∙◌, ap, append-nil, fold, subst, sym, true, Some, None}
use Rattle.std.specs.Option.{option_to_list}
use Rattle.std.specs.Prelude.{slice_get}
use Rattle.smith_tree.specs.Bodies.{after_export}
use Rattle.smith_tree.specs.Demands.{everything}
use Rattle.smith_tree.specs.Validates.{ValidExports}
use Rattle.smith_validate.specs.Parts.{IsOpen}
use Rattle.smith_validate.specs.Steps.{Later}
use Rattle.smith_validate.specs.declared.open.Open.{Open}
use Rattle.smith_validate.proofs.Judging.{later_none, refute_by, refuted_at, steps_err}
use Rattle.smith_validate.proofs.Sections.{found}
use Rattle.smith_validate.proofs.rows.add_export_row.Goals as goal

pub returns-in_default-clause-steps : goal.returns-in_default-clause-steps
returns-in_default-clause-steps c =
    let i = c.args.export.now.func_index in
    record {
      judged = λ at outer names table h.
          let none : None ≡ slice_get at.0.functions i = c.in_default.ensures ∙ ap (λ fs. slice_get fs i) h.functions_are in
          subst (λ o. ValidExports everything (found o ++ []) outer at.1) none tt;
      added = λ at outer names table h.
          let none : None ≡ slice_get at.0.functions i = c.in_default.ensures ∙ ap (λ fs. slice_get fs i) h.functions_are in
          subst (λ o. Later (IsOpen c.args.known.now c.args.here.now)
          (record at.0 { functions = at.0.functions ++ option_to_list o }, fold (after_export outer) at.1 (found o ++ [])) outer names table) none
          (later_none (IsOpen c.args.known.now c.args.here.now) _ outer names table
          (record { body = h.body; functions_are = h.functions_are ∙ sym (append-nil at.0.functions) }));
    }

pub returns-in_err-add_export-clause-steps : goal.returns-in_err-add_export-clause-steps
returns-in_err-add_export-clause-steps c =
    let i = c.args.export.now.func_index in
    steps_err _ _ c.from_residual.ensures.1 (λ at outer names table h.
    let some : Some c.in-Some.ty ≡ slice_get at.0.functions i = c.in-Some.ensures ∙ ap (λ fs. slice_get fs i) h.functions_are in
    refuted_at (λ o d. ValidExports d (found o ++ []) outer at.1) _ _ some
    (refute_by (λ d q. (q.0, q.1)) ((c.in_err-add_export.ensures {u = tt}).judged true at.1 outer names table h.body)))

pub returns-clause-steps : goal.returns-clause-steps
returns-clause-steps c =
    let i = c.args.export.now.func_index in
    let done = c.in_ok-add_export.ensures {u = tt} in
    let new : Open = record { functions = c.push.new.self; body = c.add_export.new.body } in
    record {
      judged = λ at outer names table h.
          let some : Some c.in-Some.ty ≡ slice_get at.0.functions i = c.in-Some.ensures ∙ ap (λ fs. slice_get fs i) h.functions_are in
          let j = done.judged true at.1 outer names table h.body in
          subst (λ o. ValidExports everything (found o ++ []) outer at.1) some (j.0, j.1, tt);
      added = λ at outer names table h.
          let some : Some c.in-Some.ty ≡ slice_get at.0.functions i = c.in-Some.ensures ∙ ap (λ fs. slice_get fs i) h.functions_are in
          subst (λ o. Later (IsOpen c.add_export.new.known new)
          (record at.0 { functions = at.0.functions ++ option_to_list o }, fold (after_export outer) at.1 (found o ++ [])) outer names table) some
          (later_none (IsOpen c.add_export.new.known new) _ outer names table (record {
            body = done.added true at.1 outer names table h.body;
            functions_are = (c.in_ok-push.ensures {u = tt}).items ∙ ap (λ fs. fs ++ c.in-Some.ty ∷ []) h.functions_are;
          }));
    }
