use Rattle.std.proofs.Common.{◌≡◌, inl, inr, ◌∷◌, ◌++◌, [], ◌∙◌, ap, append-nil, refl, sym, true}
use Rattle.smith_tree.specs.Bodies.{after_import}
use Rattle.smith_tree.specs.Tree.{function_of}
use Rattle.smith_validate.specs.Exact.{IsBodyExactly}
use Rattle.smith_validate.specs.Parts.{IsOpen}
use Rattle.smith_validate.specs.Steps.{At}
use Rattle.smith_validate.proofs.Judging.{later_none, refute_by, steps_err}
use Rattle.smith_validate.proofs.rows.add_import_row.Goals as goal

pub returns-in_err-add_import-clause-steps : goal.returns-in_err-add_import-clause-steps
returns-in_err-add_import-clause-steps c =
    steps_err _ _ c.from_residual.ensures.1
    (λ at outer names table h. refute_by (λ d q. (q.0, q.1)) ((c.in_err-add_import.ensures {u = tt}).judged true at.1 outer names table h.body))

pub returns-in_ok-push-in-Func-clause-steps : goal.returns-in_ok-push-in-Func-clause-steps
returns-in_ok-push-in-Func-clause-steps c =
    let done = c.in_ok-add_import.ensures {u = tt} in
    record {
      judged = λ at outer names table h. let j = done.judged true at.1 outer names table h.body in (j.0, j.1, tt);
      added = λ at outer names table h.
          later_none (IsOpen c.args.known.now (record { functions = c.push.new.self; body = c.add_import.new.body })) _ outer names table (record {
            body = done.added true at.1 outer names table h.body;
            functions_are = (c.in_ok-push-in-Func.ensures {u = tt}).items
                ∙ (ap (λ fs. fs ++ c.in-Func.ty ∷ []) h.functions_are ∙ ap (λ to. at.0.functions ++ function_of to) (sym c.in-Func.is));
          });
    }

pub returns-in-Module : goal.returns-in-Module
returns-in-Module c =
    let k = c.args.known.now in
    let done = c.in_ok-add_import.ensures {u = tt} in
    let none : function_of c.args.import.now.to ≡ [] = elim c.in-Module.is [
      | inl m ↦ ap function_of m.1
      | inr r ↦ elim r [ inl e ↦ ap function_of e.1 | inr s ↦ elim s [ inl n ↦ ap function_of n.1 | inr i ↦ ap function_of i.1 ] ]
    ] in
    record {
      steps = record {
        judged = λ at outer names table h. let j = done.judged true at.1 outer names table h.body in (j.0, j.1, tt);
        added = λ at outer names table h.
            later_none (IsOpen k (record c.args.here.now { body = c.add_import.new.body })) _ outer names table (record {
              body = done.added true at.1 outer names table h.body;
              functions_are = h.functions_are ∙ sym (ap (λ fs. at.0.functions ++ fs) none ∙ append-nil at.0.functions);
            });
      };
      exactly = record {
        exact = λ at outer named table h u.
            later_none (λ (s : At). IsBodyExactly true k c.add_import.new.body s.1) (at.0, after_import outer at.1 c.args.import.now.to) outer named table
            (done.exact true at.1 outer named table h.exact u.0);
        refused = λ at outer named table h u. tt;
      };
      outer = refl;
    }
