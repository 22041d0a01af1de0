use Rattle.std.proofs.Common.{sym, ◌∙◌}
use Rattle.std.proofs.lemmas.Bool.{false≢true}
use Rattle.smith_check.proofs.NameSteps.{distinct_last, distinct_push, holds_more, was_new, was_there}
use Rattle.smith_check.proofs.names.Names.add_new.Goals as goal

pub returns-then-branch-clause-judged : goal.returns-then-branch-clause-judged
returns-then-branch-clause-judged c = λ before h d.
    distinct_push before c.args.name.now (sym (h.has c.args.name) ∙ was_new _ _ (c.in_ok-insert.ensures {u = tt}).added c.if-branch.true) d

pub returns-then-branch-clause-added : goal.returns-then-branch-clause-added
returns-then-branch-clause-added c = λ before h.
    holds_more c.args.self.now.set c.insert.new.self c.args.name before h (c.in_ok-insert.ensures {u = tt}).updates

pub returns-else-branch-clause-judged : goal.returns-else-branch-clause-judged
returns-else-branch-clause-judged c = λ before h d. record {
  is = λ n e.
      let there = was_there _ _ (c.in_ok-insert.ensures {u = tt}).added c.if-branch.false in
      false≢true (sym (distinct_last before c.args.name.now e) ∙ (sym (h.has c.args.name) ∙ there));
}
