use Rattle.std.proofs.Common.{arith, length, ap, ◌∙◌, ◌++◌, take, drop, reverse}
use Rattle.std.proofs.lemmas.List.{with_items_is}
use Rattle.smith_read.proofs.Leads.{length-reversed-end, tail_reversed, reversed}
use Rattle.smith_read.proofs.writing.backwards.reverse_from.Goals as goal

pub returns-clause-reversed : goal.returns-clause-reversed
returns-clause-reversed c = λ old p at g.
    let v = c.deref_mut.ensures.value in
    let all = ap length v in
    let whole = tail_reversed c.args.start c.deref_mut.result.now c.reverse.new.self c.reverse.ensures.after in
    let long = length-reversed-end c.args.start c.deref_mut.result.now (omega (arith, c.requires, all, c.args.out.now.ok.0)) in
    reversed c.args.start at g
    (with_items_is c.args.out.now _ (omega (arith, ap length whole, all, long, c.args.out.now.ok.0)) ∙ whole
    ∙ ap (λ xs. take c.args.start xs ++ reverse (drop c.args.start xs)) v) (omega arith)
