use Rattle.std.proofs.Common.{◌≡◌, ◌++◌, ◌-◌, ap, arith, map, sym, ◌∙◌}
use Rattle.std.specs.Option.{option_map}
use Rattle.smith_change.specs.Rows.{new_members}
use Rattle.smith_change.proofs.Filling.{fill_end, fill_step}
use Rattle.smith_change.proofs.members.filled.Goals as goal

pub loop-number-preserved : goal.loop-number-preserved
loop-number-preserved g c = λ new are.
    fill_step g.T.Entry.shown new c.loop-number.all.items c.push.new.self.items c.in-Some.new c.loop-number.number c.saturating_sub-number-end.result _
    c.loop-number-test.true (sym (ap (option_map g.T.Entry.shown) c.in-Some.is) ∙ c.in_ok-new.ensures ∙ are c.loop-number.number)
    c.in_ok-push.ensures.items (c.loop-number.invariant new are)

pub loop-number-init : goal.loop-number-init
loop-number-init g c = λ new are.
    let end = c.saturating_sub-number-end.result in
    let all : end - 0 ≡ end = omega arith in
    ap (λ l. l ++ new_members new 0 (end - 0)) (c.in_ok-all.ensures {u = tt})
    ∙ ap (λ n. map g.T.Entry.shown c.args.items.now ++ new_members new 0 n) all

pub returns : goal.returns
returns g c = λ new are.
    fill_end g.T.Entry.shown new c.loop-number.all.items c.args.items.now c.loop-number.number c.saturating_sub-number-end.result c.args.most
    c.loop-number-test.false c.saturating_sub-number-end.ensures (c.loop-number.invariant new are)

pub returns-in_default : goal.returns-in_default
returns-in_default g c = λ new are. tt
