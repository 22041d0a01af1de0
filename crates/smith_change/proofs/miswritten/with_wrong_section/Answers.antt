use Rattle.std.proofs.Common.{sym, subst}
use Rattle.smith_change.specs.Miswritten.{Miswrites, unknown}
use Rattle.smith_change.proofs.WrongBytes.{made, made_counted, made_longer, made_shorter, section_there}
use Rattle.smith_change.proofs.miswritten.with_wrong_section.Goals as goal

pub returns-in-Longer : goal.returns-in-Longer
returns-in-Longer c =
    let s = c.in-Some.section in
    let there = section_there c.args.bytes.now c.split_at.result.0.now c.split_at.result.1.now s.rest.now c.min.result s.id s.length c.split_at.ensures.front
    c.split_at.ensures.back c.in-Some.ensures in
    made _ _ c.with_length.result
    (λ b h. subst (λ w. Miswrites w c.args.bytes.now b.items) (sym c.in-Longer.is)
    (made_longer c.args.bytes.now c.split_at.result.0.now s.rest.now s.id s.length there c.checked_add.result _ h.0 b.items c.checked_add.ensures h.1 h.2))
    c.with_length.ensures

pub returns-in-Shorter : goal.returns-in-Shorter
returns-in-Shorter c =
    let s = c.in-Some.section in
    let there = section_there c.args.bytes.now c.split_at.result.0.now c.split_at.result.1.now s.rest.now c.min.result s.id s.length c.split_at.ensures.front
    c.split_at.ensures.back c.in-Some.ensures in
    made _ _ c.with_length-in-Shorter.result
    (λ b h. subst (λ w. Miswrites w c.args.bytes.now b.items) (sym c.in-Shorter.is)
    (made_shorter c.args.bytes.now c.split_at.result.0.now s.rest.now s.id s.length there c.checked_sub.result h.0 b.items c.checked_sub.ensures h.1 h.2))
    c.with_length-in-Shorter.ensures

pub returns-in_ok-behind-in-UnknownSection : goal.returns-in_ok-behind-in-UnknownSection
returns-in_ok-behind-in-UnknownSection c =
    let s = c.in-Some.section in
    let there = section_there c.args.bytes.now c.split_at.result.0.now c.split_at.result.1.now s.rest.now c.min.result s.id s.length c.split_at.ensures.front
    c.split_at.ensures.back c.in-Some.ensures in
    subst (λ w. Miswrites w c.args.bytes.now c.in_ok-behind-in-UnknownSection.field-0.items) (sym c.in-UnknownSection.is)
    (unknown c.args.bytes.now _ c.split_at.result.0.now s.rest.now s.id s.length there c.in_ok-behind-in-UnknownSection.ensures)

pub returns-in-Count : goal.returns-in-Count
returns-in-Count c =
    let s = c.in-Some.section in
    let there = section_there c.args.bytes.now c.split_at.result.0.now c.split_at.result.1.now s.rest.now c.min.result s.id s.length c.split_at.ensures.front
    c.split_at.ensures.back c.in-Some.ensures in
    made _ _ c.with_count.result
    (λ b h. subst (λ w. Miswrites w c.args.bytes.now b.items) (sym c.in-Count.is)
    (made_counted c.args.bytes.now c.split_at.result.0.now s.rest.now s.id s.length there h.0 h.1 b.items h.2 h.3))
    c.with_count.ensures
