use Rattle.std.proofs.Common.{Some, ◌++◌, ap, refl}
use Rattle.std.specs.List.{flat_map}
use Rattle.std.specs.Option.{option_to_list}
use Rattle.smith_syntax.specs.Marks.{sizes, value_reach}
use Rattle.smith_syntax.specs.Sizes.{value_size}
use Rattle.smith_syntax.proofs.Members.{field_types}
use Rattle.smith_scope.proofs.Parts.{plain_is, reach_more, size_more}
use Rattle.smith_scope.proofs.members.function_mark.Goals as goal

pub returns : goal.returns
returns c =
    let marks = c.args.marks.now in
    let ps = c.ty.inside.params.items in
    let last = option_to_list c.ty.inside.result in
    rw (← c.ty.view_is)
    (plain_is marks (flat_map (λ p. option_to_list (Some p.1)) ps ++ last) _ (ap (λ vs. vs ++ last) (field_types ps)) c.add_some.result.reach
    c.add_some.result.size
    (reach_more (value_reach marks) (flat_map (λ p. option_to_list (Some p.1)) ps) _ last c.parts_of.result.reach c.add_some.result.reach refl
    (rw c.deref.ensures.value at c.parts_of.ensures.reach) c.add_some.ensures.reach)
    (size_more (value_size (sizes marks)) (flat_map (λ p. option_to_list (Some p.1)) ps) _ last c.parts_of.result.size c.add_some.result.size refl
    (rw c.deref.ensures.value at c.parts_of.ensures.size) c.add_some.ensures.size)
    c.plain.ensures)
