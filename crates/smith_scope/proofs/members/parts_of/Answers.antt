use Rattle.std.proofs.Common.{take, ◌+◌}
use Rattle.std.specs.List.{flat_map}
use Rattle.std.specs.Option.{option_to_list}
use Rattle.smith_syntax.specs.Marks.{sizes, value_reach}
use Rattle.smith_syntax.specs.Sizes.{value_size}
use Rattle.smith_scope.proofs.Parts.{items_more, reach_more, size_more}
use Rattle.smith_scope.proofs.members.parts_of.Goals as goal

pub loop-item-preserved : goal.loop-item-preserved
loop-item-preserved g c =
    let xs = c.args.items.now in
    let i = c.loop-item.item-index in
    let x = c.item-item.result in
    let more = items_more (λ y. option_to_list (g.T.Valued.value y)) xs i x c.loop-item-test.true c.item-item.is in
    let marks = c.args.marks.now in (
      reach_more (value_reach marks) (flat_map (λ y. option_to_list (g.T.Valued.value y)) (take i xs))
          (flat_map (λ y. option_to_list (g.T.Valued.value y)) (take (i + 1) xs)) (option_to_list (g.T.Valued.value x)) c.loop-item.parts.reach
          c.add_some-parts.result.reach more c.loop-item.invariant.0 (rw (← c.value.ensures) c.add_some-parts.ensures.reach),
      size_more (value_size (sizes marks)) (flat_map (λ y. option_to_list (g.T.Valued.value y)) (take i xs))
          (flat_map (λ y. option_to_list (g.T.Valued.value y)) (take (i + 1) xs)) (option_to_list (g.T.Valued.value x)) c.loop-item.parts.size
          c.add_some-parts.result.size more c.loop-item.invariant.1 (λ s. rw (← c.value.ensures) (c.add_some-parts.ensures.size s)),
    )
