use Rattle.std.proofs.Common.{◌≡◌, map, take}
use Rattle.std.specs.List.{flat_map}
use Rattle.std.specs.Option.{option_to_list}
use Rattle.smith_syntax.specs.Marks.{narrowest, sizes, value_reach}
use Rattle.smith_syntax.specs.Sizes.{capped, summed}
use Rattle.smith_scope.proofs.members.parts_of.Given as goal

abbrev pub invariant-loop-item : goal.invariant-loop-item
invariant-loop-item g l =
    (l.parts.reach ≡ narrowest (map (value_reach l.marks) (flat_map (λ i. option_to_list (g.T.Valued.value i)) (take l.item-index l.items))))
    × (l.parts.size ≡ capped (summed (sizes l.marks) (flat_map (λ i. option_to_list (g.T.Valued.value i)) (take l.item-index l.items))))
