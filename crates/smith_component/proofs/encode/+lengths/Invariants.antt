use Rattle.std.proofs.Common.{◌≤◌, ◌*◌, ◌^◌}
use Rattle.smith_format.proofs.Sizes.{Sum}
use Rattle.smith_tree.specs.Grammar.{part}
use Rattle.smith_component.specs.Shown.{shown_section}
use Rattle.smith_component.proofs.encode.+lengths.Given as goal

abbrev pub invariant-component_len-loop-section : goal.invariant-component_len-loop-section
invariant-component_len-loop-section l = Sum (λ s. part (shown_section s)) l.section-items l.section-index l.total × (l.total ≤ l.section-index * 2 ^ 34)
