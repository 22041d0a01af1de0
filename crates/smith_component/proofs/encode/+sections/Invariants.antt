use Rattle.smith_format.proofs.Many.{Put}
use Rattle.smith_tree.specs.Grammar.{part}
use Rattle.smith_component.specs.Shown.{shown_section}
use Rattle.smith_component.proofs.encode.+sections.Given as goal

abbrev pub invariant-put_component-loop-section : goal.invariant-put_component-loop-section
invariant-put_component-loop-section l = Put (λ s. part (shown_section s)) l.section-items l.section-index l.initial.out l.out
