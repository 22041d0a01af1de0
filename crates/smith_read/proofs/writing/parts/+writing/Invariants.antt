use Rattle.smith_tree.specs.Grammar.{part}
use Rattle.smith_read.specs.PartNodes.{shown_part_node}
use Rattle.smith_read.proofs.Leads.{Put}
use Rattle.smith_read.proofs.writing.parts.+writing.Given as goal

abbrev pub invariant-put_component-loop-index : goal.invariant-put_component-loop-index
invariant-put_component-loop-index l = Put (λ n. part (shown_part_node n)) l.nodes l.index l.initial.out l.out
