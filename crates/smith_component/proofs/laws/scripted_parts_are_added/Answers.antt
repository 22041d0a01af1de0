use Rattle.smith_component.proofs.Planned.{part_stands}
use Rattle.smith_component.proofs.Script.{part_turn}
use Rattle.smith_component.proofs.Tree.{formed_front}
use Rattle.smith_tree.specs.Open.{scopes_in}
use Rattle.smith_tree.specs.Tree.{ends}
use Rattle.smith_component.proofs.laws.scripted_parts_are_added.Goals as goal

pub returns : goal.returns
returns c config stack p consistent flat continues rest =
    let formed = formed_front stack.inner p (scopes_in stack.outer) ends continues.formed in
    part_turn config consistent stack p rest flat continues
    (part_stands p config stack.outer stack.inner continues.readable formed.1 continues.maxima continues.sized continues.spelled)
