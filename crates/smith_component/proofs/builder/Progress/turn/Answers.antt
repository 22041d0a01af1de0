use Rattle.std.proofs.Common.{arith, ◌≡◌, ℕ, List, [], ◌∷◌}
use Rattle.smith_input.specs.Choices.{ReadsAmong}
use Rattle.smith_format.specs.declared.config.Config.{Config}
use Rattle.smith_tree.specs.Open.{Open, items}
use Rattle.smith_tree.specs.declared.choices.Item.{Item}
use Rattle.smith_tree.specs.declared.choices.Item.TheVariants.{Finish}
use Rattle.smith_component.proofs.Turn.{chosen, only_finish}
use Rattle.smith_component.proofs.builder.Progress.turn.Goals as goal

pub do_item-requires : goal.do_item-requires
do_item-requires c = grind (arith, chosen)

pub returns-clause-steps : goal.returns-clause-steps
returns-clause-steps c = grind arith

-- If no input is left, the choice is to finish.
finish_chosen : (config : Config) (stack : Open) (left after : List ℕ) (item : Item) → left ≡ [] → ReadsAmong (items config stack left) left item after
    → item ≡ Finish
finish_chosen config stack [] after item e r = only_finish r.place item r.named
finish_chosen config stack (x ∷ xs) after item e r = absurd (cc)

pub returns-clause-alone : goal.returns-clause-alone
returns-clause-alone c ready = grind (arith, finish_chosen)
