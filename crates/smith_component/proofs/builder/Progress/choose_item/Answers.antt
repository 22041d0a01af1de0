use Rattle.std.proofs.Common.{◌≡◌, ℕ, List, [], ◌∷◌, arith, refl}
use Rattle.smith_input.specs.Choices.{ReadsAmong}
use Rattle.smith_format.specs.declared.config.Config.{Config}
use Rattle.smith_component.specs.BuilderView.{stack_of}
use Rattle.smith_tree.specs.Open.{Open, items}
use Rattle.smith_tree.specs.declared.choices.Item.TheVariants.{Finish}
use Rattle.smith_component.proofs.builder.Progress.choose_item.Goals as goal

-- If no input is left, the finish is the only choice.
finish_alone : (config : Config) (stack : Open) (b : List ℕ) → b ≡ [] → ReadsAmong (items config stack b) b Finish b
finish_alone config stack [] e = record {
  place = 0;
  reads = record {
    width = 0;
    is_width = record { enough = omega arith; least = λ v h. omega arith };
    below = omega arith;
    turns = 0;
    spells = refl;
    left = refl;
  };
  named = refl;
}
finish_alone config stack (x ∷ xs) e = absurd (cc)

pub returns-then-is_empty-clause-chooses : goal.returns-then-is_empty-clause-chooses
returns-then-is_empty-clause-chooses c = finish_alone c.args.self.now.config (stack_of c.args.self.now) c.args.u.now (c.is_empty.ensures.0 c.if-is_empty.true)
