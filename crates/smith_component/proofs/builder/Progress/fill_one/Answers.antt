use Rattle.std.proofs.Common.{◌≡◌, ℕ, ◌-◌, ◌<◌, ◌∙◌, List, arith, ap}
use Rattle.std.proofs.lemmas.Result.{on_ok_weaker}
use Rattle.smith_component.specs.AddedSections.{Adds}
use Rattle.smith_component.specs.BuilderView.{stack_of}
use Rattle.smith_component.specs.Fills.{count_of, minimum_of, Fills}
use Rattle.smith_component.specs.declared.builder.Progress.{Progress}
use Rattle.smith_component.specs.declared.item.Counted.{Counted}
use Rattle.smith_component.specs.declared.item.Counted.TheVariants as counted
use Rattle.smith_component.proofs.Items.{grows_none}
use Rattle.smith_component.proofs.SectionValues.{import_section_shown, type_section_shown}
use Rattle.smith_component.proofs.builder.Progress.fill_one.Goals as goal

-- what was counted, and what there must be at least, of what it is
at : (b : Progress) {what item : Counted} {count least : ℕ} → what ≡ item → count ≡ count_of what (stack_of b).inner → least ≡ minimum_of what b.config
    → (count ≡ count_of item (stack_of b).inner) × (least ≡ minimum_of item b.config)
at b is has must = (has ∙ ap (λ w. count_of w (stack_of b).inner) is, must ∙ ap (λ w. minimum_of w b.config) is)

-- What is missing was added.
filled : (b new : Progress) (what item : Counted) (count least : ℕ) (u rest : List ℕ) → what ≡ item → count ≡ count_of what (stack_of b).inner
    → least ≡ minimum_of what b.config → count < least → Adds item b.config (least - count) (stack_of b) u (stack_of new).inner rest
    → Fills what b.config (stack_of b) u (stack_of new).inner rest
filled b new what item count least u rest is has must few a = grind arith

pub returns-then-minimum-count-clause-grows : goal.returns-then-minimum-count-clause-grows
returns-then-minimum-count-clause-grows c = grows_none c.args.self.now c.requires.sound

pub add_types-requires : goal.add_types-requires
add_types-requires c = grind arith

pub add_imports-requires : goal.add_imports-requires
add_imports-requires c = grind arith

pub add_canonicals-requires : goal.add_canonicals-requires
add_canonicals-requires c = grind arith

pub returns-in-Types-clause-filled : goal.returns-in-Types-clause-filled
returns-in-Types-clause-filled c = grind (arith, on_ok_weaker, filled, type_section_shown)

pub returns-in-Imports-clause-filled : goal.returns-in-Imports-clause-filled
returns-in-Imports-clause-filled c = grind (arith, on_ok_weaker, filled, import_section_shown)

pub returns-in-Functions-clause-filled : goal.returns-in-Functions-clause-filled
returns-in-Functions-clause-filled c = grind (arith, on_ok_weaker, filled)
