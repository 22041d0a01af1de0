use Rattle.std.proofs.Common.{arith, ◌≡◌, true, false, refl, sym, ◌∙◌}
use Rattle.std.proofs.lemmas.Option.{MatchOption-at_none, MatchOption-at_some}
use Rattle.smith_tree.proofs.CoreModules.{few_after, few_first, few_module, few_next, few_none, few_other, few_sections}
use Rattle.smith_validate.proofs.core_modules.has_few_memories.Goals as goal

pub returns-in_default : goal.returns-in_default
returns-in_default c = (λ yes. few_other c.args.text.now (λ rest e. c.in_default.ensures (rest, e)), λ few. refl)

pub loop-id-init : goal.loop-id-init
loop-id-init c = grind (arith, few_module, few_sections)

pub returns-then-not-branch : goal.returns-then-not-branch
returns-then-not-branch c =
    let is = MatchOption-at_some _ _ _ c.in-Some-2.is c.in_ok-id.ensures.first in (
      λ (no : false ≡ true). absurd (cc),
      λ few.
          let here = few_first c.in-Some-2.id c.in-Some-2.contents.now c.in-Some-2.after.now c.loop-id.rest.now is in
          sym c.if-not-branch.true ∙ c.in_ok-section_is_few.ensures.1 (λ five. here five (c.loop-id.invariant.1 few)),
    )

pub loop-id-preserved : goal.loop-id-preserved
loop-id-preserved c =
    let is = MatchOption-at_some _ _ _ c.in-Some-2.is c.in_ok-id.ensures.first in
    let counted = c.in_ok-section_is_few.ensures.0 c.if-not-branch.false in (
      λ few. c.loop-id.invariant.0 (few_next c.in-Some-2.id c.in-Some-2.contents.now c.in-Some-2.after.now c.loop-id.rest.now is counted few),
      λ few. few_after c.in-Some-2.id c.in-Some-2.contents.now c.in-Some-2.after.now c.loop-id.rest.now is (c.loop-id.invariant.1 few),
    )

pub returns : goal.returns
returns c =
    let none = MatchOption-at_none _ _ c.in_default-2.is c.in_ok-id.ensures.first in
    (λ yes. c.loop-id.invariant.0 (few_none c.loop-id.rest.now none), λ few. refl)
