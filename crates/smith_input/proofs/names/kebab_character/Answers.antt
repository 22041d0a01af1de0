use Rattle.std.proofs.Common.{ap, sym, refl, ◌∙◌, ◌%◌, arith, true, false, slice_index_or}
use Rattle.smith_input.specs.Names.{character}
use Rattle.smith_input.proofs.Kebab.{same_from, tabled}
use Rattle.smith_input.proofs.names.kebab_character.Goals as goal
use Rattle.smith_input.proofs.names.kebab_character.Goals.{then-begins, else-begins}

pub returns : goal.returns
unfolding same_from
returns c =
    let at = ap (λ k. slice_index_or c.if-begins.characters.now k 0) c.from.ensures in
    elim c.if-begins.branch [
      | then-begins w ↦ at ∙ (tabled (λ s. s.now) (λ b. character true (b % 37)) c.args.byte w.characters-is refl (omega arith)
          ∙ ap (λ b. character b (c.args.byte % 37)) (sym w.if-begins.true))
      | else-begins w ↦ at ∙ (tabled (λ s. s.now) (λ b. character false (b % 37)) c.args.byte w.characters-is refl (omega arith)
          ∙ ap (λ b. character b (c.args.byte % 37)) (sym w.if-begins.false))
    ]
