use Rattle.std.proofs.Common.{ℕ, List, Option, None, Some, subst}
use Rattle.smith_check.specs.declared.error.Rule.{Rule}
use Rattle.smith_tree.proofs.Clear.{spells_law}
use Rattle.smith_tree.specs.Grammar.{Spells}
use Rattle.smith_tree.specs.Tree.{Tree}
use Rattle.smith_tree.specs.WellFormed.{WellFormed}
use Rattle.smith_verdict.specs.Verdicts.{IsVerdict}
use Rattle.smith_verdict.specs.declared.verdict.Verdict.TheVariants as verdict
use Rattle.smith_c.proofs.check.lupinanon_proved_check.Goals as goal

-- What is found not to be well formed is not.
not_formed : (bytes : List ℕ) (rule : Rule) (offset : Option ℕ) (t : Tree) → IsVerdict bytes (verdict.IllFormed rule offset) → Spells t bytes
    → ¬ WellFormed t
not_formed bytes rule None t found spells formed = found
not_formed bytes rule (Some n) t found spells formed = found.3.0 (subst WellFormed (spells_law t found.0 bytes spells found.1) formed)

pub returns-in-Ok-IllFormed-clause-answers : goal.returns-in-Ok-IllFormed-clause-answers
returns-in-Ok-IllFormed-clause-answers c component spells formed depth =
    let found = subst (IsVerdict c.args.bytes.now) c.in-Ok-IllFormed.field-0-is c.in-Ok-IllFormed.ensures in
    absurd (not_formed c.args.bytes.now c.in-Ok-IllFormed.field-0-0 c.in-Ok-IllFormed.entry component found spells formed)
