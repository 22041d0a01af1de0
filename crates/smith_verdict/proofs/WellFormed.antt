-- The bytes of a component that can be generated are found well formed, and valid if it has to be.
use Rattle.std.proofs.Common.{◌≡◌, ℕ, ◌≤◌, List, None, Some, true, arith, refl, subst}
use Rattle.smith_format.specs.Consistency.{IsConsistent}
use Rattle.smith_format.specs.declared.config.Config.{Config}
use Rattle.smith_tree.proofs.Clear.{spells_law}
use Rattle.smith_tree.proofs.Components.{valid_tree}
use Rattle.smith_tree.proofs.Depths.{scopes_within}
use Rattle.smith_tree.proofs.Weaker.{weaker_tree}
use Rattle.smith_tree.specs.Depths.{scope_depth}
use Rattle.smith_tree.specs.Grammar.{Spells}
use Rattle.smith_tree.specs.Readable.{CanBeGenerated}
use Rattle.smith_tree.specs.Tree.{Tree}
use Rattle.smith_tree.specs.WellFormed.{WellFormed}
use Rattle.smith_read.specs.Reads.{most_depth}
use Rattle.smith_validate.specs.Outcome.{IsUnmet, asking}
use Rattle.smith_verdict.specs.Validities.{IsValidity}
use Rattle.smith_verdict.specs.Verdicts.{IsVerdict}
use Rattle.smith_verdict.specs.declared.validity.Validity.{Validity}
use Rattle.smith_verdict.specs.declared.validity.Validity.TheVariants as validity
use Rattle.smith_verdict.specs.declared.verdict.Verdict.{Verdict}
use Rattle.smith_verdict.specs.declared.verdict.Verdict.TheVariants as verdict

pub shallow : (config : Config) (t : Tree) → IsConsistent config → CanBeGenerated config t → scope_depth t ≤ most_depth
shallow config t fits can = omega (arith, scopes_within config t can.limits.maxima, fits.nesting)

pub found_formed : (config : Config) (t : Tree) (b : List ℕ) (found : Verdict) → IsConsistent config → CanBeGenerated config t → Spells t b
    → IsVerdict b found → found ≡ verdict.WellFormed
found_formed config t b verdict.WellFormed fits can spelled found = refl
found_formed config t b (verdict.IllFormed rule None) fits can spelled found = absurd found
found_formed config t b (verdict.IllFormed rule (Some offset)) fits can spelled found =
    absurd (found.3.0 (subst WellFormed (spells_law t found.0 b spelled found.1) can.formed))
found_formed config t b (verdict.Unread reason offset) fits can spelled found = absurd (found.0 t spelled (shallow config t fits can))

pub found_valid : (config : Config) (t : Tree) (b : List ℕ) (found : Validity) → config.must_validate ≡ true → IsConsistent config
    → CanBeGenerated config t → Spells t b → IsValidity b found → found ≡ validity.Valid
found_valid config t b validity.Valid must fits can spelled found = refl
found_valid config t b (validity.Invalid demand None) must fits can spelled found = absurd found
found_valid config t b (validity.Invalid demand (Some offset)) must fits can spelled found =
    let valid = valid_tree config t must fits can in
    absurd ((subst (IsUnmet demand) (spells_law found.0 t b found.1 spelled) found.3) (weaker_tree (asking demand) t valid))
found_valid config t b (validity.Other other) must fits can spelled found = absurd (found.1 (found_formed config t b other fits can spelled found.0))
