use Rattle.std.proofs.Common.{◌≡◌}
use Rattle.smith_tree.specs.Facts.{FactScope}
use Rattle.smith_validate.specs.Kept.{kept_in, kept_of}
use Rattle.smith_validate.specs.Modules.{entries_in}
use Rattle.smith_validate.proofs.ModuleSteps.{LeftFrom}
use Rattle.smith_validate.proofs.core_types.module_of.Given as goal

abbrev pub invariant-loop-decl : goal.invariant-loop-decl
invariant-loop-decl l = (own : FactScope) → kept_in l.around ≡ kept_of own → LeftFrom (entries_in own) l.decls l.module l.decl-index
