use Rattle.std.proofs.Common.{◌↔◌, length}
use Rattle.smith_tree.specs.CoreModules.{HasFewMemories}
use Rattle.smith_tree.proofs.CoreModules.{FewIn}
use Rattle.smith_validate.proofs.core_modules.has_few_memories.Given as goal

abbrev pub invariant-loop-id : goal.invariant-loop-id
invariant-loop-id l = FewIn l.rest ↔ HasFewMemories l.text

abbrev pub decreases-loop-id : goal.decreases-loop-id
decreases-loop-id l = length l.rest
