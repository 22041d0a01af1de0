use Rattle.std.proofs.Common.{map}
use Rattle.smith_read.specs.Nodes.{shown_module_node}
use Rattle.smith_edit.specs.Edited.{after_module_decl, module_decl_edited}
use Rattle.smith_edit.specs.Items.{module_decl_items}
use Rattle.smith_edit.proofs.Past.{scope_left}
use Rattle.smith_edit.proofs.core_types.edit_core_type.Goals as goal

pub returns-in_ok-nodes-in-Module-clause-walk : goal.returns-in_ok-nodes-in-Module-clause-walk
returns-in_ok-nodes-in-Module-clause-walk c =
    rw c.in-Module.is
    (scope_left module_decl_items module_decl_edited after_module_decl _ _ _ _ (map shown_module_node c.in-Module.nodes.items)
    c.in_ok-enter-in-Module.ensures (rw c.deref.ensures.value at c.in_ok-nodes-in-Module.ensures.walk) c.leave.ensures)
