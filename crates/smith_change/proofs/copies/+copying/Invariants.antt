use Rattle.std.proofs.Common.{◌≡◌, ◌++◌, drop, map}
use Rattle.smith_read.specs.TypeNodes.{shown_decl_node}
use Rattle.smith_change.proofs.copies.+copying.Given as goal

abbrev pub invariant-copy_declarations-loop-node : goal.invariant-copy_declarations-loop-node
invariant-copy_declarations-loop-node l =
    map shown_decl_node l.copies.items ++ map shown_decl_node (drop l.node-index l.nodes) ≡ map shown_decl_node l.nodes
