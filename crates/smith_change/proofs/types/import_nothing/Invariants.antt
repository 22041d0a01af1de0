use Rattle.std.proofs.Common.{◌≡◌, drop, map}
use Rattle.smith_syntax.specs.Entries.{in_order}
use Rattle.smith_syntax.specs.WellFormed.{decl_imports}
use Rattle.smith_read.specs.TypeNodes.{shown_decl_node}
use Rattle.smith_change.proofs.types.import_nothing.Given as goal

-- None of the nodes before this one is an import.
abbrev pub invariant-loop-node : goal.invariant-loop-node
invariant-loop-node l =
    decl_imports (in_order (map shown_decl_node (drop l.node-index l.nodes))) ≡ decl_imports (in_order (map shown_decl_node l.nodes))
