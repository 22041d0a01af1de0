use Rattle.std.proofs.Common.{◌≡◌, ◌+◌, drop, length, map}
use Rattle.smith_tree.specs.Tree.{imported_functions_in, imports}
use Rattle.smith_read.specs.PartNodes.{shown_import_node}
use Rattle.smith_edit.proofs.maxima.function_imports.Given as goal

abbrev pub invariant-loop-entry : goal.invariant-loop-entry
invariant-loop-entry l =
    l.count + length (imported_functions_in (imports (map shown_import_node (drop l.entry-index l.entries))))
    ≡ length (imported_functions_in (imports (map shown_import_node l.entries)))
