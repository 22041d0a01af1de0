use Rattle.std.proofs.Common.{◌≡◌, ◌+◌, drop, length, map}
use Rattle.smith_tree.specs.Tree.{imported_components_in, imported_instances_in, imported_modules_in, imports}
use Rattle.smith_read.specs.PartNodes.{shown_import_node}
use Rattle.smith_edit.proofs.maxima.Totals.add_imports.Given as goal

abbrev pub invariant-loop-entry : goal.invariant-loop-entry
invariant-loop-entry l =
    let all = imports (map shown_import_node l.entries) in
    let rest = imports (map shown_import_node (drop l.entry-index l.entries)) in
    record {
      modules : l.self.modules + length (imported_modules_in rest) ≡ l.fn.self.modules + length (imported_modules_in all);
      components : l.self.components + length (imported_components_in rest) ≡ l.fn.self.components + length (imported_components_in all);
      instances : l.self.instances + length (imported_instances_in rest) ≡ l.fn.self.instances + length (imported_instances_in all);
    }
