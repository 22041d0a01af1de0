use Rattle.std.proofs.Common.{◌≡◌, ◌+◌, drop, map}
use Rattle.smith_tree.specs.Tree.{component_count, instance_count, module_count, tree_of}
use Rattle.smith_read.specs.PartNodes.{shown_part_node}
use Rattle.smith_edit.proofs.maxima.Totals.+totals.Given as goal

abbrev pub invariant-add_parts-loop-part : goal.invariant-add_parts-loop-part
invariant-add_parts-loop-part l =
    let all = tree_of (map shown_part_node l.parts) in
    let rest = tree_of (map shown_part_node (drop l.part-index l.parts)) in
    record {
      modules : l.self.modules + module_count rest ≡ l.fn.self.modules + module_count all;
      components : l.self.components + component_count rest ≡ l.fn.self.components + component_count all;
      instances : l.self.instances + instance_count rest ≡ l.fn.self.instances + instance_count all;
    }
