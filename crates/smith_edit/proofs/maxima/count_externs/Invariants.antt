use Rattle.std.proofs.Common.{◌≡◌, ◌+◌, drop, length, map}
use Rattle.smith_tree.specs.Tree.{exports_of, function_count, imports_of, tree_of}
use Rattle.smith_read.specs.PartNodes.{shown_part_node}
use Rattle.smith_edit.proofs.maxima.count_externs.Given as goal

abbrev pub invariant-loop-part : goal.invariant-loop-part
invariant-loop-part l =
    let all = tree_of (map shown_part_node l.parts) in
    let rest = tree_of (map shown_part_node (drop l.part-index l.parts)) in
    record {
      imports : l.externs.imports + length (imports_of rest) ≡ length (imports_of all);
      functions : l.externs.functions + function_count rest ≡ function_count all;
      exports : l.externs.exports + length (exports_of rest) ≡ length (exports_of all);
    }
