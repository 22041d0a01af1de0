use Rattle.std.proofs.Common.{◌≡◌, ◌++◌, ℕ, List, drop, map}
use Rattle.smith_read.specs.PartNodes.{shown_part_node}
use Rattle.smith_tree.specs.Tree.{exports_of, imports_of, tree_of}
use Rattle.smith_tree.specs.WellFormed.{export_names, import_names}
use Rattle.smith_edit.specs.Names.{KnowsBoth}
use Rattle.smith_edit.proofs.edits.take_names.Given as goal

abbrev pub invariant-loop-part : goal.invariant-loop-part
invariant-loop-part l =
    let all = tree_of (map shown_part_node l.parts) in
    let rest = tree_of (map shown_part_node (drop l.part-index l.parts)) in
    (is es : List (List ℕ)) × KnowsBoth l.taken is es × (is ++ import_names (imports_of rest) ≡ import_names (imports_of all))
    × (es ++ export_names (exports_of rest) ≡ export_names (exports_of all))
