use Rattle.std.proofs.Common.{◌≡◌, ◌++◌, ℕ, List, drop, map}
use Rattle.smith_read.specs.PartNodes.{shown_part_node}
use Rattle.smith_tree.specs.Spaces.{spaces_of}
use Rattle.smith_tree.specs.Tree.{exports_of, imports_of, parts_of, tree_of}
use Rattle.smith_tree.specs.WellFormed.{export_names, import_names}
use Rattle.smith_edit.specs.Edited.{tree_edited}
use Rattle.smith_edit.specs.Edits.{moved, renamed}
use Rattle.smith_edit.specs.Names.{KnowsBoth}
use Rattle.smith_edit.specs.Walk.{shown_walk}
use Rattle.smith_edit.specs.declared.walk.Removal.TheVariants.{Nothing}
use Rattle.smith_edit.proofs.edits.joined.Given as goal

abbrev pub invariant-loop-node : goal.invariant-loop-node
invariant-loop-node l =
    let left = tree_of (map shown_part_node l.initial.parts.items) in
    (is es : List (List ℕ)) × KnowsBoth l.taken is es × (l.walk.removal ≡ Nothing)
    × (map shown_part_node l.parts.items
    ++ parts_of (renamed (tree_edited (tree_of (map shown_part_node (drop l.node-index l.node-items))) (shown_walk l.walk)) is es)
    ≡ map shown_part_node l.initial.parts.items
    ++ parts_of (renamed (moved (spaces_of left) (tree_of (map shown_part_node l.node-items))) (import_names (imports_of left))
    (export_names (exports_of left))))
