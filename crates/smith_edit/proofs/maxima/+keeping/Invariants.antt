use Rattle.std.proofs.Common.{◌↔◌, map}
use Rattle.smith_tree.specs.Tree.{inside, tree_of}
use Rattle.smith_read.specs.PartNodes.{shown_part_node}
use Rattle.smith_edit.proofs.KeptInside.{AllKeep, inside_from}
use Rattle.smith_edit.proofs.maxima.+keeping.Given as goal

abbrev pub invariant-each_keeps_maxima-loop-part : goal.invariant-each_keeps_maxima-loop-part
invariant-each_keeps_maxima-loop-part l =
    AllKeep l.config (inside_from l.config l.parts l.part-index) ↔ AllKeep l.config (inside (tree_of (map shown_part_node l.parts)))
