use Rattle.std.proofs.Common.{◌≡◌, drop, fold, map}
use Rattle.smith_read.specs.PartNodes.{shown_part_node}
use Rattle.smith_tree.specs.Spaces.{Spaces, after_part, no_spaces}
use Rattle.smith_edit.specs.Counts.{counts_of}
use Rattle.smith_edit.proofs.edits.count_entries.Given as goal

abbrev pub invariant-loop-part : goal.invariant-loop-part
invariant-loop-part l = (so_far : Spaces) × (l.counts ≡ counts_of so_far)
    × (fold after_part so_far (map shown_part_node (drop l.part-index l.parts)) ≡ fold after_part no_spaces (map shown_part_node l.parts))
