use Rattle.std.proofs.Common.{◌≤◌, drop, map}
use Rattle.smith_tree.specs.Tree.{declared_depth, tree_of}
use Rattle.smith_read.specs.PartNodes.{shown_part_node}
use Rattle.smith_reduce.specs.Fits.{Fits}
use Rattle.smith_reduce.proofs.fits.+parts.Given as goal

abbrev pub invariant-fits_parts-loop-part : goal.invariant-fits_parts-loop-part
invariant-fits_parts-loop-part l =
    let all = tree_of (map shown_part_node l.parts) in
    let rest = tree_of (map shown_part_node (drop l.part-index l.parts)) in
    record {
      fits : Fits l.config rest → Fits l.config all;
      depth : declared_depth rest ≤ l.room → declared_depth all ≤ l.room;
    }
