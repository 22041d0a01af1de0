use Rattle.std.proofs.Common.{◌≤◌, drop, map}
use Rattle.smith_tree.specs.Tree.{most}
use Rattle.smith_tree.specs.TypeNeeds.{declaring}
use Rattle.smith_read.specs.TypeNodes.{shown_type_node}
use Rattle.smith_reduce.specs.Fits.{FitsType}
use Rattle.smith_reduce.proofs.Loops.{IfRest}
use Rattle.smith_reduce.proofs.fits.fits_types.Given as goal

abbrev pub invariant-loop-ty : goal.invariant-loop-ty
invariant-loop-ty l = record {
  fit : IfRest (FitsType l.config) shown_type_node l.types l.ty-index;
  depth : most declaring (map shown_type_node (drop l.ty-index l.types)) ≤ l.room → most declaring (map shown_type_node l.types) ≤ l.room;
}
