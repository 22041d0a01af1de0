use Rattle.std.proofs.Common.{◌≡◌, List, length, map}
use Rattle.smith_tree.specs.Open.{scopes_in}
use Rattle.smith_tree.specs.Tree.{Tree, ends, tree_of}
use Rattle.smith_tree.specs.WellFormed.{Formed}
use Rattle.smith_read.specs.PartNodes.{shown_part_node}
use Rattle.smith_scopes.specs.NodeScopes.{outer_marked_in, own_marked_in}
use Rattle.smith_script.specs.Preceding.{IsAfter, empty_in, preceding}
use Rattle.smith_script.proofs.Turns.{Reached}
use Rattle.smith_script.proofs.parts.+parts.Given as goal

abbrev pub invariant-say_parts-loop-part : goal.invariant-say_parts-loop-part
invariant-say_parts-loop-part l = record {
  outer : outer_marked_in l.scopes ≡ outer_marked_in l.initial.scopes;
  keeps : (own_marked_in l.scopes).keeps ≡ l.given.config.now.must_validate;
  depth : length (outer_marked_in l.initial.scopes) ≡ l.turn.depth;
  reached : (outer : List Tree) → IsAfter l.given.config.now outer ends (outer_marked_in l.initial.scopes)
      (empty_in l.given.config.now.must_validate l.fn.totals)
      → Formed (tree_of (map shown_part_node l.parts)) (scopes_in outer) ends
      → Reached l.given.config.now outer l.initial.out l.out l.parts l.part-index l.turn.sections
      (outer_marked_in l.initial.scopes) (preceding (own_marked_in l.scopes) l.here);
}
