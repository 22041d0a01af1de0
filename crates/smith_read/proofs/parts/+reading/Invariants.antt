use Rattle.std.proofs.Common.{◌≡◌, ◌-◌, ◌+◌, ◌*◌, map, length}
use Rattle.smith_read.specs.Parts.{parts_at, component_at}
use Rattle.smith_read.specs.PartNodes.{shown_part_node}
use Rattle.smith_read.proofs.Depth.{with_parts}
use Rattle.smith_read.proofs.parts.+reading.Given as goal

abbrev pub decreases-sections_of : goal.decreases-sections_of
decreases-sections_of l = 4 * l.depth

abbrev pub decreases-section_of : goal.decreases-section_of
decreases-section_of l = 4 * l.depth + 1

abbrev pub decreases-part_of : goal.decreases-part_of
decreases-part_of l = 4 * l.depth + 2

abbrev pub decreases-parts_of : goal.decreases-parts_of
decreases-parts_of l = 4 * l.depth + 3

abbrev pub invariant-parts_of-loop : goal.invariant-parts_of-loop
invariant-parts_of-loop l =
    with_parts l.depth (component_at l.depth) (map shown_part_node l.parts.items) (parts_at l.depth (component_at l.depth) (length l.bytes - l.counter) l.rest)
    ≡ parts_at l.depth (component_at l.depth) (length l.bytes) l.bytes
