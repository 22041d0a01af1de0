use Rattle.std.proofs.Common.{◌≡◌, ◌/◌, ◌%◌, map, refl, subst, sym}
use Rattle.std.specs.Option.{IsSome}
use Rattle.smith_tree.specs.Tree.{tree_of}
use Rattle.smith_read.specs.PartNodes.{shown_part_node, shown_tree}
use Rattle.smith_change.specs.Parts.{places}
use Rattle.smith_read.specs.Search.{past}
use Rattle.smith_read.specs.declared.search.Search.TheVariants.{Ahead}
use Rattle.smith_change.proofs.Beyond.{never_reached}
use Rattle.smith_change.proofs.steps.change_place.Goals as goal

pub returns-in-Ahead : goal.returns-in-Ahead
returns-in-Ahead c =
    let moved = (c.in_ok-parts.ensures {u = tt}).moved (subst IsSome (sym c.in-Some.is) refl) in
    let on = subst (λ ps. c.change_parts.new.search ≡ past (places (tree_of (map shown_part_node ps))) (Ahead (c.args.number / 16)))
    c.deref.ensures.value moved in
    never_reached (c.args.number % 16) (c.args.number / 16) c.in-Ahead.field-0 (shown_tree c.args.tree.now) c.change_parts.new.search on c.in-Ahead.is
