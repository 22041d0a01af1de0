use Rattle.std.proofs.Common.{map, ap, refl, subst, sym, ◌∙◌}
use Rattle.std.specs.Option.{IsSome, option_map}
use Rattle.smith_read.specs.TypeNodes.{shown_type_node}
use Rattle.smith_edit.proofs.Seeking.{moved_step, seek_end, seek_step, type_row}
use Rattle.smith_edit.proofs.simpler.types.simplify_types.Goals as goal

pub loop-node-preserved : goal.loop-node-preserved
loop-node-preserved c =
    let is = sym (ap (option_map shown_type_node) c.in-Some.is) ∙ c.in_ok-ty.ensures.ty in
    let on = c.in_ok-ty.ensures.moved (subst IsSome (sym c.in-Some.is) refl) in
    record {
      types = seek_step type_row c.loop-node.finder.search c.args.nodes.now c.loop-node.node-index c.node-item.result c.loop-node-test.true c.node-item.is
          c.simplify_type.new.finder.search c.loop-node.types.items c.push.new.self.items c.in-Some.ty _ is on
          c.in_ok-push.ensures.items c.loop-node.invariant.types;
      moved = moved_step type_row c.loop-node.finder.search c.args.nodes.now c.loop-node.node-index c.node-item.result c.loop-node-test.true c.node-item.is
          c.simplify_type.new.finder.search _ on c.loop-node.invariant.moved;
    }

pub returns-clause-types : goal.returns-clause-types
returns-clause-types c =
    seek_end type_row c.loop-node.finder.search c.args.nodes.now c.loop-node.node-index (map shown_type_node c.loop-node.types.items) _ c.loop-node-test.false
    c.loop-node.invariant.types
