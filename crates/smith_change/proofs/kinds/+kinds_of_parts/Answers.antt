use Rattle.std.proofs.Common.{◌≡◌, ◌+◌, ap, drop, map, sym, ◌∙◌}
use Rattle.smith_tree.specs.Tree.{tree_of}
use Rattle.smith_read.specs.PartNodes.{shown_part_node}
use Rattle.smith_change.specs.Parts.{part_places, places}
use Rattle.smith_change.proofs.KindFound.{here_step, inside_step, later_step}
use Rattle.smith_change.proofs.kinds.+kinds_of_parts.Goals as goal
use Rattle.smith_input.proofs.Lists.{map_drop}

pub kind_in_parts-returns-then-step-clause-found : goal.kind_in_parts-returns-then-step-clause-found
kind_in_parts-returns-then-step-clause-found t c =
    let i = c.loop-node.node-index in
    let x = c.node-item.result in
    let here = places (tree_of (map shown_part_node (drop i c.args.nodes.now))) in
    let rest = places (tree_of (map shown_part_node (drop (i + 1) c.args.nodes.now))) in
    let all : here ≡ 1 + (part_places (shown_part_node x) + rest) =
    ap (λ es. places (tree_of es)) (map_drop shown_part_node c.args.nodes.now i x c.loop-node-test.true c.node-item.is) in
    (here_step c.loop-node.search c.step.new.self here (part_places (shown_part_node x) + rest) _ _ c.step.ensures.moved
    c.loop-node.invariant.found c.loop-node.invariant.moved
    all (sym c.step.ensures.here ∙ c.if-step.true)).0

pub kind_in_parts-returns-then-step-clause-moved : goal.kind_in_parts-returns-then-step-clause-moved
kind_in_parts-returns-then-step-clause-moved t c =
    let i = c.loop-node.node-index in
    let x = c.node-item.result in
    let here = places (tree_of (map shown_part_node (drop i c.args.nodes.now))) in
    let rest = places (tree_of (map shown_part_node (drop (i + 1) c.args.nodes.now))) in
    let all : here ≡ 1 + (part_places (shown_part_node x) + rest) =
    ap (λ es. places (tree_of es)) (map_drop shown_part_node c.args.nodes.now i x c.loop-node-test.true c.node-item.is) in
    (here_step c.loop-node.search c.step.new.self here (part_places (shown_part_node x) + rest) _ _ c.step.ensures.moved
    c.loop-node.invariant.found c.loop-node.invariant.moved
    all (sym c.step.ensures.here ∙ c.if-step.true)).1

pub kind_in_parts-returns-then-is_some-clause-found : goal.kind_in_parts-returns-then-is_some-clause-found
kind_in_parts-returns-then-is_some-clause-found t c =
    let i = c.loop-node.node-index in
    let x = c.node-item.result in
    let here = places (tree_of (map shown_part_node (drop i c.args.nodes.now))) in
    let rest = places (tree_of (map shown_part_node (drop (i + 1) c.args.nodes.now))) in
    let all : here ≡ 1 + (part_places (shown_part_node x) + rest) =
    ap (λ es. places (tree_of es)) (map_drop shown_part_node c.args.nodes.now i x c.loop-node-test.true c.node-item.is) in
    let yes = sym c.is_some.ensures ∙ c.if-is_some.true in
    yes ∙ (inside_step c.loop-node.search c.step.new.self here rest _ _ c.step.ensures.moved
    c.loop-node.invariant.found c.loop-node.invariant.moved (part_places (shown_part_node x))
    all (sym c.step.ensures.here ∙ c.if-step.false) c.kind_in_part.new.search
    (c.in_ok-kind.ensures {u = tt}).moved (sym (c.in_ok-kind.ensures {u = tt}).found ∙ yes)).0

pub kind_in_parts-returns-then-is_some-clause-moved : goal.kind_in_parts-returns-then-is_some-clause-moved
kind_in_parts-returns-then-is_some-clause-moved t c =
    let i = c.loop-node.node-index in
    let x = c.node-item.result in
    let here = places (tree_of (map shown_part_node (drop i c.args.nodes.now))) in
    let rest = places (tree_of (map shown_part_node (drop (i + 1) c.args.nodes.now))) in
    let all : here ≡ 1 + (part_places (shown_part_node x) + rest) =
    ap (λ es. places (tree_of es)) (map_drop shown_part_node c.args.nodes.now i x c.loop-node-test.true c.node-item.is) in
    let yes = sym c.is_some.ensures ∙ c.if-is_some.true in
    (inside_step c.loop-node.search c.step.new.self here rest _ _ c.step.ensures.moved
    c.loop-node.invariant.found c.loop-node.invariant.moved (part_places (shown_part_node x))
    all (sym c.step.ensures.here ∙ c.if-step.false) c.kind_in_part.new.search
    (c.in_ok-kind.ensures {u = tt}).moved (sym (c.in_ok-kind.ensures {u = tt}).found ∙ yes)).1

pub kind_in_parts-loop-node-preserved : goal.kind_in_parts-loop-node-preserved
kind_in_parts-loop-node-preserved t c =
    let i = c.loop-node.node-index in
    let x = c.node-item.result in
    let here = places (tree_of (map shown_part_node (drop i c.args.nodes.now))) in
    let rest = places (tree_of (map shown_part_node (drop (i + 1) c.args.nodes.now))) in
    let all : here ≡ 1 + (part_places (shown_part_node x) + rest) =
    ap (λ es. places (tree_of es)) (map_drop shown_part_node c.args.nodes.now i x c.loop-node-test.true c.node-item.is) in
    let no = sym c.is_some.ensures ∙ c.if-is_some.false in
    let next = later_step c.loop-node.search c.step.new.self here rest _ _ c.step.ensures.moved
    c.loop-node.invariant.found c.loop-node.invariant.moved (part_places (shown_part_node x))
    all (sym c.step.ensures.here ∙ c.if-step.false) c.kind_in_part.new.search
    (c.in_ok-kind.ensures {u = tt}).moved (sym (c.in_ok-kind.ensures {u = tt}).found ∙ no) in
    record { found = next.0; moved = next.1 }
