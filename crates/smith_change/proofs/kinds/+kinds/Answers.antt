use Rattle.std.proofs.Common.{◌≡◌, ◌+◌, ap, drop, map, sym, ◌∙◌}
use Rattle.smith_syntax.specs.Entries.{in_order}
use Rattle.smith_read.specs.TypeNodes.{shown_decl_node}
use Rattle.smith_change.specs.Types.{decl_places, decls_places}
use Rattle.smith_change.proofs.KindFound.{here_step, inside_step, later_step}
use Rattle.smith_change.proofs.kinds.+kinds.Goals as goal
use Rattle.smith_input.proofs.Lists.{map_drop}

pub kind_in_declarations-returns-then-step-clause-found : goal.kind_in_declarations-returns-then-step-clause-found
kind_in_declarations-returns-then-step-clause-found t c =
    let i = c.loop-node.node-index in
    let x = c.node-item.result in
    let here = decls_places (in_order (map shown_decl_node (drop i c.args.nodes.now))) in
    let rest = decls_places (in_order (map shown_decl_node (drop (i + 1) c.args.nodes.now))) in
    let all : here ≡ 1 + (decl_places (shown_decl_node x) + rest) =
    ap (λ es. decls_places (in_order es)) (map_drop shown_decl_node c.args.nodes.now i x c.loop-node-test.true c.node-item.is) in
    (here_step c.loop-node.search c.step.new.self here (decl_places (shown_decl_node x) + rest) _ _ c.step.ensures.moved
    c.loop-node.invariant.found c.loop-node.invariant.moved
    all (sym c.step.ensures.here ∙ c.if-step.true)).0

pub kind_in_declarations-returns-then-step-clause-moved : goal.kind_in_declarations-returns-then-step-clause-moved
kind_in_declarations-returns-then-step-clause-moved t c =
    let i = c.loop-node.node-index in
    let x = c.node-item.result in
    let here = decls_places (in_order (map shown_decl_node (drop i c.args.nodes.now))) in
    let rest = decls_places (in_order (map shown_decl_node (drop (i + 1) c.args.nodes.now))) in
    let all : here ≡ 1 + (decl_places (shown_decl_node x) + rest) =
    ap (λ es. decls_places (in_order es)) (map_drop shown_decl_node c.args.nodes.now i x c.loop-node-test.true c.node-item.is) in
    (here_step c.loop-node.search c.step.new.self here (decl_places (shown_decl_node x) + rest) _ _ c.step.ensures.moved
    c.loop-node.invariant.found c.loop-node.invariant.moved
    all (sym c.step.ensures.here ∙ c.if-step.true)).1

pub kind_in_declarations-returns-then-is_some-clause-found : goal.kind_in_declarations-returns-then-is_some-clause-found
kind_in_declarations-returns-then-is_some-clause-found t c =
    let i = c.loop-node.node-index in
    let x = c.node-item.result in
    let here = decls_places (in_order (map shown_decl_node (drop i c.args.nodes.now))) in
    let rest = decls_places (in_order (map shown_decl_node (drop (i + 1) c.args.nodes.now))) in
    let all : here ≡ 1 + (decl_places (shown_decl_node x) + rest) =
    ap (λ es. decls_places (in_order es)) (map_drop shown_decl_node c.args.nodes.now i x c.loop-node-test.true c.node-item.is) in
    let yes = sym c.is_some.ensures ∙ c.if-is_some.true in
    yes ∙ (inside_step c.loop-node.search c.step.new.self here rest _ _ c.step.ensures.moved
    c.loop-node.invariant.found c.loop-node.invariant.moved (decl_places (shown_decl_node x))
    all (sym c.step.ensures.here ∙ c.if-step.false) c.kind_in_declaration-kind.new.search
    c.kind_in_declaration-kind.ensures.moved (sym c.kind_in_declaration-kind.ensures.found ∙ yes)).0

pub kind_in_declarations-returns-then-is_some-clause-moved : goal.kind_in_declarations-returns-then-is_some-clause-moved
kind_in_declarations-returns-then-is_some-clause-moved t c =
    let i = c.loop-node.node-index in
    let x = c.node-item.result in
    let here = decls_places (in_order (map shown_decl_node (drop i c.args.nodes.now))) in
    let rest = decls_places (in_order (map shown_decl_node (drop (i + 1) c.args.nodes.now))) in
    let all : here ≡ 1 + (decl_places (shown_decl_node x) + rest) =
    ap (λ es. decls_places (in_order es)) (map_drop shown_decl_node c.args.nodes.now i x c.loop-node-test.true c.node-item.is) in
    let yes = sym c.is_some.ensures ∙ c.if-is_some.true in
    (inside_step c.loop-node.search c.step.new.self here rest _ _ c.step.ensures.moved
    c.loop-node.invariant.found c.loop-node.invariant.moved (decl_places (shown_decl_node x))
    all (sym c.step.ensures.here ∙ c.if-step.false) c.kind_in_declaration-kind.new.search
    c.kind_in_declaration-kind.ensures.moved (sym c.kind_in_declaration-kind.ensures.found ∙ yes)).1

pub kind_in_declarations-loop-node-preserved : goal.kind_in_declarations-loop-node-preserved
kind_in_declarations-loop-node-preserved t c =
    let i = c.loop-node.node-index in
    let x = c.node-item.result in
    let here = decls_places (in_order (map shown_decl_node (drop i c.args.nodes.now))) in
    let rest = decls_places (in_order (map shown_decl_node (drop (i + 1) c.args.nodes.now))) in
    let all : here ≡ 1 + (decl_places (shown_decl_node x) + rest) =
    ap (λ es. decls_places (in_order es)) (map_drop shown_decl_node c.args.nodes.now i x c.loop-node-test.true c.node-item.is) in
    let no = sym c.is_some.ensures ∙ c.if-is_some.false in
    let next = later_step c.loop-node.search c.step.new.self here rest _ _ c.step.ensures.moved
    c.loop-node.invariant.found c.loop-node.invariant.moved (decl_places (shown_decl_node x))
    all (sym c.step.ensures.here ∙ c.if-step.false) c.kind_in_declaration-kind.new.search
    c.kind_in_declaration-kind.ensures.moved (sym c.kind_in_declaration-kind.ensures.found ∙ no) in
    record { found = next.0; moved = next.1 }
