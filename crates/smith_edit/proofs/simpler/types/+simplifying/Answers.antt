use Rattle.std.proofs.Common.{List, map, ap, refl, subst, sym, ◌∙◌}
use Rattle.std.specs.Option.{IsSome, option_map}
use Rattle.smith_syntax.specs.Entries.{Decl, Decls, in_order}
use Rattle.smith_syntax.specs.WellFormed.{decl_exports, decl_imports, names}
use Rattle.smith_read.specs.TypeNodes.{shown_decl_node}
use Rattle.smith_read.specs.declared.type_nodes.DeclNode.{DeclNode}
use Rattle.smith_edit.proofs.Seeking.{InRow, moved_step, seek_end, seek_step, decl_row}
use Rattle.smith_edit.proofs.simpler.types.+simplifying.Goals as goal

-- these declarations as a row
abbrev row_of : List DeclNode → InRow DeclNode Decl Decls
row_of nodes = decl_row (names (decl_imports (in_order (map shown_decl_node nodes)))) (names (decl_exports (in_order (map shown_decl_node nodes))))

pub simplify_declarations-loop-node-preserved : goal.simplify_declarations-loop-node-preserved
simplify_declarations-loop-node-preserved t c =
    let is = sym (ap (option_map shown_decl_node) c.in-Some.is) ∙ c.in_ok-declaration.ensures.declaration in
    let on = c.in_ok-declaration.ensures.moved (subst IsSome (sym c.in-Some.is) refl) in
    record {
      declarations = seek_step (row_of c.args.nodes.now) c.loop-node.finder.search c.args.nodes.now c.loop-node.node-index c.node-item.result
          c.loop-node-test.true c.node-item.is c.simplify_declaration.new.finder.search c.loop-node.declarations.items c.push.new.self.items
          c.in-Some.declaration _ is on c.in_ok-push.ensures.items c.loop-node.invariant.declarations;
      moved = moved_step (row_of c.args.nodes.now) c.loop-node.finder.search c.args.nodes.now c.loop-node.node-index c.node-item.result
          c.loop-node-test.true c.node-item.is c.simplify_declaration.new.finder.search _ on c.loop-node.invariant.moved;
    }

pub simplify_declarations-returns-clause-declarations : goal.simplify_declarations-returns-clause-declarations
simplify_declarations-returns-clause-declarations t c =
    seek_end (row_of c.args.nodes.now) c.loop-node.finder.search c.args.nodes.now c.loop-node.node-index (map shown_decl_node c.loop-node.declarations.items) _
    c.loop-node-test.false c.loop-node.invariant.declarations
