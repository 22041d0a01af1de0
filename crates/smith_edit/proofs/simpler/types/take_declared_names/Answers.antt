use Rattle.std.proofs.Common.{◌≡◌, ℕ, List, [], ◌∷◌, ◌++◌, ap, refl}
use Rattle.smith_syntax.specs.Entries.{in_order}
use Rattle.smith_syntax.specs.WellFormed.{decl_exports, decl_imports, export_of, import_of, names}
use Rattle.smith_read.specs.TypeNodes.{shown_decl_node}
use Rattle.smith_edit.proofs.Sublists.{gathered_step}
use Rattle.smith_edit.proofs.simpler.types.take_declared_names.Goals as goal

names_append : (xs ys : List (List ℕ × Unit {0})) → names (xs ++ ys) ≡ names xs ++ names ys
names_append [] ys = refl
names_append (x ∷ xs) ys = ap (λ ns. x.0 ∷ ns) (names_append xs ys)

pub loop-node-preserved : goal.loop-node-preserved
loop-node-preserved c =
    let (is, es, knows, imports, exports) = c.loop-node.invariant in
    let d = shown_decl_node c.node-item.result in (
      is ++ names (import_of d),
      es ++ names (export_of d),
      c.in_ok-add_names.ensures is es knows,
      gathered_step shown_decl_node (λ ds. names (decl_imports (in_order ds))) (λ x. names (import_of x)) (λ x ds. names_append (import_of x) _) is _
          c.args.nodes.now c.loop-node.node-index c.node-item.result c.loop-node-test.true c.node-item.is imports,
      gathered_step shown_decl_node (λ ds. names (decl_exports (in_order ds))) (λ x. names (export_of x)) (λ x ds. names_append (export_of x) _) es _
          c.args.nodes.now c.loop-node.node-index c.node-item.result c.loop-node-test.true c.node-item.is exports,
    )
