use Rattle.std.proofs.Common.{ap, sym, ◌∙◌, ◌++◌, ◌∷◌, []}
use Rattle.smith_scope.specs.Positions.{kind_of}
use Rattle.smith_scope.proofs.OfferSteps.{kept_more}
use Rattle.smith_scope.proofs.kept.Kept.push_type.Goals as goal

pub returns-clause-kept : goal.returns-clause-kept
returns-clause-kept g c =
    let kind = c.kind.ensures ∙ ap (λ t. kind_of (g.T.Tree.TypeTree.plain t)) c.tree.ensures in
    let uses = c.new-uses.ensures (g.T.Tree.TypeTree.plain (g.T.Typed.tree c.args.ty)) (sym kind) in
    let marks = c.push_reserved.ensures.items ∙ ap (λ ms. ms ++ c.args.mark ∷ []) c.reserve.ensures.items in
    kept_more g.T.Tree.TypeTree.plain c.args.self.now _ c.args.entries.now c.push_type.new.self c.requires (g.T.Typed.tree c.args.ty) c.args.mark
    c.types_len-index.result c.types_len-index.ensures.count c.in_ok-push_type.ensures.ok c.reserve-2.ensures.rows uses c.add.ensures marks
