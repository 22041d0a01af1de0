use Rattle.std.proofs.Common.{◌++◌, ◌∷◌, [], ap, ◌∙◌}
use Rattle.smith_scope.specs.Positions.{core_kind_of}
use Rattle.smith_scope.proofs.ByKind.{core_type_pushed}
use Rattle.smith_scope.proofs.entries.Entries.push_core_type.Goals as goal

pub invariant_of-self-2 : goal.invariant_of-self-2
invariant_of-self-2 g c =
    let kind = c.core_kind.ensures ∙ ap (λ t. core_kind_of (g.C.Tree.CoreTree.plain t)) c.tree.ensures in
    let listed = c.push_reserved.ensures.items ∙ ap (λ ts. ts ++ c.args.ty ∷ []) c.in_ok-reserve.ensures.items in
    core_type_pushed g.T.Typed.tree g.T.Tree.TypeTree.plain g.C.CoreTyped.tree g.C.Tree.CoreTree.plain c.self.inside.types.items
    c.self.inside.core_types.items c.self.inside.positions c.self.invariant c.args.ty _ listed c.len-index.result
    (c.len-index.ensures ∙ c.self.inside.core_types.ok.0) c.core_kind.result kind _ c.in_ok-push.ensures.ok
