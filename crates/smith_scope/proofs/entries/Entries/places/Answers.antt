use Rattle.std.proofs.Common.{map, sym, ap, ◌∙◌, subst}
use Rattle.std.specs.List.Sorted.{IsStrictlyIncreasing}
use Rattle.smith_syntax.specs.Scope.{Scope}
use Rattle.smith_scope.specs.Positions.{of_kind}
use Rattle.smith_scope.proofs.Ascending.{kind_ascends}
use Rattle.smith_scope.proofs.ByKind.{of_by_kind}
use Rattle.smith_scope.proofs.entries.Entries.places.Goals as goal

pub returns-clause-ascending : goal.returns-clause-ascending
returns-clause-ascending g c =
    let s : Scope = record {
      types = map g.T.Tree.TypeTree.plain (map g.T.Typed.tree c.self.inside.types.items);
      core_types = map g.C.Tree.CoreTree.plain (map g.C.CoreTyped.tree c.self.inside.core_types.items);
    } in
    subst IsStrictlyIncreasing (sym (c.row.ensures ∙ ap (of_kind c.args.kind) c.self.invariant ∙ of_by_kind c.args.kind s)) (kind_ascends c.args.kind s)
