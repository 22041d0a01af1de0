use Rattle.std.proofs.Common.{arith, sym, ap, ◌∙◌}
use Rattle.smith_syntax.specs.Marked.{scope_in}
use Rattle.smith_scope.specs.Positions.{kind_places, plain_scope}
use Rattle.smith_scope.proofs.Ascending.{marked_ascend}
use Rattle.smith_scope.proofs.Offered.{offered_by_kind}
use Rattle.smith_scope.proofs.scope.Scope.offered.Goals as goal

pub returns-then-self-clause-ascending : goal.returns-then-self-clause-ascending
returns-then-self-clause-ascending g c = grind (arith, marked_ascend)

pub returns-clause-places : goal.returns-clause-places
returns-clause-places g c =
    let s = c.args.self.now in
    let plain = g.T.Tree.TypeTree.plain in
    let core_plain = g.C.Tree.CoreTree.plain in
    let none = ap (λ d. d.marks) (sym c.self.view_is) ∙ c.self.invariant.no_marks c.if-self.false in
    c.places.ensures.places
    ∙ (ap (λ d. kind_places c.in_ok-kind.kind (plain_scope plain core_plain (scope_in d))) c.self.view_is
    ∙ offered_by_kind plain core_plain s c.args.offer c.in_ok-kind.kind (sym c.kind.ensures ∙ c.in_ok-kind.was) none)
