use Rattle.std.proofs.Common.{ap, sym, ◌∙◌}
use Rattle.std.specs.Prelude.{option_map}
use Rattle.smith_scopes.specs.NodeScopes.{outer_marked_in, own_marked_in}
use Rattle.smith_scopes.proofs.Naming.{found_none, found_some}
use Rattle.smith_scopes.proofs.nodes.NodeScopes.found.Goals as goal

pub returns-in_err-ty : goal.returns-in_err-ty
returns-in_err-ty c =
    let self = c.args.self.now in
    rw c.from_residual-in_err-ty.ensures
    (found_none (own_marked_in self) (outer_marked_in self) c.args.count c.args.index c.in_ok-scope.scope.now c.in_ok-scope.ensures.marked
    (ap (λ o. option_map (λ t. t.now) o) (sym c.in_err-ty.was) ∙ c.type_at.ensures))

pub returns : goal.returns
returns c =
    let self = c.args.self.now in
    found_some (own_marked_in self) (outer_marked_in self) c.args.count c.args.index c.in_ok-scope.scope.now c.in_ok-scope.ensures.marked
    c.in_ok-ty.ty c.mark_at.result c.aliased-mark.result
    (ap (λ o. option_map (λ t. t.now) o) (sym c.in_ok-ty.was) ∙ c.type_at.ensures) c.mark_at.ensures.value c.aliased-mark.ensures
