use Rattle.smith_scopes.specs.NodeScopes.{outer_marked_in, own_marked_in}
use Rattle.smith_script.proofs.rows.FuncRow.say.Goals as goal

pub returns-in-CanonLift-clause-added : goal.returns-in-CanonLift-clause-added
returns-in-CanonLift-clause-added c =
    rw c.in-CanonLift.is (c.add_lift.ensures.added (own_marked_in c.args._scopes.now) (outer_marked_in c.args._scopes.now))

pub returns-in-CanonLower-clause-added : goal.returns-in-CanonLower-clause-added
returns-in-CanonLower-clause-added c =
    rw c.in-CanonLower.is (c.add_lower.ensures.added (own_marked_in c.args._scopes.now) (outer_marked_in c.args._scopes.now))
