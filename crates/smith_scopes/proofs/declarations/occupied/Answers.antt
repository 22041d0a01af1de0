use Rattle.std.proofs.Common.{arith}
use Rattle.smith_tree.specs.TypeOffers.{is_occupied}
use Rattle.smith_scope.proofs.Ascending.{ascend_as}
use Rattle.smith_scopes.proofs.OccupiedScopes.{empty_here, occupied_here, occupied_past}
use Rattle.smith_scopes.proofs.declarations.occupied.Goals as goal
use Rattle.smith_scopes.proofs.declarations.occupied.Goals.{then-is_occupied+in_ok-push, else-is_occupied}

pub loop-count-preserved : goal.loop-count-preserved
loop-count-preserved g c = grind (arith, occupied_here, else-is_occupied, empty_here)

pub returns-clause-counts : goal.returns-clause-counts
returns-clause-counts g c = grind (arith, occupied_past)

pub returns-clause-ascending : goal.returns-clause-ascending
returns-clause-ascending g c = ascend_as is_occupied (g.S.Nested.inward c.args.scopes.now) _ (returns-clause-counts g c)
