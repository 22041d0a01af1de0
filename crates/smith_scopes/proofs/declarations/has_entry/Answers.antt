use Rattle.std.proofs.Common.{◌<◌, [], arith, length, ap}
use Rattle.std.proofs.lemmas.Bool.Decides.{nat_tests}
use Rattle.smith_tree.specs.TypeOffers.{occupied}
use Rattle.smith_scopes.proofs.OccupiedScopes.{empty_here, occupied_here}
use Rattle.smith_scopes.proofs.declarations.has_entry.Goals as goal

pub loop-count-preserved : goal.loop-count-preserved
loop-count-preserved g c =
    empty_here (g.S.Nested.inward c.args.scopes.now) c.loop-count.count _ c.is_occupied.ensures [] c.loop-count.invariant
    c.if-is_occupied.false

pub returns-then-is_occupied : goal.returns-then-is_occupied
returns-then-is_occupied g c =
    let scopes = g.S.Nested.inward c.args.scopes.now in
    let some = occupied_here scopes c.loop-count.count _ c.is_occupied.ensures [] c.loop-count.invariant c.if-is_occupied.true in
    let lt : 0 < length (occupied scopes) = omega (arith, ap length some) in
    grind (arith, nat_tests, lt)
