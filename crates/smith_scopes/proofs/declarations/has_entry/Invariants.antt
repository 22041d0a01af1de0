use Rattle.std.proofs.Common.{◌≡◌}
use Rattle.std.specs.Prelude.{drop}
use Rattle.smith_syntax.specs.Places.{places}
use Rattle.smith_tree.specs.TypeOffers.{is_occupied, occupied}
use Rattle.smith_scopes.proofs.declarations.has_entry.Given as goal

-- No scope so far has an entry.
abbrev pub invariant-loop-count : goal.invariant-loop-count
invariant-loop-count g l =
    let scopes = g.S.Nested.inward l.scopes in
    places is_occupied l.count (drop l.count scopes) ≡ occupied scopes
