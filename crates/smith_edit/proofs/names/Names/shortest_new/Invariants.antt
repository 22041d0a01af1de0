use Rattle.std.proofs.Common.{◌≡◌, ℕ, ◌-◌, List, length}
use Rattle.smith_edit.specs.Names.{Knows}
use Rattle.smith_edit.specs.ShortNames.{new_from, shortest_new}
use Rattle.smith_edit.proofs.names.Names.shortest_new.Given as goal

abbrev pub invariant-loop-count : goal.invariant-loop-count
invariant-loop-count l = (names : List (List ℕ)) → Knows l.self names → new_from (length names - l.count) l.count names ≡ shortest_new names
