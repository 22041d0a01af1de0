use Rattle.std.proofs.Common.{◌≡◌, ℕ, ◌++◌, List, drop, map}
use Rattle.smith_edit.specs.Names.{Knows}
use Rattle.smith_edit.proofs.names.Names.add_all.Given as goal

abbrev pub invariant-loop-item : goal.invariant-loop-item
invariant-loop-item g l = (names : List (List ℕ)) → Knows l.initial.self names
    → (known : List (List ℕ)) × Knows l.self known
    × (known ++ map g.T.Named.name (map g.T.Named.shown (drop l.item-index l.items)) ≡ names ++ map g.T.Named.name (map g.T.Named.shown l.items))
