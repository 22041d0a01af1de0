use Rattle.std.proofs.Common.{◌≡◌, ℕ, ◌++◌, List, drop, map}
use Rattle.smith_edit.specs.Edits.{all_renamed}
use Rattle.smith_edit.specs.Names.{Knows}
use Rattle.smith_edit.proofs.names.Names.all_renamed.Given as goal

abbrev pub invariant-loop-item : goal.invariant-loop-item
invariant-loop-item g l = (names : List (List ℕ)) → Knows l.initial.self names
    → Knows l.self (names ++ map g.T.Named.name (map g.T.Named.shown l.renamed.items))
    × (map g.T.Named.shown l.renamed.items
    ++ all_renamed g.T.Named.name g.T.Named.rename (names ++ map g.T.Named.name (map g.T.Named.shown l.renamed.items))
    (map g.T.Named.shown (drop l.item-index l.items))
    ≡ all_renamed g.T.Named.name g.T.Named.rename names (map g.T.Named.shown l.items))
