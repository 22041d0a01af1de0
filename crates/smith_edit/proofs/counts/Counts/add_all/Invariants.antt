use Rattle.std.proofs.Common.{◌≡◌, drop, fold, map}
use Rattle.smith_tree.specs.Spaces.{Spaces}
use Rattle.smith_edit.specs.Counts.{counts_of}
use Rattle.smith_edit.proofs.counts.Counts.add_all.Given as goal

abbrev pub invariant-loop-item : goal.invariant-loop-item
invariant-loop-item g l = (s : Spaces) → l.initial.self ≡ counts_of s
    → (so_far : Spaces) × (l.self ≡ counts_of so_far)
    × (fold g.T.Counted.after so_far (map g.T.Counted.shown (drop l.item-index l.items)) ≡ fold g.T.Counted.after s (map g.T.Counted.shown l.items))
