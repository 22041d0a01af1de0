use Rattle.std.proofs.Common.{◌≡◌, map}
use Rattle.std.proofs.Math.ListN.{drop}
use Rattle.smith_input.specs.NewNames.{is_among}
use Rattle.smith_input.proofs.names.has_label.Given as goal

-- No item so far has the name.
abbrev pub invariant-loop-item : goal.invariant-loop-item
invariant-loop-item g l = is_among (map g.T.Labelled.text (drop l.item-index l.items)) l.name ≡ is_among (map g.T.Labelled.text l.items) l.name
