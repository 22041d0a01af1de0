use Rattle.std.proofs.Common.{◌≡◌, ◌+◌, drop, map}
use Rattle.smith_edit.specs.Items.{row_items}
use Rattle.smith_edit.proofs.items.row_items.Given as goal

abbrev pub invariant-loop-item : goal.invariant-loop-item
invariant-loop-item g l =
    l.count + row_items g.T.Row.items (map g.T.Row.shown (drop l.item-index l.items))
    ≡ row_items g.T.Row.items (map g.T.Row.shown l.items)
