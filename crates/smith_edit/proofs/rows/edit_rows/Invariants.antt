use Rattle.std.proofs.Common.{◌≡◌, ◌++◌, drop, map}
use Rattle.smith_edit.specs.Edited.{after_rows, rows}
use Rattle.smith_edit.specs.Walk.{shown_walk}
use Rattle.smith_edit.proofs.rows.edit_rows.Given as goal

abbrev pub invariant-loop-item : goal.invariant-loop-item
invariant-loop-item g l = record {
  left : map g.T.Row.shown l.left.items
      ++ rows g.T.Row.items g.T.Row.edits g.T.Row.adds (shown_walk l.walk) (map g.T.Row.shown (drop l.item-index l.items))
      ≡ rows g.T.Row.items g.T.Row.edits g.T.Row.adds (shown_walk l.initial.walk) (map g.T.Row.shown l.items);
  walk : after_rows g.T.Row.items g.T.Row.edits g.T.Row.adds (shown_walk l.walk) (map g.T.Row.shown (drop l.item-index l.items))
      ≡ after_rows g.T.Row.items g.T.Row.edits g.T.Row.adds (shown_walk l.initial.walk) (map g.T.Row.shown l.items);
}
