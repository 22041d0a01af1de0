use Rattle.std.proofs.Common.{◌≡◌, ◌++◌, drop, length, map}
use Rattle.smith_edit.specs.Edited.{members}
use Rattle.smith_edit.specs.Walk.{shown_walk, skipped}
use Rattle.smith_edit.proofs.members.edit_members.Given as goal

abbrev pub invariant-loop-item : goal.invariant-loop-item
invariant-loop-item g l = record {
  left : map g.T.Member.shown l.left.items
      ++ members (g.T.Member.edits l.walk.scopes.own.types) l.walk.removal (map g.T.Member.shown (drop l.item-index l.items))
      ≡ members (g.T.Member.edits l.initial.walk.scopes.own.types) l.initial.walk.removal (map g.T.Member.shown l.items);
  walk : skipped (length (drop l.item-index l.items)) (shown_walk l.walk) ≡ skipped (length l.items) (shown_walk l.initial.walk);
}
