use Rattle.std.proofs.Common.{◌≡◌, ◌+◌, drop}
use Rattle.smith_input.specs.Script.{rank_of}
use Rattle.smith_script_types.proofs.choices.place_of.Given as goal

abbrev pub invariant-loop-place : goal.invariant-loop-place
invariant-loop-place g l = l.place + rank_of g.T.PartialEq.eq (drop l.place l.items) l.item ≡ rank_of g.T.PartialEq.eq l.items l.item
