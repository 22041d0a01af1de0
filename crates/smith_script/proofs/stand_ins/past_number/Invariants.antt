use Rattle.std.proofs.Common.{◌≡◌, drop}
use Rattle.smith_core.specs.StandInScript.{past_number}
use Rattle.smith_script.proofs.stand_ins.past_number.Given as goal

abbrev pub invariant-loop-place : goal.invariant-loop-place
invariant-loop-place l = past_number (drop l.place l.bytes) ≡ past_number l.bytes
