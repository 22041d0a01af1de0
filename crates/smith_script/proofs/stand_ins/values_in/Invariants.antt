use Rattle.std.proofs.Common.{◌≡◌, ◌++◌, drop, map}
use Rattle.smith_core.specs.StandInScript.{value_of}
use Rattle.smith_script.proofs.stand_ins.values_in.Given as goal

abbrev pub invariant-loop-byte : goal.invariant-loop-byte
invariant-loop-byte l = l.values.items ++ map value_of (drop l.byte-index l.bytes) ≡ map value_of l.bytes
