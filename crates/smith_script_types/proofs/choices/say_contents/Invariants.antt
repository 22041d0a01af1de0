use Rattle.std.proofs.Common.{drop}
use Rattle.smith_input.specs.Script.{script_bytes}
use Rattle.smith_script_types.proofs.Saying.{Towards}
use Rattle.smith_script_types.proofs.choices.say_contents.Given as goal

abbrev pub invariant-loop-byte : goal.invariant-loop-byte
invariant-loop-byte l = Towards l.initial.out l.out (script_bytes l.contents) (script_bytes (drop l.byte-index l.contents))
