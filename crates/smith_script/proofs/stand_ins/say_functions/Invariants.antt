use Rattle.std.proofs.Common.{◌≡◌, ◌-◌}
use Rattle.smith_core.specs.StandInScript.{functions_from}
use Rattle.smith_script_types.proofs.Saying.{Towards}
use Rattle.smith_script_types.specs.Fronts.{script_functions}
use Rattle.smith_script.proofs.stand_ins.say_functions.Given as goal

abbrev pub invariant-loop-done : goal.invariant-loop-done
invariant-loop-done l = record {
  said : Towards l.initial.out l.out (script_functions l.config 0 (functions_from l.count l.bytes).0)
      (script_functions l.config l.done (functions_from (l.count - l.done) l.left).0);
  left : (functions_from (l.count - l.done) l.left).1 ≡ (functions_from l.count l.bytes).1;
}
