use Rattle.std.proofs.Common.{drop, map}
use Rattle.smith_syntax.specs.Signature.{named}
use Rattle.smith_tree.specs.TypeScript.{script_params}
use Rattle.smith_script_types.proofs.Saying.{Towards}
use Rattle.smith_script.proofs.canons.say_params.Given as goal

abbrev pub invariant-loop-done : goal.invariant-loop-done
invariant-loop-done l = Towards l.initial.out l.out (script_params l.config 0 (map named l.params))
    (script_params l.config l.done (map named (drop l.done l.params)))
