use Rattle.std.proofs.Common.{◌+◌, drop}
use Rattle.smith_input.specs.Script.{script_loop}
use Rattle.smith_tree.specs.TypeScript.{script_members}
use Rattle.smith_script_types.proofs.Saying.{Towards}
use Rattle.smith_script_types.proofs.members.say_members.Given as goal

abbrev pub invariant-loop-done : goal.invariant-loop-done
invariant-loop-done g l =
    Towards l.initial.out l.out (script_members (g.T.Scripted.script l.context) l.min l.max l.items)
    (script_loop (g.T.Scripted.script l.context) (λ count x. count + 1) l.min l.max l.done l.done (drop l.done l.items))
