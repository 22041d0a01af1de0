use Rattle.std.proofs.Common.{map, arith}
use Rattle.std.proofs.lemmas.List.{length-map}
use Rattle.smith_read.specs.Nodes.{shown_module_node}
use Rattle.smith_script_types.proofs.Saying.{ends}
use Rattle.smith_script_types.proofs.ModuleTurns.{line_taken}
use Rattle.smith_script_types.proofs.module_fronts.say_line.Goals as goal

pub returns-then-after-decls : goal.returns-then-after-decls
returns-then-after-decls c =
    rw (line_taken c.args.may (map shown_module_node c.args.decls.now) (map shown_module_node c.args.after.now)
    (omega (arith, c.if-after-decls.true, length-map c.args.decls.now shown_module_node, length-map c.args.after.now shown_module_node)))
    (ends c.say_all_asked.result _ _ (c.in_ok-say_choice.ensures {u = tt}) (rw c.in_front.ensures at c.say_all_asked.ensures))
