use Rattle.std.proofs.Common.{◌≡◌, ◌≤◌, ◌-◌, ℕ, drop, map}
use Rattle.std.specs.Prelude.{take}
use Rattle.smith_input.specs.Script.{script_loop}
use Rattle.smith_read.specs.Nodes.{shown_module_node}
use Rattle.smith_tree.specs.ModuleScript.{script_decl, script_module}
use Rattle.smith_tree.specs.CoreTypeOffers.{with_decl}
use Rattle.smith_script_types.proofs.Saying.{Towards}
use Rattle.smith_script_types.specs.Places.{so_far}
use Rattle.smith_script_types.specs.Places.{plain_at}
use Rattle.smith_script_types.proofs.modules.say_module.Given as goal

abbrev pub invariant-loop-index : goal.invariant-loop-index
invariant-loop-index l = record {
  from : l.front ≤ l.index;
  decls : (so_far l.declared).decls ≡ map shown_module_node (take l.index l.decls);
  left : (fuel : ℕ) → Towards l.fn.out l.out (script_module l.place.config.now (plain_at l.place) fuel (map shown_module_node l.decls))
      (script_loop (script_decl l.place.config.now (plain_at l.place)) (with_decl (plain_at l.place).core_types) 0 100 (l.index - l.front) (so_far l.declared)
      (map shown_module_node (drop l.index l.decls)));
}
