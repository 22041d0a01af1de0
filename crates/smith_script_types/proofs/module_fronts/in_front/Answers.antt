use Rattle.std.proofs.Common.{sym}
use Rattle.std.proofs.lemmas.List.{length-map, take-map}
use Rattle.smith_read.specs.Nodes.{shown_module_node}
use Rattle.smith_script_types.proofs.module_fronts.in_front.Goals as goal

pub returns : goal.returns
returns c =
    rw (length-map c.args.decls.now shown_module_node, length-map c.args.after.now shown_module_node, c.saturating_sub.ensures)
    (sym (take-map shown_module_node _ c.args.decls.now))
