use Rattle.std.proofs.Common.{◌≡◌}
use Rattle.std.proofs.Math.ListN.{drop}
use Rattle.std.specs.List.{list_any}
use Rattle.smith_scopes.specs.NodeScopes.{own_in}
use Rattle.smith_tree.specs.Possible.{needs_memory, values_of}
use Rattle.smith_check.proofs.ValueSteps.{values_in}
use Rattle.smith_check.proofs.canons.needs_memory.Given as goal

abbrev pub invariant-loop-param : goal.invariant-loop-param
invariant-loop-param l = list_any (needs_memory (own_in l.scopes).types) (values_of l.ty)
    ≡ list_any (needs_memory (own_in l.scopes).types) (values_in (drop l.param-index l.ty-inside.params.items) l.ty-inside.result)
