use Rattle.std.proofs.Common.{arith}
use Rattle.smith_scopes.specs.Nodes.{shown_marked}
use Rattle.smith_tree.proofs.Aliases.{length-aliases}
use Rattle.smith_script_types.proofs.declarations.entries_in.Goals as goal

pub overflow_add-result : goal.overflow_add-result
overflow_add-result c = omega (arith, c.types_len.ensures.small, c.core_types_len.ensures.small)

pub returns : goal.returns
returns c count =
    omega (
      arith,
      c.types_len.ensures.count,
      c.core_types_len.ensures.count,
      length-aliases count (shown_marked c.args.scope.now),
      c.types_len.ensures.small,
      c.core_types_len.ensures.small,
    )
