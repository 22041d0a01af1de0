use Rattle.smith_read.proofs.ShownNodes.{shown_declared}
use Rattle.smith_read.specs.TypeNodes.{shown_type_node}
use Rattle.smith_scopes.proofs.PlainTrees.{plain_same}
use Rattle.smith_scopes.proofs.nodes.NodeScopes.add_decl.Goals as goal

pub returns-in-Type-clause-own : goal.returns-in-Type-clause-own
returns-in-Type-clause-own c = rw (c.in-Type.is, shown_declared c.in-Type.ty, plain_same (shown_type_node c.in-Type.ty)) c.add_type.ensures.own
