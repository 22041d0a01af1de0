use Rattle.std.proofs.Common.{sym}
use Rattle.smith_scopes.specs.Nodes.{shown_marked}
use Rattle.smith_script_types.proofs.Ranks.{among_all}
use Rattle.smith_script_types.proofs.positions.say_usable.Goals as goal

pub returns-in-None : goal.returns-in-None
returns-in-None c =
    rw (among_all c.args.offer (shown_marked c.args.scope.now) c.args.index c.in-None.ensures.places, sym c.types_len.ensures.count) c.say_index.ensures
