use Rattle.smith_types.proofs.MadeCore.{core_fits}
use Rattle.smith_types.proofs.laws.made_core_types_are_readable.Goals as goal

pub returns : goal.returns
returns c config around bytes fuel e rest left made =
    let f = core_fits made in
    (f.formed, f.limits, f.readable, f.takes.enough, f.takes.leaves)
