use Rattle.std.proofs.Common.{refl}
use Rattle.smith_validate.proofs.body.Sets.new.Goals as goal

pub returns : goal.returns
returns c = (
  refl,
  λ table named. (c.new.ensures.settled table named, c.new-2.ensures.settled table named),
  λ table. (c.new.ensures.exposed table, c.new-2.ensures.exposed table),
)
