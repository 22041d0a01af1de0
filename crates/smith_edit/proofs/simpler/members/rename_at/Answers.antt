use Rattle.std.proofs.Common.{arith}
use Rattle.std.proofs.lemmas.List.{length-map}
use Rattle.smith_edit.proofs.Renaming.{renamed_beyond, renamed_none, renamed_some}
use Rattle.smith_edit.proofs.simpler.members.rename_at.Goals as goal

pub returns-then-place-items : goal.returns-then-place-items
returns-then-place-items g c = grind (arith, length-map, renamed_beyond)

pub returns-in_default : goal.returns-in_default
returns-in_default g c = grind (arith, renamed_none)

pub returns : goal.returns
returns g c = grind (arith, renamed_some)
