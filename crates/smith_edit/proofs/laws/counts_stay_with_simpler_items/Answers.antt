use Rattle.smith_edit.proofs.SimplerEntries.{maxima_simplified}
use Rattle.smith_edit.proofs.laws.counts_stay_with_simpler_items.Goals as goal

pub returns : goal.returns
returns c = maxima_simplified
