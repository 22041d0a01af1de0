use Rattle.smith_edit.proofs.FewerEntries.{maxima_kept}
use Rattle.smith_edit.proofs.laws.counts_are_no_more_without_more.Goals as goal

pub returns : goal.returns
returns c = maxima_kept
