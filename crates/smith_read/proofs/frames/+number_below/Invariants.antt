use Rattle.smith_read.proofs.frames.+number_below.Given as goal

abbrev pub decreases-number_below : goal.decreases-number_below
decreases-number_below l = l.limit
