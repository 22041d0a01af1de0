use Rattle.smith_edit.proofs.names.+push_short.Given as goal

abbrev pub decreases-push_short : goal.decreases-push_short
decreases-push_short l = l.count
