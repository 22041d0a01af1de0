use Rattle.smith_script_types.proofs.choices.+width_within.Given as goal

abbrev pub decreases-width_within : goal.decreases-width_within
decreases-width_within l = l.most
