use Rattle.smith_script_types.proofs.fronts.+are_i32s.Given as goal

abbrev pub decreases-are_i32s : goal.decreases-are_i32s
decreases-are_i32s l = l.count
