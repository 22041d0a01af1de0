use Rattle.smith_script_types.proofs.choices.+say_big_endian.Given as goal

abbrev pub decreases-say_big_endian : goal.decreases-say_big_endian
decreases-say_big_endian l = l.width
