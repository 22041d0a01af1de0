use Rattle.std.proofs.Common.{◌≡◌, ◌-◌, length}
use Rattle.smith_input.specs.NameScript.{first_readable}
use Rattle.smith_script_types.proofs.names.stem_of.Given as goal

abbrev pub invariant-loop-turn : goal.invariant-loop-turn
invariant-loop-turn g l =
    first_readable (g.R.Readable.can_read l.rule) l.digits (length l.name - l._turn) l.text
    ≡ first_readable (g.R.Readable.can_read l.rule) l.digits (length l.name) l.name
