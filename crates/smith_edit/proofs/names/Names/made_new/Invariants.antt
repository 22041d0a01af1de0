use Rattle.std.proofs.Common.{◌≡◌, ℕ, ◌-◌, List, length, string_bytes}
use Rattle.std.specs.Fmt.{decimal}
use Rattle.smith_edit.specs.Edits.{made_new, new_name}
use Rattle.smith_edit.specs.Names.{Knows}
use Rattle.smith_edit.proofs.names.Names.made_new.Given as goal

abbrev pub invariant-loop-time : goal.invariant-loop-time
invariant-loop-time l = (names : List (List ℕ)) → Knows l.self names
    → made_new (length names - l._time) names (decimal (length names)) (string_bytes l.new) ≡ new_name names l.name
