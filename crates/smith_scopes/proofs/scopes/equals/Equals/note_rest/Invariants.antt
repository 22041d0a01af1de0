use Rattle.std.proofs.Math.ListN.{take}
use Rattle.smith_scopes.specs.Rows.{AreRows, values_of}
use Rattle.smith_scopes.proofs.scopes.equals.Equals.note_rest.Given as goal

abbrev pub invariant-loop-index : goal.invariant-loop-index
invariant-loop-index l = AreRows l.self (take l.index (values_of l.types))
