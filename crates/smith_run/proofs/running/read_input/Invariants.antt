use Rattle.std.proofs.Common.{◌+◌, ◌-◌, ◌≤◌, vec_items, vec_len}
use Rattle.std.specs.Io.KnownBytes.{Consumes}
use Rattle.smith_run.specs.Running.{longest_input}
use Rattle.smith_run.proofs.running.read_input.Given as goal

abbrev pub invariant-reads : goal.invariant-reads
invariant-reads g l = record {
  given : Consumes (g.R.Read.remaining l.initial.reader) (g.R.Read.remaining l.reader) (vec_items l.input);
  bound : vec_len l.input ≤ longest_input + 1;
}

-- Each turn makes one read.
abbrev pub decreases-reads : goal.decreases-reads
decreases-reads g l = longest_input + 1 - vec_len l.input
