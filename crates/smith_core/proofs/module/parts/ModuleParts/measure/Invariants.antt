use Rattle.std.proofs.Common.{◌≤◌, ◌+◌, ◌-◌, ◌*◌, ◌^◌}
use Rattle.smith_format.proofs.Sizes.{Sum}
use Rattle.smith_core.specs.Module.{section}
use Rattle.smith_core.proofs.module.parts.ModuleParts.measure.Given as goal

-- What is measured so far is the preamble and these sections.
abbrev pub invariant-loop-kind : goal.invariant-loop-kind
invariant-loop-kind l = record {
  sum : Sum (section l.fn.self) l.kind-items l.kind-index (l.total - 8);
  least : 8 ≤ l.total;
  most : l.total ≤ 8 + l.kind-index * 2 ^ 34;
}
