use Rattle.std.proofs.Common.{map}
use Rattle.smith_input.specs.Reading.{IsTail}
use Rattle.smith_syntax.specs.Signature.{named}
use Rattle.smith_types.proofs.Lifting.{Onward}
use Rattle.smith_types.proofs.canonical.lifted_params.Given as goal

-- Whatever is read from here, all is read with the parameters so far.
abbrev pub invariant-loop-ty : goal.invariant-loop-ty
invariant-loop-ty l = record {
  tail : IsTail l.u l.fn.u;
  onward : Onward l.max_name_length l.core l.fn.u l.ty-index l.u (map named l.params.items);
}
