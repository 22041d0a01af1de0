use Rattle.std.proofs.Common.{◌≡◌, map, take, Some}
use Rattle.smith_syntax.specs.Flat.{flat_value}
use Rattle.smith_syntax.specs.Signature.{named}
use Rattle.smith_types.proofs.canonical.flat_params.Given as goal

abbrev pub invariant-loop-ty : goal.invariant-loop-ty
invariant-loop-ty l = map (λ p. flat_value p.1) (map named (take l.ty-index l.params)) ≡ map Some l.flat.items
