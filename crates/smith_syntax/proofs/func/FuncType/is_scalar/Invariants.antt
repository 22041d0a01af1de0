use Rattle.std.proofs.Common.{◌≡◌, true, map, take}
use Rattle.std.specs.List.{list_all}
use Rattle.std.specs.Option.{is_some}
use Rattle.smith_syntax.specs.Flat.{flat_value}
use Rattle.smith_syntax.specs.Signature.{named}
use Rattle.smith_syntax.proofs.func.FuncType.is_scalar.Given as goal

abbrev pub invariant-loop-ty : goal.invariant-loop-ty
invariant-loop-ty l = list_all (λ p. is_some (flat_value p.1)) (map named (take l.ty-index l.self-inside.params.items)) ≡ true
