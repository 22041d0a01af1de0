use Rattle.std.proofs.Common.{◌≡◌, map, take}
use Rattle.smith_syntax.specs.Signature.{named}
use Rattle.smith_syntax.proofs.func.FuncType.copied.Given as goal

abbrev pub invariant-loop-name : goal.invariant-loop-name
invariant-loop-name l = map named l.params.items ≡ map named (take l.name-index l.self-inside.params.items)
