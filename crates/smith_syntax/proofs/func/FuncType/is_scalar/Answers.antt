use Rattle.std.proofs.Common.{arith, ◌≡◌, ℕ, ◌<◌, false, ◌&&◌, List, map, length, ◌∙◌}
use Rattle.std.proofs.lemmas.List.Folds.{list_all_at, list_all-map}
use Rattle.std.specs.Option.{is_some}
use Rattle.std.specs.Prelude.{String, get_or}
use Rattle.std.specs.declared.alloc.Global.{Global}
use Rattle.smith_syntax.specs.Entries.{Signature}
use Rattle.smith_syntax.specs.Flat.{flat_value, is_scalar}
use Rattle.smith_syntax.specs.Signature.{named}
use Rattle.smith_syntax.specs.declared.types.ComponentValType.{ComponentValType}
use Rattle.smith_syntax.proofs.func.FuncType.is_scalar.Goals as goal

-- a parameter is not a scalar
not_scalar : (xs : List (String Global × ComponentValType)) (s : Signature) (i : ℕ) (p : String Global × ComponentValType) → s.params ≡ map named xs
    → i < length xs → p ≡ get_or xs i p → is_some (flat_value p.1) ≡ false → false ≡ is_scalar s
not_scalar xs s i p e l at not = grind (arith, list_all_at, list_all-map)

pub returns-then-not-is_scalar_value : goal.returns-then-not-is_scalar_value
returns-then-not-is_scalar_value c = grind (arith, not_scalar)
