-- When two core values are equal.
use Rattle.std.specs.Prelude.{Bool}
use Rattle.smith_format.specs.contracts.types.ValTypePartialEq.TheImpl.{ghosts as values}
use Rattle.smith_format.specs.declared.types.ValType.{ValType}

-- are both the same value type?
abbrev pub same_val : ValType → ValType → Bool
same_val = values.eq
