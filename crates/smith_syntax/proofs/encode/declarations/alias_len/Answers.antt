use Rattle.std.proofs.Common.{arith, refl}
use Rattle.smith_format.proofs.Sizes.{takes_bytes, takes_then}
use Rattle.smith_syntax.proofs.Declarations.{core_type_alias_is, type_alias_is}
use Rattle.smith_syntax.proofs.encode.declarations.alias_len.Goals as goal

pub returns-in-OfType-clause-length : goal.returns-in-OfType-clause-length
returns-in-OfType-clause-length c importing =
    rw (type_alias_is importing c.args.alias.now c.in-OfType.field-0 c.in-OfType.is) (takes_then (takes_bytes 3 _ refl) c.indices_len.ensures.length)

pub returns-in-OfCoreType-clause-length : goal.returns-in-OfCoreType-clause-length
returns-in-OfCoreType-clause-length c importing = grind (arith, core_type_alias_is, takes_then, takes_bytes)
