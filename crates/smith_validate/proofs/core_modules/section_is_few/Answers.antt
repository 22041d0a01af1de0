use Rattle.std.proofs.Common.{arith}
use Rattle.smith_validate.proofs.CoreModules.{counts_are_few, counts_none, unread}
use Rattle.smith_validate.proofs.core_modules.section_is_few.Goals as goal

pub returns-in-Ok : goal.returns-in-Ok
returns-in-Ok c =
    let is = counts_are_few c.args.contents.now (c.in-Ok.count, c.in-Ok.field-0-1.now) c.in-Ok.ensures in
    (λ yes same. is.0 yes, λ few. is.1 (few c.if-id-ne-MEMORY_SECTION.false))

pub returns-in-Err-Malformed : goal.returns-in-Err-Malformed
returns-in-Err-Malformed c = grind (arith, counts_none, unread)
