use Rattle.std.proofs.Common.{sym, ◌∙◌}
use Rattle.smith_read.proofs.Finding.{place_found}
use Rattle.smith_read.proofs.offsets.offset_of.Goals as goal

pub returns-in-Ok-clause-right : goal.returns-in-Ok-clause-right
returns-in-Ok-clause-right c = λ t s. (place_found c.args.item t c.args.bytes.now s).right _ c.in-Ok.ensures

pub returns-in-Ok-clause-found : goal.returns-in-Ok-clause-found
returns-in-Ok-clause-found c = λ t d s. sym c.in-Ok.ensures ∙ (place_found c.args.item t c.args.bytes.now s).whole d

pub returns-in-Err-Malformed-clause-found : goal.returns-in-Err-Malformed-clause-found
returns-in-Err-Malformed-clause-found c = λ t d s.
    sym (rw c.in-Err-Malformed.field-0-is at c.in-Err-Malformed.ensures) ∙ (place_found c.args.item t c.args.bytes.now s).whole d
