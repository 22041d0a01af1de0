use Rattle.std.proofs.Common.{refl}
use Rattle.smith_run.proofs.Made.{not_too_long, refused, written}
use Rattle.smith_run.proofs.running.convert.Goals as goal

pub returns-clause-written : goal.returns-clause-written
returns-clause-written g c =
    written (λ _. c.args.config) (λ b. b) c.in_ok-input.input.items c.in_ok-input.ensures.all refl c.deref.ensures.value c.args.form _ _ c.write_made.result
    c.write_made.ensures.written

pub returns-clause-whole : goal.returns-clause-whole
returns-clause-whole g c =
    refused (λ _. c.args.config) (λ b. b) c.in_ok-input.input.items c.in_ok-input.ensures.all refl c.deref.ensures.value c.write_made.result
    c.write_made.ensures.refused

pub returns-clause-too_long : goal.returns-clause-too_long
returns-clause-too_long g c = not_too_long c.write_made.result c.write_made.ensures.faults
