use Rattle.std.proofs.Common.{ap, sym, ◌∙◌}
use Rattle.std.proofs.Math.Bool.{or-false}
use Rattle.smith_input.specs.NewNames.{is_among}
use Rattle.smith_types.proofs.core_types.module_names.is_taken_name.Goals as goal

pub returns-in-Some : goal.returns-in-Some
returns-in-Some c = c.eq.ensures ∙ sym (or-false _) ∙ sym (ap (λ ns. is_among ns c.args.name.now) (rw c.in-Some.is at c.taken_name.ensures))
