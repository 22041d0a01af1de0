use Rattle.std.proofs.Common.{◌∙◌}
use Rattle.smith_print.proofs.Following.{past_piece}
use Rattle.smith_print.proofs.passing.pass_bytes.Goals as goal

pub returns : goal.returns
returns c = λ p long rest e. c.split_at.ensures.back ∙ past_piece p c.args.bytes.now rest c.args.count long e
