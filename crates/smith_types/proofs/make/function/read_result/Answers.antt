use Rattle.smith_input.proofs.Loops.{none_more, none_early, one_more}
use Rattle.smith_input.proofs.Reading.{tail_trans, more_tail}
use Rattle.smith_types.proofs.Members.{spends, has_read}
use Rattle.smith_types.proofs.make.function.read_result.Goals as goal

pub returns-then-not-more_of-clause-reads : goal.returns-then-not-more_of-clause-reads
returns-then-not-more_of-clause-reads c = none_more c.if-not-more_of.true c.more_of.ensures

pub returns-then-fuel-eq0-clause-reads : goal.returns-then-fuel-eq0-clause-reads
returns-then-fuel-eq0-clause-reads c = none_early c.if-not-more_of.false c.more_of.ensures (spends _ _ c.burn.ensures c.if-fuel-eq0.true)

pub returns-clause-reads : goal.returns-clause-reads
returns-clause-reads c = one_more c.if-not-more_of.false c.more_of.ensures (has_read _ _ _ c.burn.ensures c.if-fuel-eq0.false c.read_value_type.ensures.reads)

pub returns-clause-tail : goal.returns-clause-tail
returns-clause-tail c = tail_trans c.read_value_type.ensures.tail (more_tail c.more_of.ensures)
