use Rattle.smith_types.proofs.Members.{is_named}
use Rattle.smith_types.proofs.make.members.Tuple2StringOptionComponentValTypeMember.read.Goals as goal

pub returns-clause-read : goal.returns-clause-read
returns-clause-read c = is_named c.args.so_far.now c.in_ok-name.ensures.read c.read_maybe_value_type.ensures.reads
