use Rattle.std.proofs.Common.{Bool, subst}
use Rattle.smith_input.specs.Reading.{Flips}
use Rattle.smith_input.proofs.Reading.{tail_trans}
use Rattle.smith_types.specs.Made.{absent, present}
use Rattle.smith_types.proofs.make.values.read_maybe_value_type.Goals as goal

pub returns-then-arbitrary_bool-clause-reads : goal.returns-then-arbitrary_bool-clause-reads
returns-then-arbitrary_bool-clause-reads c =
    let F : Bool → Type 0 = λ b. Flips c.args.u.now b c.arbitrary_bool.new.self in
    present (subst F c.if-arbitrary_bool.true c.arbitrary_bool.ensures) c.read_value_type.ensures.reads

pub returns-then-arbitrary_bool-clause-tail : goal.returns-then-arbitrary_bool-clause-tail
returns-then-arbitrary_bool-clause-tail c = tail_trans c.read_value_type.ensures.tail (1, c.arbitrary_bool.ensures.left)

pub returns-else-arbitrary_bool-clause-reads : goal.returns-else-arbitrary_bool-clause-reads
returns-else-arbitrary_bool-clause-reads c =
    let F : Bool → Type 0 = λ b. Flips c.args.u.now b c.arbitrary_bool.new.self in
    absent (subst F c.if-arbitrary_bool.false c.arbitrary_bool.ensures)
