use Rattle.std.proofs.Common.{subst}
use Rattle.smith_input.specs.Reading.{Flips}
use Rattle.smith_format.specs.CoreReading.{unbounded, bounded}
use Rattle.smith_format.proofs.CoreReading.{between}
use Rattle.smith_format.proofs.make.make_limits.Goals as goal

pub returns-then-arbitrary_bool-clause-reads : goal.returns-then-arbitrary_bool-clause-reads
returns-then-arbitrary_bool-clause-reads c =
    let flipped = subst (λ a. Flips c.int_in_range-minimum.new.self a c.arbitrary_bool.new.self) c.if-arbitrary_bool.true c.arbitrary_bool.ensures in
    record {
      mid = c.int_in_range-minimum.new.self;
      least = between c.int_in_range-minimum.ensures;
      most = bounded flipped (between c.int_in_range-maximum.ensures);
    }

pub returns-clause-reads : goal.returns-clause-reads
returns-clause-reads c =
    let flipped = subst (λ a. Flips c.int_in_range-minimum.new.self a c.arbitrary_bool.new.self) c.if-arbitrary_bool.false c.arbitrary_bool.ensures in
    record { mid = c.int_in_range-minimum.new.self; least = between c.int_in_range-minimum.ensures; most = unbounded flipped }
