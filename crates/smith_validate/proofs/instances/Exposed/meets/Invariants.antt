use Rattle.std.proofs.Common.{◌<◌, [], List, length, reverse}
use Rattle.smith_tree.specs.Facts.{Id}
use Rattle.smith_validate.specs.Exact.{IsExposed}
use Rattle.smith_validate.specs.Exposing.{IsOnTheWay, IsSettled, number_of}
use Rattle.smith_validate.specs.Instances.{Surface, IsTable, outside_of}
use Rattle.smith_validate.specs.Marks.{Within}
use Rattle.smith_validate.specs.Opening.{IsMidway, IsOpenable}
use Rattle.smith_validate.specs.Tables.{AreDistinct, AreExact}
use Rattle.smith_validate.proofs.instances.Exposed.meets.Given as goal

abbrev pub invariant-loop : goal.invariant-loop
invariant-loop l = record {
  met : (table : List Surface) (named : List Id) → IsTable l.all table → IsSettled table l.fn.self named
      → number_of l.fn.used < length table → Within named (outside_of table (number_of l.fn.used))
      → IsOnTheWay table l.all l.fn.used named l.self (reverse l.rest.items);
  exact : (table : List Surface) (named : List Id) → AreExact l.all table → AreDistinct table → IsExposed table l.fn.self [] named
      → IsOpenable table l.fn.self [] l.fn.used
      → IsMidway table l.all l.fn.used named l.self (reverse l.rest.items);
}
