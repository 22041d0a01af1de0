use Rattle.std.proofs.Common.{◌≡◌, ℕ, List, true}
use Rattle.smith_tree.specs.Facts.{Id}
use Rattle.smith_validate.specs.Deferring.{AreSettled, IsExposure}
use Rattle.smith_validate.specs.Exact.{is_exposed}
use Rattle.smith_validate.specs.Instances.{Surface, IsTable}
use Rattle.smith_validate.specs.Tables.{AreDistinct, AreExact}
use Rattle.smith_validate.proofs.exposure.Exposure.finish.Given as goal

abbrev pub invariant-loop : goal.invariant-loop
invariant-loop l = record {
  settled : (table : List Surface) (named : List Id) → IsTable l.all table → AreSettled table l.fn.self named → AreSettled table l.self named;
  exposed : (table : List Surface) (named : List Id) → AreExact l.all table → AreDistinct table → IsExposure table l.fn.self named
      → IsExposure table l.self named;
  more : (n : ℕ) → is_exposed l.fn.self.exposed n ≡ true → is_exposed l.self.exposed n ≡ true;
}
