-- How many entries there are, as the program counts them.
use Rattle.std.specs.Prelude.{◌≡◌, IfErr, OnOk, Result}
use Rattle.smith_tree.specs.Counts.{Counts, ValidCounts}
use Rattle.smith_tree.specs.Demands.{Keeps}
use Rattle.smith_validate.specs.Judges.{IsUnnamed, Judges}
use Rattle.smith_validate.specs.declared.counts.Counts.{Counts as Counted}
use Rattle.smith_validate.specs.declared.error.Stop.{Stop}

abbrev pub counted : Counted → Counts
counted c = record {
  types = c.types;
  functions = c.functions;
  modules = c.modules;
  components = c.components;
  instances = c.instances;
  imports = c.imports;
  exports = c.exports;
}

-- There are so many after a call, which stops only if these are too many.
pub record IsCounted {A : Type 0} (result : Result A Stop) (old new : Counted) (after : Counts → Counts) : Type 0 where
  pub bound : IfErr result IsUnnamed
  pub judged : ValidCounts (counted old) → Judges result (λ d. Keeps d.counts (ValidCounts (after (counted old))))
  pub added : OnOk result (counted new ≡ after (counted old))
