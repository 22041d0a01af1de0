-- Which components can be generated if they are well formed, as counts, names and types alone say.
use Rattle.std.specs.Prelude.{◌≡◌, ◌≤◌, false}
use Rattle.smith_format.specs.Consistency.{IsConsistent}
use Rattle.smith_format.specs.declared.config.Config.{Config}
use Rattle.smith_tree.specs.Limits.{max_depth}
use Rattle.smith_tree.specs.Readable.{IsFinishable}
use Rattle.smith_tree.specs.Tree.{Tree, declared_depth}
use Rattle.smith_edit.specs.Counts.{KeepsMaxima}
use Rattle.smith_reduce.specs.Fits.{Fits}

-- The limits fit together, have no minimum, and do not demand that components validate.
pub record HasNoDemands (config : Config) : Type 0 where
  pub unvalidated : config.must_validate ≡ false
  pub types : config.min_types ≡ 0
  pub imports : config.min_imports ≡ 0
  pub functions : config.min_funcs ≡ 0
  pub consistent : IsConsistent config

pub record IsAllowed (config : Config) (t : Tree) : Type 0 where
  pub limits : HasNoDemands config
  pub counts : KeepsMaxima config t
  pub finishable : IsFinishable config t
  pub fits : Fits config t
  pub depth : declared_depth t ≤ max_depth config
