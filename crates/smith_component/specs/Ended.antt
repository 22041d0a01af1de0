-- The components of an input that ended, when no minimum is asked of any.
use Rattle.std.specs.Prelude.{◌≡◌}
use Rattle.std.specs.List.{AllByRecursion}
use Rattle.smith_format.specs.declared.config.Config.{Config}
use Rattle.smith_tree.specs.Readable.{AreFinishable}
use Rattle.smith_tree.specs.Tree.{Tree, add, component, components_in, own}

-- The input ended while this component was the innermost open one, so that each component in it was finished before; or the component that is its
-- last section was open too, and each component in the sections before that was finished before. No section follows a component that was open.
pub data AreFinishedOrOpen (config : Config) : Tree → Type 0 where
  innermost : {t : Tree} → AllByRecursion (AreFinishable config) (own components_in t) → AreFinishedOrOpen config t
  around : {t : Tree} (before u : Tree) → t ≡ add before (component u) → AllByRecursion (AreFinishable config) (own components_in before)
      → AreFinishedOrOpen config u → AreFinishedOrOpen config t
