-- The components that are finished even if the input ends before the root is.
use Rattle.std.specs.Prelude.{◌≡◌, List, [], ◌∷◌, ◌++◌}
use Rattle.std.specs.List.{AllByRecursion}
use Rattle.smith_format.specs.declared.config.Config.{Config}
use Rattle.smith_tree.specs.Readable.{AreFinishable}
use Rattle.smith_tree.specs.Tree.{Tree, components_in, own}

-- Each component has as many sections as one that is finished while input is left, but for these, which may be open when the input ends: the
-- root, the last component in it, the last component in that, and so on.
pub data AreFinishableButLast (config : Config) : Tree → Type 0 where
  alone : {t : Tree} → own components_in t ≡ [] → AreFinishableButLast config t
  around : {t : Tree} (before : List Tree) (last : Tree) → own components_in t ≡ before ++ last ∷ [] → AllByRecursion (AreFinishable config) before
      → AreFinishableButLast config last → AreFinishableButLast config t
