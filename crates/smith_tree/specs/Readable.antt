-- Which components can be read, and which can be generated: each name can be made after those before it, core modules stand for
-- generated ones, and there are export sections only if there may be exports.
use Rattle.std.specs.Prelude.{◌≡◌, ℕ, ◌<◌, ◌≤◌, List, ◌∷◌, length}
use Rattle.std.specs.List.{AllByRecursion}
use Rattle.std.specs.Str.{IsUtf8}
use Rattle.smith_input.specs.NameScript.{AreReachable}
use Rattle.smith_core.specs.StandInText.{StandIn, stand_in_text}
use Rattle.smith_core.specs.StandInScript.{IsStandIn}
use Rattle.smith_format.specs.declared.config.Config.{Config}
use Rattle.smith_tree.specs.Offered.{IsOffered}
use Rattle.smith_tree.specs.ReadableCoreTypes.{IsReadableCore}
use Rattle.smith_tree.specs.ReadableTypes.{IsReadableType}
use Rattle.smith_tree.specs.Limits.{Limits, Sized}
use Rattle.smith_format.specs.Piece.{bytes_of}
use Rattle.smith_tree.specs.Tree.{Tree, ends, first, Part, custom, core_module, core_types, component, types, canons, imports, exports, add}
use Rattle.smith_tree.specs.Tree.{exports_of, imports_of, inside, parts_of}
use Rattle.smith_tree.specs.WellFormed.{WellFormed, export_names, import_names}

-- The core module of these bytes stands for a generated one.
abbrev pub StandsForModule : Config → List ℕ → Type 0
StandsForModule config text = (s : StandIn) × IsStandIn config s × (text ≡ bytes_of (stand_in_text s))

-- Each part can be read after those before it.
abbrev mutual
  pub IsReadableRest : Config → Tree → Tree → Type 0
  IsReadableRest config ends before = Unit {0}
  IsReadableRest config (first p t) before = IsReadablePart config p before × IsReadableRest config t (add before p)

  pub IsReadablePart : Config → Part → Tree → Type 0
  IsReadablePart config (custom name contents) before = IsUtf8 name
  IsReadablePart config (core_module text) before = StandsForModule config text
  IsReadablePart config (core_types ts) before = AllByRecursion (IsReadableCore config) ts
  IsReadablePart config (component t) before = IsReadableRest config t ends
  IsReadablePart config (types ts) before = AllByRecursion (IsReadableType config) ts
  IsReadablePart config (canons fs) before = Unit {0}
  IsReadablePart config (imports is) before =
      AreReachable config.max_name_length (import_names (imports_of before)) (import_names is)
  IsReadablePart config (exports es) before =
      (0 < config.max_exports) × AreReachable config.max_name_length (export_names (exports_of before)) (export_names es)

abbrev pub IsReadable : Config → Tree → Type 0
IsReadable config tree = IsReadableRest config tree ends

-- It has enough sections to be finished while input is left.
abbrev pub IsFinishable : Config → Tree → Type 0
IsFinishable config t = config.finish_after ≤ length (parts_of t)

-- so has each component of the tree
abbrev pub AreFinishable : Config → Tree → Type 0
AreFinishable config tree = AllByRecursion (IsFinishable config) (tree ∷ inside tree)

-- It is well formed, within the limits and the fuel of types, and can be read, and all that it uses is offered.
pub record CanBeGenerated (config : Config) (tree : Tree) : Type 0 where
  pub formed : WellFormed tree
  pub limits : Limits config tree
  pub sized : Sized config tree
  pub readable : IsReadable config tree
  pub offered : IsOffered config tree
