-- When a module type is within limits.
use Rattle.std.proofs.Common.{◌≡◌, ℕ, ◌<◌, ◌≤◌, List, ap, arith, length, map, subst, sym}
use Rattle.std.proofs.lemmas.List.Elements.{Contains-from_at}
use Rattle.std.proofs.lemmas.List.{length-map}
use Rattle.std.specs.List.{AllByRecursion, Contains, HoldsAt}
use Rattle.smith_format.specs.CoreFormed.{FormedFunction}
use Rattle.smith_format.specs.CoreTypes.{Function}
use Rattle.smith_format.specs.Limits.{configured, max_results}
use Rattle.smith_format.specs.Piece.{bytes_of}
use Rattle.smith_format.specs.declared.config.Config.{Config}
use Rattle.smith_format.specs.declared.types.EntityType.{EntityType}
use Rattle.smith_syntax.specs.CoreLimits.{EntityLimits}
use Rattle.smith_syntax.specs.Entries.{ModuleDecl, core_module}
use Rattle.smith_syntax.specs.ModuleTypes.{after_front, entities_in, func_of}
use Rattle.smith_tree.specs.Readable.{StandsForModule}
use Rattle.smith_read.specs.Nodes.{shown_module_node}
use Rattle.smith_read.specs.declared.core_types.ModuleNode.{ModuleNode}
use Rattle.smith_component.proofs.Tables.{all_weaker}
use Rattle.smith_script.specs.StandIns.{IsStandInText}
use Rattle.smith_reduce.specs.Fits.{AllowsDecl, KeepsCounts, FitsCore, HasReadableTexts}
use Rattle.smith_reduce.proofs.Loops.{all_flat}

-- A value at a place of a list is contained in it.
pub is_contained : {X : Type 0} (xs : List X) (x : X) → (k : ℕ) × (k < length xs) × HoldsAt (λ y. y ≡ x) xs k → Contains xs x
is_contained xs x at = Contains-from_at xs x at

-- Function types and memories within the limits are a core module that stands for a generated one.
pub stands_for_module : (config : Config) (text : List ℕ) → IsStandInText config text → StandsForModule config text
stands_for_module config text is = (is.0, is.1, sym (ap bytes_of is.2))

module _ (config : Config) (ds : List ModuleDecl) where
  pub module_fits : (behind : List ModuleNode) → map shown_module_node behind ≡ after_front ds → length behind ≤ 100 → KeepsCounts config ds
      → AllByRecursion (AllowsDecl config) ds → AllByRecursion (HasReadableTexts config) (map shown_module_node behind) → FitsCore config (core_module ds)
  module_fits behind is small few allowed names =
      let P : Function → Type 0 = FormedFunction (configured config) (max_results config) in
      let Q : EntityType → Type 0 = EntityLimits config in
      let declares : ModuleDecl → Type 0 = λ d. AllByRecursion P (func_of d) in
      let passes : ModuleDecl → Type 0 = λ d. AllByRecursion Q (entities_in d) in
      record {
        limits = record {
          functions = all_flat P func_of ds (all_weaker (AllowsDecl config) declares (λ d both. both.0) ds allowed);
          entities = all_flat Q entities_in ds (all_weaker (AllowsDecl config) passes (λ d both. both.1) ds allowed);
          types = few.types;
          globals = few.globals;
          tables = few.tables;
          memories = few.memories;
          tags = few.tags;
          funcs = few.functions;
          declarations = omega (arith, ap length is, length-map behind shown_module_node, small);
        };
        names = subst (AllByRecursion (HasReadableTexts config)) is names;
      }
