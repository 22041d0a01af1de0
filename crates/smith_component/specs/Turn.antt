-- A turn of the builder.
use Rattle.std.specs.Prelude.{◌≡◌, ℕ, ◌-◌, ◌<◌, List, [], ◌∷◌, ◌++◌, length, ◌⊎◌}
use Rattle.smith_input.specs.Choices.{ReadsAmong}
use Rattle.smith_core.specs.StandIn.{ReadsStandIn}
use Rattle.smith_core.specs.declared.module.parts.ModuleParts.{ModuleParts}
use Rattle.smith_format.specs.declared.config.Config.{Config}
use Rattle.smith_syntax.specs.Entries.{CoreEntry}
use Rattle.smith_syntax.specs.Marked.{Marked}
use Rattle.smith_tree.specs.Spaces.{core_types_of}
use Rattle.smith_tree.specs.Tree.{ExportEntry, Tree, Part, ends, custom, core_module, core_types, component, exports, add}
use Rattle.smith_tree.specs.Open.{Open, items, with_inner}
use Rattle.smith_component.specs.Shown.{shown_module}
use Rattle.smith_tree.specs.Marking.{marked_inner}
use Rattle.smith_component.specs.declared.item.Counted.{Counted}
use Rattle.smith_component.specs.declared.item.Counted.TheVariants as counted
use Rattle.smith_tree.specs.declared.choices.Item.{Item}
use Rattle.smith_tree.specs.declared.choices.Item.TheVariants.{Finish, Custom, CoreTypes, Types, Imports, Canonical, Module, Component, Exports}
use Rattle.smith_tree.specs.ReadsCustom.{ReadsCustom}
use Rattle.smith_component.specs.AddedSections.{ReadsCoreTypes, Adds}
use Rattle.smith_component.specs.ExportReading.{ReadsExports}
use Rattle.smith_component.specs.Fills.{FillsAll, Lacks}

-- what a turn leads to
pub data Next : Type 0 where
  building : Open → Next
  answered : Tree → Next

-- the inner component with one more part
abbrev pub with_part : Open → Part → Next
with_part stack p = building (record { outer = stack.outer; inner = add stack.inner p })

-- an empty component in the inner one
abbrev pub with_open : Open → Next
with_open stack = building (record { outer = stack.outer ++ stack.inner ∷ []; inner = ends })

-- The root is returned, or the inner component becomes a part of the one around it.
abbrev pub Closes : Open → Next → Type 0
Closes stack next =
    ((stack.outer ≡ []) × (next ≡ answered stack.inner))
    ⊎ ((outers : List Tree) × (parent : Tree) × (stack.outer ≡ outers ++ parent ∷ [])
    × (next ≡ building (record { outer = outers; inner = add parent (component stack.inner) })))

-- a turn of such a section, which adds any number
abbrev pub AddsAny : Counted → Config → Open → List ℕ → Next → List ℕ → Type 0
AddsAny what config stack b next rest = (t : Tree) × Adds what config 0 stack b t rest × (next ≡ building (with_inner stack t))

-- what an item does on the bytes b
abbrev pub Does : Config → Item → Open → List ℕ → Next → List ℕ → Type 0
Does config Finish stack b next rest = (full : Tree) × FillsAll config stack b full rest × Closes (with_inner stack full) next
Does config Custom stack b next rest = (name contents : List ℕ) × ReadsCustom b name contents rest × (next ≡ with_part stack (custom name contents))
Does config CoreTypes stack b next rest =
    (xs : List CoreEntry) × (scope : Marked)
    × ReadsCoreTypes config (config.max_types - length (core_types_of stack.inner)) (marked_inner config stack.outer stack.inner) b xs rest scope
    × (next ≡ with_part stack (core_types xs))
Does config Types stack b next rest = AddsAny counted.Types config stack b next rest
Does config Imports stack b next rest = AddsAny counted.Imports config stack b next rest
Does config Canonical stack b next rest = AddsAny counted.Functions config stack b next rest
Does config Module stack b next rest = (m : ModuleParts) × ReadsStandIn config b m rest × (next ≡ with_part stack (core_module (shown_module m)))
Does config Component stack b next rest = (rest ≡ b) × (next ≡ with_open stack)
Does config Exports stack b next rest = (es : List ExportEntry) × ReadsExports config stack.outer stack.inner b es rest × (next ≡ with_part stack (exports es))

-- One turn leads from the open components and the bytes left to what follows and the bytes left then: a choice names an item, and
-- that is done.
pub record Turn (config : Config) (stack : Open) (left : List ℕ) (next : Next) (left2 : List ℕ) : Type 0 where
  pub item : Item
  pub after : List ℕ
  pub chooses : ReadsAmong (items config stack left) left item after
  pub does : Does config item stack after next left2

-- The choice is to finish, and imports or functions are missing when these bytes are left.
abbrev pub LacksAt : Config → List ℕ → Open → List ℕ → Type 0
LacksAt config rest stack left = (after : List ℕ) × ReadsAmong (items config stack left) left Finish after × Lacks config stack after rest

-- The choice is a core module, and the limits on memories leave none. Nothing after the choice is read.
abbrev pub RefusesModuleAt : Config → List ℕ → Open → List ℕ → Type 0
RefusesModuleAt config rest stack left = ReadsAmong (items config stack left) left Module rest × (config.max_memories < config.min_memories)
