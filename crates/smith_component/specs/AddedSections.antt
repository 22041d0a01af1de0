-- How the sections that a turn adds are read.
use Rattle.std.specs.Prelude.{◌≡◌, ℕ, ◌-◌, List, length}
use Rattle.smith_input.specs.Loops.{Loop, Never}
use Rattle.smith_format.specs.declared.config.Config.{Config}
use Rattle.smith_syntax.specs.Entries.{Entry, CoreEntry, ImportEntry}
use Rattle.smith_types.specs.Made.{MadeWith}
use Rattle.smith_types.specs.MadeCore.{MadeCore}
use Rattle.smith_syntax.specs.Marked.{Marked, scope_in}
use Rattle.smith_tree.specs.Spaces.{types_of}
use Rattle.smith_tree.specs.Tree.{Tree, types, imports, add}
use Rattle.smith_component.specs.Canonicals.{Growing, ReadsCanons, grown}
use Rattle.smith_component.specs.Imports.{ReadsImports}
use Rattle.smith_tree.specs.Marking.{marked_in, marked_inner, with_core_entry, with_type_entry}
use Rattle.smith_tree.specs.Open.{Open}
use Rattle.smith_tree.specs.declared.choices.CanonItem.{CanonItem}
use Rattle.smith_component.specs.declared.item.Counted.{Counted}
use Rattle.smith_component.specs.declared.item.Counted.TheVariants as counted

-- A type of a type section, with fresh fuel. It is in the scopes that the types before it leave.
abbrev pub ReadsType : Config → List Marked → Marked → List ℕ → Entry → List ℕ → Marked → Type 0
ReadsType config outer own b x rest next = MadeWith config own outer config.max_type_size b x rest × (next ≡ with_type_entry outer own x)

-- at least and at most that many types, which lead from one scope to another
abbrev pub ReadsTypes : Config → List Marked → ℕ → ℕ → Marked → List ℕ → List Entry → List ℕ → Marked → Type 0
ReadsTypes config outer min max own b xs rest next = Loop Never (ReadsType config outer) config.loop_bits min max 0 own b xs rest next

-- A core type of a core type section, with fresh fuel. It is in the scope that the core types before it leave.
abbrev pub ReadsCoreType : Config → Marked → List ℕ → CoreEntry → List ℕ → Marked → Type 0
ReadsCoreType config own b x rest next =
    (left : ℕ) × MadeCore config (scope_in own) b config.max_type_size x rest left × (next ≡ with_core_entry own x)

-- at most that many core types, which lead from one scope to another
abbrev pub ReadsCoreTypes : Config → ℕ → Marked → List ℕ → List CoreEntry → List ℕ → Marked → Type 0
ReadsCoreTypes config max own b xs rest next = Loop Never (ReadsCoreType config) config.loop_bits 0 max 0 own b xs rest next

-- What the sections with a minimum do on the bytes b, if at least that many are to be added: they lead to the inner component t.

-- a type section, with at most as many types as the component may still have
abbrev pub AddsTypes : Config → ℕ → Open → List ℕ → Tree → List ℕ → Type 0
AddsTypes config min stack b t rest =
    (xs : List Entry) × (scope : Marked) × ReadsTypes config (marked_in config stack.outer) min (config.max_types - length (types_of stack.inner))
    (marked_inner config stack.outer stack.inner) b xs rest scope
    × (t ≡ add stack.inner (types xs))

-- an import section
abbrev pub AddsImports : Config → ℕ → Open → List ℕ → Tree → List ℕ → Type 0
AddsImports config min stack b t rest = (is : List ImportEntry) × ReadsImports config min stack b is rest × (t ≡ add stack.inner (imports is))

-- canonical sections, with the type sections that lifts define between them
abbrev pub AddsCanons : Config → ℕ → Open → List ℕ → Tree → List ℕ → Type 0
AddsCanons config min stack b t rest = (turns : List CanonItem) × (next : Growing) × ReadsCanons config min stack.inner b turns rest next × (t ≡ grown next)

-- by what is counted
abbrev pub Adds : Counted → Config → ℕ → Open → List ℕ → Tree → List ℕ → Type 0
Adds counted.Types config min stack b t rest = AddsTypes config min stack b t rest
Adds counted.Imports config min stack b t rest = AddsImports config min stack b t rest
Adds counted.Functions config min stack b t rest = AddsCanons config min stack b t rest
