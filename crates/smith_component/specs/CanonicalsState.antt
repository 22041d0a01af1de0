-- A canonical section as the program makes it.
use Rattle.std.specs.Prelude.{◌≡◌, ℕ, ◌+◌, ◌≤◌, Bool, true, false, List, [], ◌∷◌, ◌++◌, map, length, nat_lt, Some, slice_get}
use Rattle.smith_input.specs.Offers.{offers_of}
use Rattle.smith_format.specs.CoreTypes.{Function}
use Rattle.smith_format.specs.Consistency.{IsConsistent, max_u32}
use Rattle.smith_format.specs.declared.config.Config.{Config}
use Rattle.smith_syntax.specs.Entries.{Signature, function}
use Rattle.smith_syntax.specs.Flat.{Flattens, is_scalar}
use Rattle.smith_syntax.specs.Scope.{Scope}
use Rattle.smith_types.specs.Lifting.{ReadsLiftedType}
use Rattle.smith_scopes.specs.Scopes.{Contents, own_marked}
use Rattle.smith_component.specs.Canonicals.{CanonTurn, Growing, NoCanon, grown, spaces_at}
use Rattle.smith_component.specs.SectionsState.{KeepsAround}
use Rattle.smith_component.specs.SectionValues.{externs_of}
use Rattle.smith_component.specs.Shown.{shown_sections}
use Rattle.smith_tree.specs.Shown.{shown_canon}
use Rattle.smith_component.specs.Tables.{Tabled, functions_at}
use Rattle.smith_tree.specs.Marking.{marked_inner}
use Rattle.smith_tree.specs.Tree.{Tree}
use Rattle.smith_component.specs.declared.builder.canonicals.CanonicalDraft.{CanonicalDraft}
use Rattle.smith_component.specs.declared.builder.open.OpenComponent.{OpenComponent}
use Rattle.smith_component.specs.declared.builder.tables.Tables.{Tables}
use Rattle.smith_tree.specs.declared.entries.Func.{Func}
use Rattle.smith_component.specs.declared.component.Section.{Section}
use Rattle.smith_tree.specs.declared.choices.CanonItem.{CanonItem}
use Rattle.smith_tree.specs.declared.choices.CanonItem.TheVariants.{Lower, Lift}

-- the section that grows after the sections of a component
abbrev pub growing : OpenComponent → List Func → Growing
growing component funcs = record { before = shown_sections component.sections.items; funcs = map shown_canon funcs }

-- The limits fit together, and the last scope and the tables are the component's with that section.
pub record CanonicalsState (config : Config) (around : List Tree) (scopes : List Contents) (component : OpenComponent) (funcs : List Func) : Type 0 where
  pub consistent : IsConsistent config
  pub scope_is : own_marked scopes ≡ marked_inner config around (grown (growing component funcs))
  pub tabled : Tabled component.tables (grown (growing component funcs))

-- The sections that were there before stay in front, and nothing is imported.
pub record KeepsFront (old new : OpenComponent) : Type 0 where
  pub more : List Section
  pub sections : new.sections.items ≡ old.sections.items ++ more
  pub no_imports : externs_of more ≡ []
  pub names : new.tables.imports ≡ old.tables.imports

-- the same for what the program has under construction
abbrev pub draft_of : CanonicalDraft → Growing
draft_of d = growing d.component.now d.funcs.now.items

abbrev pub IsDraftIn : List Tree → CanonicalDraft → Type 0
IsDraftIn around d = CanonicalsState d.config.now around d.scopes.now d.component.now d.funcs.now.items

-- A draft that may have that many more functions.
pub record IsDraft (more : ℕ) (d : CanonicalDraft) : Type 0 where
  pub around : List Tree
  pub is : IsDraftIn around d
  pub room : functions_at (spaces_at (draft_of d)) + more ≤ max_u32

-- It still borrows what it borrowed.
pub record SameLoans (old new : CanonicalDraft) : Type 0 where
  pub config : new.config.now ≡ old.config.now
  pub scopes : new.scopes.ghost_name ≡ old.scopes.ghost_name
  pub component : new.component.ghost_name ≡ old.component.ghost_name
  pub funcs : new.funcs.ghost_name ≡ old.funcs.ghost_name

-- It continues after what was there before, in the same scopes.
pub record DraftsOn (old new : CanonicalDraft) : Type 0 where
  pub draft : (around : List Tree) → IsDraftIn around old → IsDraftIn around new
  pub front : KeepsFront old.component.now new.component.now
  pub around : KeepsAround old.scopes.now new.scopes.now

-- what a turn is among, by the tables
abbrev pub canon_items_of : Tables → List CanonItem
canon_items_of tables = offers_of ((nat_lt 0 (length tables.scalars.items), Lower) ∷ (nat_lt 0 (length tables.core_functions.items), Lift) ∷ [])

-- The core function lowers a component function whose type is of that signature.
pub record LowersAs (own : Scope) (tables : Tables) (c : ℕ) (signature : Signature) : Type 0 where
  pub f : ℕ
  pub ty : ℕ
  pub lowers : slice_get tables.core_functions.items c ≡ Some f
  pub stands : slice_get tables.functions.items f ≡ Some ty
  pub is : slice_get own.types ty ≡ Some (function signature)

-- It lowers one whose type flattens.
abbrev pub IsLowered : Scope → Tables → ℕ → Type 0
IsLowered own tables c = (signature : Signature) × LowersAs own tables c signature × (is_scalar signature ≡ true)

-- A signature is read that flattens as the signature of the function which the core function lowers.
pub record ReadsLiftedTypeOf (config : Config) (own : Scope) (tables : Tables) (c : ℕ) (bytes : List ℕ) (signature : Signature) (rest : List ℕ) : Type 0 where
  pub lowered : Signature
  pub core : Function
  pub of : LowersAs own tables c lowered
  pub flattens : Flattens lowered core
  pub reads : ReadsLiftedType config.max_name_length core bytes signature rest

-- a turn that is made, or none because no function can be lowered or lifted
abbrev pub IsDrafted : Config → Growing → List ℕ → Bool → List ℕ → Growing → Type 0
IsDrafted config s b true rest next = (item : CanonItem) × CanonTurn config s b item rest next
IsDrafted config s b false rest next = NoCanon s b rest next
