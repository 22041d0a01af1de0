-- The input that a plan is read from.
use Rattle.std.specs.Prelude.{◌≡◌, ℕ, ◌+◌, ◌-◌, true, false, List, [], ◌∷◌, ◌++◌, length, Some}
use Rattle.smith_input.specs.NameScript.{script_new}
use Rattle.smith_input.specs.Script.{pick, script_among, script_loop, script_text, script_bytes}
use Rattle.smith_core.specs.StandInScript.{script_stand_in, stand_in_of}
use Rattle.smith_format.specs.declared.config.Config.{Config}
use Rattle.smith_syntax.specs.Entries.{Entry, CoreEntry, ImportEntry}
use Rattle.smith_syntax.specs.Marked.{Marked, scope_in}
use Rattle.smith_tree.specs.CoreTypeScript.{script_core}
use Rattle.smith_tree.specs.TypeScript.{script_type, script_ref, script_extern}
use Rattle.smith_tree.specs.Spaces.{core_types_of, spaces_of, types_of}
use Rattle.smith_tree.specs.Functions.{functions_of}
use Rattle.smith_tree.specs.Tree.{Tree, ends, first, Part, custom, core_module, core_types, component, types, canons, imports, exports, add}
use Rattle.smith_tree.specs.Tree.{ExportEntry, exports_of, function_count, imports_of}
use Rattle.smith_tree.specs.CanonScript.{script_canons}
use Rattle.smith_tree.specs.Grammar.{Spells, part}
use Rattle.smith_tree.specs.Marking.{marked_in, marked_inner, with_core_entry, with_type_entry}
use Rattle.smith_tree.specs.Offered.{OfferedPart}
use Rattle.smith_tree.specs.Offers.{marked_with_imports, totals_of, with_exports, with_imports}
use Rattle.smith_tree.specs.Open.{Open, items_with_input, scopes_in, tree_so_far}
use Rattle.smith_tree.specs.Readable.{AreFinishable, CanBeGenerated, IsReadable, IsReadablePart}
use Rattle.smith_tree.specs.WellFormed.{Formed}
use Rattle.smith_tree.specs.Limits.{Maxima, Sized}
use Rattle.smith_tree.specs.contracts.choices.ItemPartialEq.TheImpl.{ghosts as equal}
use Rattle.smith_tree.specs.declared.choices.Item.{Item}
use Rattle.smith_tree.specs.declared.choices.Item.TheVariants as item

-- the item that adds a part of this sort
abbrev pub item_of : Part → Item
item_of (custom name contents) = item.Custom
item_of (core_module text) = item.Module
item_of (core_types ts) = item.CoreTypes
item_of (component t) = item.Component
item_of (types ts) = item.Types
item_of (canons fs) = item.Canonical
item_of (imports is) = item.Imports
item_of (exports es) = item.Exports

-- the choice of an item
abbrev pub script_item : Config → List Tree → Tree → Item → List ℕ
script_item config outer before chosen = script_among equal.eq (items_with_input config (record { outer = outer; inner = before })) chosen

-- The entries of a type section: a byte before each, and one at the end if there might be another.
abbrev pub script_types : Config → ℕ → Marked → List Marked → List Entry → List ℕ
script_types config max own outer ts = script_loop (λ s e. script_type e config config.max_type_size s outer) (with_type_entry outer) 0 max 0 own ts

-- The same for a core type section.
abbrev pub script_core_types : Config → ℕ → Marked → List CoreEntry → List ℕ
script_core_types config max own ts = script_loop (λ s x. script_core config (scope_in s) config.max_type_size x) with_core_entry 0 max 0 own ts

-- an import after these of the section: what it is of, its name, and that there is no URL
abbrev pub script_import : Config → Open → List ImportEntry → ImportEntry → List ℕ
script_import config stack is x =
    script_ref config (marked_with_imports config stack is) (totals_of (with_imports stack is)) true false x.to
    ++ script_extern config (length (imports_of stack.inner) + length is) x.name

abbrev pub script_imports : Config → Open → List ImportEntry → List ℕ
script_imports config stack is = script_loop (script_import config stack) (λ s x. s ++ x ∷ []) 0 (config.max_imports - length (imports_of stack.inner)) 0 [] is

-- an export after these of the section: a choice among the component functions, and its name
abbrev pub script_export : Config → Tree → List ExportEntry → ExportEntry → List ℕ
script_export config t es x =
    pick (length (functions_of (with_exports t es))) x.func ++ script_new config.max_name_length (length (exports_of t) + length es) x.name

abbrev pub script_exports : Config → Tree → List ExportEntry → List ℕ
script_exports config t es = script_loop (script_export config t) (λ s x. s ++ x ∷ []) 0 (config.max_exports - length (exports_of t)) 0 [] es

-- The rest of a component, if these components are open around it and these parts precede it; and what follows the
-- choice of its item in the script of a part.
abbrev mutual
  pub script_from : Tree → Config → List Tree → Tree → List ℕ
  script_from ends config outer before = script_item config outer before item.Finish
  script_from (first p t) config outer before = script_item config outer before (item_of p) ++ script_part p config outer before ++ script_from t config outer
      (add before p)

  pub script_part : Part → Config → List Tree → Tree → List ℕ
  script_part (custom name contents) config outer before = script_text 1000 name ++ script_bytes contents
  script_part (core_module text) config outer before = script_stand_in config (stand_in_of text)
  script_part (core_types ts) config outer before =
      script_core_types config (config.max_types - length (core_types_of before)) (marked_inner config outer before) ts
  script_part (component t) config outer before = script_from t config (outer ++ before ∷ []) ends
  script_part (types ts) config outer before =
      script_types config (config.max_types - length (types_of before)) (marked_inner config outer before) (marked_in config outer) ts
  script_part (canons fs) config outer before = script_canons config (config.max_funcs - function_count before) (spaces_of before) fs
  script_part (imports is) config outer before = script_imports config (record { outer = outer; inner = before }) is
  script_part (exports es) config outer before = script_exports config before es

abbrev pub script : Config → Tree → List ℕ
script config plan = script_from plan config [] ends

-- A plan: it can be generated within these limits, whatever follows its script, and bytes spell it.
pub record Within (config : Config) (plan : Tree) : Type 0 where
  pub possible : CanBeGenerated config plan
  pub finishable : AreFinishable config plan
  pub spelled : (b : List ℕ) × Spells plan b

-- With one more part, the inner component stays the beginning of a plan, and the tree within its limits.
pub record Continues (config : Config) (stack : Open) (p : Part) : Type 0 where
  pub before : IsReadable config stack.inner
  pub readable : IsReadablePart config p stack.inner
  pub formed : Formed (add stack.inner p) (scopes_in stack.outer) ends
  pub maxima : Maxima config (tree_so_far stack.outer (add stack.inner p))
  pub sized : Sized config (tree_so_far stack.outer (add stack.inner p))
  pub offered : OfferedPart p config (spaces_of stack.inner) (marked_in config stack.outer) (marked_inner config stack.outer stack.inner)
  pub spelled : (b : List ℕ) × (part p ≡ Some b)
