-- The options of the choices that read imports and canonical functions.
use Rattle.std.specs.Prelude.{ℕ, Bool, true, false, List, [], ◌∷◌, if◌then◌else◌, length, nat_lt, Some, None, slice_get}
use Rattle.smith_input.specs.Offers.{offers_of}
use Rattle.smith_format.specs.declared.config.Config.{Config}
use Rattle.smith_syntax.specs.Entries.{Entry, function, ImportEntry}
use Rattle.smith_syntax.specs.Flat.{is_scalar}
use Rattle.smith_syntax.specs.Places.{places}
use Rattle.smith_tree.specs.TypeOffers.{has_room, ref_kinds}
use Rattle.smith_tree.specs.declared.choices.RefKind.{RefKind}
use Rattle.smith_tree.specs.declared.totals.RefTotals.{RefTotals}
use Rattle.smith_tree.specs.Functions.{functions_of}
use Rattle.smith_tree.specs.Open.{Open, tree_so_far, with_inner}
use Rattle.smith_tree.specs.Spaces.{Spaces}
use Rattle.smith_tree.specs.Tree.{ExportEntry, Tree, imports, exports, add, function_count, module_count, component_count, instance_count}
use Rattle.smith_syntax.specs.Marked.{Marked}
use Rattle.smith_tree.specs.Marking.{marked_inner}
use Rattle.smith_tree.specs.declared.choices.CanonItem.{CanonItem}
use Rattle.smith_tree.specs.declared.choices.CanonItem.TheVariants.{Lower, Lift}

-- the open components, if the inner one also has these imports in a section of their own
abbrev pub with_imports : Open → List ImportEntry → Open
with_imports stack is = with_inner stack (add stack.inner (imports is))

-- a component that also has these exports in a section of their own
abbrev pub with_exports : Tree → List ExportEntry → Tree
with_exports t es = add t (exports es)

-- how many modules, components and instances the tree has so far, and how many functions the inner component has
abbrev pub totals_of : Open → RefTotals
totals_of stack = record {
  modules = module_count (tree_so_far stack.outer stack.inner);
  funcs = function_count stack.inner;
  components = component_count (tree_so_far stack.outer stack.inner);
  instances = instance_count (tree_so_far stack.outer stack.inner);
}

-- the scope of the inner component after these imports of the section
abbrev pub marked_with_imports : Config → Open → List ImportEntry → Marked
marked_with_imports config stack is = marked_inner config stack.outer (with_imports stack is).inner

-- what the next import may be of, after these of the section
abbrev pub import_kinds : Config → Open → List ImportEntry → List RefKind
import_kinds config stack is = ref_kinds config (marked_with_imports config stack is) (totals_of (with_imports stack is)) true false

-- Is it a function type that flattens?
abbrev pub is_scalar_entry : Entry → Bool
is_scalar_entry (function s) = is_scalar s
is_scalar_entry _ = false

-- Is the type of that index one?
abbrev pub is_scalar_type : List Entry → ℕ → Bool
is_scalar_type ts t = elim (slice_get ts t) [ None ↦ false | Some e ↦ is_scalar_entry e ]

-- the component functions that can be lowered, ascending
abbrev pub scalar_functions : Spaces → List ℕ
scalar_functions s = places (is_scalar_type s.types) 0 s.functions

-- a lower and a lift in the order of their choice, and whether each is offered
abbrev pub canon_table : Bool → Bool → List (Bool × CanonItem)
canon_table with_lower with_lift = (with_lower, Lower) ∷ (with_lift, Lift) ∷ []

-- a lower if there is a function that can be lowered, and a lift if there is a core function
abbrev pub canon_offers : Spaces → List (Bool × CanonItem)
canon_offers s = canon_table (nat_lt 0 (length (scalar_functions s))) (nat_lt 0 (length s.core_functions))

abbrev pub canon_items : Spaces → List CanonItem
canon_items s = offers_of (canon_offers s)

-- the component functions that the next export may be of, after these of the section: none if there is no room for one
abbrev pub export_functions : Config → List Tree → Tree → List ExportEntry → List ℕ
export_functions config outer t es =
    if has_room (marked_inner config outer (with_exports t es)) false then functions_of (with_exports t es) else []
