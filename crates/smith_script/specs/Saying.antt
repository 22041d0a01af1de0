-- The script of a component, said of what there is before each place.
use Rattle.std.specs.Prelude.{ℕ, ◌+◌, ◌-◌, true, false, List, [], ◌∷◌, ◌++◌, length, nat_eq, nat_lt, slice_get}
use Rattle.smith_input.specs.Offers.{offers_of}
use Rattle.smith_input.specs.Script.{pick, script_among, script_bytes, script_loop, script_text}
use Rattle.smith_core.specs.StandInScript.{script_stand_in, stand_in_of}
use Rattle.smith_format.specs.declared.config.Config.{Config}
use Rattle.smith_syntax.specs.Entries.{Entry, CoreEntry, ImportEntry}
use Rattle.smith_syntax.specs.Marked.{Marked, scope_in}
use Rattle.smith_tree.specs.CoreTypeScript.{script_core}
use Rattle.smith_tree.specs.TypeScript.{script_extern, script_label, script_ref, script_type}
use Rattle.smith_tree.specs.CanonScript.{canon_item_of, script_lift}
use Rattle.smith_tree.specs.Turns.{turn_items}
use Rattle.smith_tree.specs.Tree.{Canon, lift, lower, ExportEntry, Part, custom, core_module, core_types, component, types, canons, imports, exports}
use Rattle.smith_tree.specs.contracts.choices.ItemPartialEq.TheImpl.{ghosts as equal}
use Rattle.smith_tree.specs.contracts.choices.CanonItemPartialEq.TheImpl.{ghosts as canons_equal}
use Rattle.smith_tree.specs.declared.choices.CanonItem.TheVariants.{Lift, Lower}
use Rattle.smith_tree.specs.declared.choices.Item.{Item}
use Rattle.smith_script.specs.Preceding.{Preceding, after_canon, after_core_type, after_export, after_import, after_type, spaces_in}
use Rattle.std.specs.Prelude.{Some, None}
use Rattle.smith_syntax.specs.Flat.{flat_primitive}
use Rattle.smith_syntax.specs.declared.types.PrimitiveValType.{PrimitiveValType}
use Rattle.smith_tree.specs.TypeOffers.{lifted}

-- entries of sections

abbrev pub core_type_says : Config → List Marked → Preceding → CoreEntry → List ℕ
core_type_says config outer s x = script_core config (scope_in s.scope) config.max_type_size x

abbrev pub type_says : Config → List Marked → Preceding → Entry → List ℕ
type_says config outer s e = script_type e config config.max_type_size s.scope outer

-- a canonical function: which of two it is, and what it is of
abbrev pub canon_item_says : Preceding → Canon → List ℕ
canon_item_says s c =
    script_among canons_equal.eq (offers_of ((nat_lt 0 (length s.scalars), Lower) ∷ (nat_lt 0 (length s.core_functions), Lift) ∷ [])) (canon_item_of c)

abbrev pub canon_rest_says : Config → Preceding → Canon → List ℕ
canon_rest_says config s (lift c t) = pick (length s.core_functions) c ++ script_lift config (spaces_in s) t (slice_get s.types t)
canon_rest_says config s (lower f) = script_among nat_eq s.scalars f

abbrev pub canon_says : Config → Preceding → Canon → List ℕ
canon_says config s c = canon_item_says s c ++ canon_rest_says config s c

abbrev pub canon_row_says : Config → List Marked → Preceding → Canon → List ℕ
canon_row_says config outer s c = canon_says config s c

abbrev pub import_says : Config → List Marked → Preceding → ImportEntry → List ℕ
import_says config outer s x = script_ref config s.scope s.totals true false x.to ++ script_extern config s.imports x.name

abbrev pub export_says : Config → List Marked → Preceding → ExportEntry → List ℕ
export_says config outer s x = pick (length s.functions) x.func ++ script_label config s.exports x.name

-- a section of entries
abbrev pub rows_say : {A : Type 0} → (Preceding → A → List ℕ) → (Preceding → A → Preceding) → ℕ → Preceding → List A → List ℕ
rows_say says after max s xs = script_loop says after 0 max 0 s xs

-- the choice of an item after that many sections
abbrev pub item_says : Config → List Marked → ℕ → Preceding → Item → List ℕ
item_says config outer sections s chosen = script_among equal.eq (turn_items config (length outer) sections s.totals) chosen

-- what follows the choice of the item of a section. A component in it is none.
abbrev pub section_says : Part → Config → List Marked → Preceding → List ℕ
section_says (custom name contents) config outer s = script_text 1000 name ++ script_bytes contents
section_says (core_module text) config outer s = script_stand_in config (stand_in_of text)
section_says (core_types ts) config outer s = rows_say (core_type_says config outer) (after_core_type outer) (config.max_types - length s.scope.core_types) s ts
section_says (component t) config outer s = []
section_says (types ts) config outer s = rows_say (type_says config outer) (after_type outer) (config.max_types - length s.scope.types) s ts
section_says (canons fs) config outer s = rows_say (canon_row_says config outer) (after_canon outer) (config.max_funcs - s.totals.funcs) s fs
section_says (imports is) config outer s = rows_say (import_says config outer) (after_import outer) (config.max_imports - s.imports) s is
section_says (exports es) config outer s = rows_say (export_says config outer) (after_export outer) (config.max_exports - s.exports) s es

-- What a lifted primitive is chosen among.

-- the primitives that flatten as it does
abbrev pub flat_like : PrimitiveValType → List PrimitiveValType
flat_like p = elim (flat_primitive p) [ None ↦ [] | Some v ↦ lifted v ]
