-- The two edits: a component without an item, and two components joined.
use Rattle.std.specs.Prelude.{ℕ, zero, suc, List, [], ◌∷◌, ◌++◌, Option, Some, None, length, nat_lt, if◌then◌else◌}
use Rattle.std.specs.Fmt.{decimal}
use Rattle.smith_input.specs.NewNames.{is_among}
use Rattle.smith_syntax.specs.Entries.{ImportEntry}
use Rattle.smith_tree.specs.Spaces.{Spaces, spaces_of}
use Rattle.smith_tree.specs.Tree.{ExportEntry, Tree, Part, ends, first, parts_of, tree_of, imports_in, imports_of, exports_in, exports_of}
use Rattle.smith_tree.specs.Tree as part
use Rattle.smith_tree.specs.WellFormed.{export_names, import_names}
use Rattle.smith_edit.specs.Edited.{tree_edited}
use Rattle.smith_edit.specs.Items.{tree_items}
use Rattle.smith_edit.specs.Renumbering.{from}
use Rattle.smith_edit.specs.Walk.{new_scope}
use Rattle.smith_edit.specs.declared.walk.Removal.TheVariants.{Nothing, Items}
use Rattle.smith_edit.specs.declared.walk.Scope.{Scope}

-- the component without its items from the first number on up to the last, and all that refers to what is removed
abbrev pub without_items : ℕ → ℕ → Tree → Tree
without_items low high t = tree_edited t (record { removal = Items low high; own = new_scope; outer = [] })

-- the component without its k-th item; none if there is no k-th
abbrev pub without : ℕ → Tree → Option Tree
without k t = if nat_lt k (tree_items t) then Some (without_items k k t) else None

-- a scope whose indexes follow a component's
abbrev pub following : Spaces → Scope
following s = record {
  types = from (length s.types);
  core_types = from (length s.core_types);
  functions = from (length s.functions);
  core_functions = from (length s.core_functions);
}

-- the component, when it follows one with these spaces
abbrev pub moved : Spaces → Tree → Tree
moved s t = tree_edited t (record { removal = Nothing; own = following s; outer = [] })

-- the text, with digits at its end that often, at most n times, until it is none of the names
abbrev pub made_new : ℕ → List (List ℕ) → List ℕ → List ℕ → List ℕ
made_new zero names digits text = text
made_new (suc n) names digits text = if is_among names text then made_new n names digits (text ++ digits) else text

-- the text changed until it is none of the names: how many there are is appended in decimal digits
abbrev pub new_name : List (List ℕ) → List ℕ → List ℕ
new_name names text = made_new (length names) names (decimal (length names)) text

-- entries in order, each with a name that is new to these names and to the names of the entries before it
abbrev pub all_renamed : {A : Type 0} → (A → List ℕ) → (A → List ℕ → A) → List (List ℕ) → List A → List A
all_renamed name rename names [] = []
all_renamed name rename names (x ∷ xs) =
    let new : List ℕ = new_name names (name x) in
    rename x new ∷ all_renamed name rename (names ++ new ∷ []) xs

abbrev pub import_renamed : ImportEntry → List ℕ → ImportEntry
import_renamed i name = record i { name = name }

abbrev pub export_renamed : ExportEntry → List ℕ → ExportEntry
export_renamed e name = record e { name = name }

-- the section with names that are new to the imports and to the exports before it
abbrev pub part_renamed : List (List ℕ) → List (List ℕ) → Part → Part
part_renamed is es (part.imports js) = part.imports (all_renamed (λ i. i.name) import_renamed is js)
part_renamed is es (part.exports fs) = part.exports (all_renamed (λ e. e.name) export_renamed es fs)
part_renamed is es p = p

abbrev pub renamed : Tree → List (List ℕ) → List (List ℕ) → Tree
renamed ends is es = ends
renamed (first p t) is es =
    let q : Part = part_renamed is es p in
    first q (renamed t (is ++ import_names (imports_in q)) (es ++ export_names (exports_in q)))

-- the sections of one tree, and then the other's
abbrev pub join : Tree → Tree → Tree
join left right = tree_of (parts_of left ++ parts_of right)

-- The sections of one component, and then the other's: its indexes follow the first one's, and its names are new.
abbrev pub joined : Tree → Tree → Tree
joined left right = join left (renamed (moved (spaces_of left) right) (import_names (imports_of left)) (export_names (exports_of left)))
