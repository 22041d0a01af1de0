-- What is kept of the declarations of a module type.
use Rattle.std.specs.Option.{option_to_list}
use Rattle.std.specs.Prelude.{◌≡◌, ℕ, List, Option, length, map, option_map, slice_index, unwrap_or}
use Rattle.std.specs.Borrow.{Bor}
use Rattle.std.specs.BTreeMap.{BTreeMap, get_by}
use Rattle.std.specs.Cmp.Lexicographic.{slice_cmp}
use Rattle.std.specs.Ordering.{nat_cmp}
use Rattle.smith_format.specs.CoreTypes.{Function}
use Rattle.smith_format.specs.Entities.{kind_byte}
use Rattle.smith_format.specs.Shown.{shown_func}
use Rattle.smith_format.specs.declared.types.ExportKind.{ExportKind}
use Rattle.smith_format.specs.declared.types.FuncType.{FuncType}
use Rattle.smith_syntax.specs.Entries.{ModuleDecl}
use Rattle.smith_syntax.specs.ModuleTypes.{count_of_kind, is_tag_type, module_export_names, names_from}
use Rattle.smith_syntax.specs.Places.{places}
use Rattle.smith_script_types.specs.declared.tables.Tables.{Tables}

abbrev pub functions_in : List (Bor FuncType) → List Function
functions_in fs = map (λ f. shown_func f.now) fs

-- the function type, if there is one
abbrev pub function_in : Option (Bor FuncType) → List Function
function_in f = option_to_list (option_map (λ t. shown_func t.now) f)

-- how many imports from a module there are
abbrev pub count_from : BTreeMap (Bor (List ℕ)) ℕ → List ℕ → ℕ
count_from counts from = unwrap_or (get_by (λ k. slice_cmp nat_cmp from k.now) counts) 0

-- These are the tables of these own types and declarations.
pub record Keeps (t : Tables) (fs : List Function) (ds : List ModuleDecl) : Type 0 where
  pub own : functions_in t.own.items ≡ fs
  pub tags : t.tags.items ≡ places is_tag_type 0 (functions_in t.own.items)
  pub kinds : (k : ExportKind) → slice_index t.kinds (kind_byte k) ≡ count_of_kind k ds
  pub exports : t.exports ≡ length (module_export_names ds)
  pub imports : (from : List ℕ) → count_from t.imports from ≡ length (names_from from ds)
