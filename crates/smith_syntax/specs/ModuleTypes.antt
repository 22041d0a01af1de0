-- What is in a module type (Explainer.md, core type definitions): its own types, what it imports and exports, and what it
-- begins with for the canonical ABI.
use Rattle.std.specs.Prelude.{ℕ, zero, suc, ◌+◌, Bool, true, false, ◌&&◌, List, [], ◌∷◌, ◌++◌, map, length, Option, Some, None, slice_get}
use Rattle.std.specs.Prelude.{nat_eq, nat_lt, bytes_eq, codes, if◌then◌else◌}
use Rattle.std.specs.Cmp.Lexicographic.{pointwise}
use Rattle.std.specs.List.{filter, flat_map, list_any, IsDistinct}
use Rattle.std.specs.Option.{option_to_list}
use Rattle.smith_format.specs.CoreTypes.{Function}
use Rattle.smith_format.specs.Entities.{CoreImport, kind_byte, kind_of}
use Rattle.smith_format.specs.declared.types.EntityType.{EntityType}
use Rattle.smith_format.specs.declared.types.EntityType.TheVariants.{Func, Table, Memory, Global, Tag}
use Rattle.smith_format.specs.declared.types.ExportKind.{ExportKind}
use Rattle.smith_format.specs.declared.types.ExportKind.TheVariants as kind
use Rattle.smith_format.specs.declared.types.ValType.{ValType}
use Rattle.smith_format.specs.declared.types.ValType.TheVariants.{I32, I64, F32, F64, V128, Ref}
use Rattle.smith_syntax.specs.Entries.{CoreEntry, ModuleDecl, core_func, core_module, imports, declares, aliases, exports}

-- a core function type, if it is one
abbrev pub func_in : Option CoreEntry → Option Function
func_in None = None
func_in (Some (core_func f)) = Some f
func_in (Some (core_module ds)) = None

-- The function type that an outer alias names: with count 0 one of the module type's own, with count 1 a core function type of
-- the scope around it.
abbrev pub aliased : List CoreEntry → List Function → ℕ → ℕ → Option Function
aliased around own zero i = slice_get own i
aliased around own (suc zero) i = func_in (slice_get around i)
aliased around own (suc (suc n)) i = None

-- The parts of a declaration, each if it has one.

-- the function type that it declares
abbrev pub func_of : ModuleDecl → List Function
func_of (declares f) = f ∷ []
func_of _ = []

-- the outer alias: its count of scopes, and its index
abbrev pub alias_of : ModuleDecl → List (ℕ × ℕ)
alias_of (aliases count i) = (count, i) ∷ []
alias_of _ = []

-- what it imports, after the two names
abbrev pub module_import_of : ModuleDecl → List CoreImport
module_import_of (imports m n e) = (m, n, e) ∷ []
module_import_of _ = []

-- what it exports, after the name
abbrev pub module_export_of : ModuleDecl → List (List ℕ × EntityType)
module_export_of (exports n e) = (n, e) ∷ []
module_export_of _ = []

-- what a declaration adds to the module type's own types
abbrev pub adds : List CoreEntry → List Function → ModuleDecl → List Function
adds around own d = func_of d ++ flat_map (λ a. option_to_list (aliased around own a.0 a.1)) (alias_of d)

-- the function types that the declarations declare themselves
abbrev pub declared_in : List ModuleDecl → List Function
declared_in ds = flat_map func_of ds

-- how many own types there are: function types and outer aliases
abbrev pub type_count : List ModuleDecl → ℕ
type_count ds = length (flat_map func_of ds) + length (flat_map alias_of ds)

-- what a declaration imports or exports
abbrev pub entities_in : ModuleDecl → List EntityType
entities_in d = map (λ i. i.2) (module_import_of d) ++ map (λ x. x.1) (module_export_of d)

-- all that is imported and exported, in order
abbrev pub entities_of : List ModuleDecl → List EntityType
entities_of ds = flat_map entities_in ds

-- Is it of that kind?
abbrev pub is_of_kind : ExportKind → EntityType → Bool
is_of_kind k e = nat_eq (kind_byte (kind_of e)) (kind_byte k)

-- how many of the imports and exports are of a kind
abbrev pub count_of_kind : ExportKind → List ModuleDecl → ℕ
count_of_kind k ds = length (filter (is_of_kind k) (entities_of ds))

-- the names that are imported from a module
abbrev pub names_from : List ℕ → List ModuleDecl → List (List ℕ)
names_from from ds = map (λ i. i.1) (filter (λ i. bytes_eq i.0 from) (flat_map module_import_of ds))

-- the names that are exported
abbrev pub module_export_names : List ModuleDecl → List (List ℕ)
module_export_names ds = map (λ x. x.0) (flat_map module_export_of ds)

-- No name is imported twice from a module, and none is exported twice.
pub record HasNewNames (ds : List ModuleDecl) : Type 0 where
  pub imported : (from : List ℕ) → IsDistinct bytes_eq (names_from from ds)
  pub exported : IsDistinct bytes_eq (module_export_names ds)

-- Does it have no results, as the type of a tag must?
abbrev pub is_tag_type : Function → Bool
is_tag_type f = nat_eq (length f.1) 0

-- What the canonical ABI asks of a module (CanonicalABI.md, memory management): an export of a memory, a function that
-- allocates anew, and one that frees. Each of them may be missing.

abbrev pub realloc : Function
realloc = (I32 ∷ I32 ∷ I32 ∷ I32 ∷ [], I32 ∷ [])

abbrev pub free : Function
free = (I32 ∷ I32 ∷ I32 ∷ [], [])

abbrev pub is_i32 : ValType → Bool
is_i32 I32 = true
is_i32 I64 = false
is_i32 F32 = false
is_i32 F64 = false
is_i32 V128 = false
is_i32 (Ref r) = false

-- Are there as many values in both, and is each of them an i32?
abbrev pub same_i32s : List ValType → List ValType → Bool
same_i32s = pointwise (λ x y. is_i32 x && is_i32 y)

-- Does it declare that function type, which has no values but i32?
abbrev pub is_type : Function → ModuleDecl → Bool
is_type f d = list_any (λ g. same_i32s f.0 g.0 && same_i32s f.1 g.1) (func_of d)

-- Is it a function of the type i?
abbrev pub is_function_of : ℕ → EntityType → Bool
is_function_of i (Func j) = nat_eq i j
is_function_of i (Table t) = false
is_function_of i (Memory m) = false
is_function_of i (Global g) = false
is_function_of i (Tag t) = false

-- Is it the export by that name of what the test accepts?
abbrev pub is_export : List ℕ → (EntityType → Bool) → ModuleDecl → Bool
is_export name test d = list_any (λ x. bytes_eq x.0 name && test x.1) (module_export_of d)

-- the declarations after the export of a memory
abbrev pub after_memory : List ModuleDecl → List ModuleDecl
after_memory [] = []
after_memory (d ∷ ds) = if is_export (codes "memory") (is_of_kind kind.Memory) d then ds else d ∷ ds

-- the declarations after a function type and the export of a function of that type, which has the index i
abbrev pub after_function : List ℕ → Function → ℕ → List ModuleDecl → List ModuleDecl
after_function name f i [] = []
after_function name f i (d ∷ []) = d ∷ []
after_function name f i (d ∷ e ∷ ds) = if is_type f d && is_export name (is_function_of i) e then ds else d ∷ e ∷ ds

abbrev pub after_realloc : List ModuleDecl → List ModuleDecl
after_realloc ds = after_function (codes "canonical_abi_realloc") realloc 0 ds

-- The type of the one that frees is the second if the other function precedes it.
abbrev pub after_free : List ModuleDecl → List ModuleDecl
after_free ds = after_function (codes "canonical_abi_free") free (if nat_lt (length (after_realloc ds)) (length ds) then 1 else 0) (after_realloc ds)

-- the declarations after what the canonical ABI asks
abbrev pub after_front : List ModuleDecl → List ModuleDecl
after_front ds = after_free (after_memory ds)
