-- Effective sizes, a bound of wasmparser's own: how many types a type is made of, each counted again wherever it is named.
use Rattle.std.specs.Prelude.{ℕ, ◌+◌, List, [], ◌∷◌, ◌++◌, map, min, length, sum, Option, None, Some, slice_get, get_or}
use Rattle.smith_format.specs.CoreTypes.{Function}
use Rattle.smith_format.specs.declared.types.EntityType.{EntityType}
use Rattle.smith_format.specs.declared.types.EntityType.TheVariants.{Func, Table, Memory, Global, Tag}
use Rattle.smith_syntax.specs.Entries.{CoreEntry, core_func, core_module, ModuleDecl, Signature}
use Rattle.smith_syntax.specs.Entries.{DefValType, record_type, variant_type, list_type}
use Rattle.smith_syntax.specs.Entries.{tuple_type, option_type, result_type}
use Rattle.smith_syntax.specs.ModuleTypes.{adds, entities_in}
use Rattle.smith_syntax.specs.declared.types.ComponentValType.{ComponentValType}
use Rattle.smith_syntax.specs.declared.types.ComponentValType.TheVariants.{Primitive, Indexed}
use Rattle.smith_syntax.specs.Members.{members, signature_members}

-- sizes are below it
abbrev pub size_bound : ℕ
size_bound = 1000000

-- a size as it is kept: none is greater than the bound
abbrev pub capped : ℕ → ℕ
capped n = min n size_bound

-- What follows is said of types among others, each of which has an effective size of its own.

abbrev pub value_size : List ℕ → ComponentValType → ℕ
value_size types (Primitive p) = 1
value_size types (Indexed i) = get_or types i 1

-- the size of a result's success or failure, 1 if it has no value
abbrev pub maybe_size : List ℕ → Option ComponentValType → ℕ
maybe_size types None = 1
maybe_size types (Some v) = value_size types v

-- 1, and the sizes of these
abbrev pub summed : List ℕ → List ComponentValType → ℕ
summed types vs = sum (map (value_size types) vs) + 1

abbrev pub defined_size : List ℕ → DefValType → ℕ
defined_size types (record_type fs) = summed types (members (record_type fs))
defined_size types (variant_type cs) = summed types (members (variant_type cs))
defined_size types (list_type v) = value_size types v
defined_size types (tuple_type vs) = summed types vs
defined_size types (option_type v) = value_size types v
defined_size types (result_type ok err) = maybe_size types ok + maybe_size types err
defined_size types _ = 1

abbrev pub signature_size : List ℕ → Signature → ℕ
signature_size types s = summed types (signature_members s)

-- Core types: a function type, and a module type. Each import and export of a module type has the size of its own type,
-- which is 1 for all but a function and a tag.

abbrev pub function_size : Function → ℕ
function_size f = length f.0 + length f.1 + 2

abbrev pub function_size_at : List Function → ℕ → ℕ
function_size_at own i = elim (slice_get own i) [ None ↦ 1 | Some f ↦ function_size f ]

abbrev pub entity_size : List Function → EntityType → ℕ
entity_size own (Func i) = function_size_at own i
entity_size own (Table t) = 1
entity_size own (Memory m) = 1
entity_size own (Global g) = 1
entity_size own (Tag t) = function_size_at own t.func_type_idx

-- of declarations after these own types
abbrev pub module_size : List CoreEntry → List Function → List ModuleDecl → ℕ
module_size around own [] = 0
module_size around own (d ∷ ds) = sum (map (entity_size own) (entities_in d)) + module_size around (own ++ adds around own d) ds

abbrev pub core_size : List CoreEntry → CoreEntry → ℕ
core_size around (core_func f) = function_size f
core_size around (core_module ds) = module_size around [] ds + 1

-- the size of a module type, if a core module is imported or exported
abbrev pub module_type_size : List CoreEntry → CoreEntry → ℕ
module_type_size around (core_func f) = 0
module_type_size around (core_module ds) = core_size around (core_module ds)
