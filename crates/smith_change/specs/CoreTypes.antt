-- Core types, one place of which is changed (core specification, Binary Format, Types; Binary.md, core:type).
use Rattle.std.specs.Prelude.{ℕ, ◌+◌, not, List, [], ◌∷◌, ◌++◌, Option, Some, None, if◌then◌else◌}
use Rattle.std.specs.Option.{option_map}
use Rattle.smith_format.specs.CoreTypes.{Function}
use Rattle.smith_format.specs.declared.types.EntityType.{EntityType}
use Rattle.smith_format.specs.declared.types.EntityType.TheVariants.{Func, Table, Memory, Global, Tag}
use Rattle.smith_format.specs.declared.types.MemoryType.{MemoryType}
use Rattle.smith_format.specs.declared.types.ValType.{ValType}
use Rattle.smith_format.specs.declared.types.ValType.TheVariants.{I32}
use Rattle.smith_syntax.specs.Entries.{CoreEntry, ModuleDecl, aliases, core_func, core_module, declares, exports, imports}
use Rattle.smith_change.specs.Alternatives.{core_value_alternative, element_alternative, index_alternative, memory_alternative, memory_of, only}
use Rattle.smith_change.specs.Alternatives.{table_alternative, table_of}
use Rattle.smith_change.specs.Rows.{again_name, first_or, in_turn, row_changed, row_places, unnamed}

-- a parameter or a result

abbrev pub core_value_places : ValType → ℕ
core_value_places v = 1

abbrev pub core_value_changed : ℕ → ℕ → ValType → Option ValType
core_value_changed a k v = core_value_alternative a v

abbrev pub core_values_places : List ValType → ℕ
core_values_places = row_places core_value_places

abbrev pub core_values_changed : ℕ → ℕ → List ValType → Option (List ValType)
core_values_changed = row_changed core_value_places core_value_changed unnamed

-- Results: a place for all of them, where one may be added at the end, and then each.

abbrev pub results_places : List ValType → ℕ
results_places vs = 1 + core_values_places vs

abbrev pub results_changed : ℕ → ℕ → List ValType → Option (List ValType)
results_changed a k vs = first_or (only a (vs ++ I32 ∷ [])) (λ j. core_values_changed a j vs) k

-- a function type: the parameters, and the results

abbrev pub function_places : Function → ℕ
function_places f = core_values_places f.0 + results_places f.1

abbrev pub function_changed : ℕ → ℕ → Function → Option Function
function_changed a k f =
    in_turn (core_values_places f.0) (λ j. option_map (λ vs. (vs, f.1)) (core_values_changed a j f.0))
    (λ j. option_map (λ vs. (f.0, vs)) (results_changed a j f.1)) k

-- What a core module imports or exports: the code, unless it is a global, and then what follows it.

abbrev pub entity_places : EntityType → ℕ
entity_places (Func i) = 2
entity_places (Table t) = 3
entity_places (Memory m) = 2
entity_places (Global g) = 2
entity_places (Tag t) = 2

-- a table is not shared
abbrev pub unshared : ℕ → MemoryType → Option EntityType
unshared a m = if m.shared then None else only a (Table (table_of m))

abbrev pub entity_changed : ℕ → ℕ → EntityType → Option EntityType
entity_changed a k (Func i) = first_or (only a (Tag (record { func_type_idx = i }))) (λ j. option_map Func (index_alternative a i)) k
entity_changed a k (Table t) =
    first_or (only a (Memory (memory_of t)))
    (first_or (option_map Table (element_alternative a t)) (λ j. option_map Table (table_alternative a t))) k
entity_changed a k (Memory m) = first_or (unshared a m) (λ j. option_map Memory (memory_alternative a m)) k
entity_changed a k (Global g) =
    first_or (option_map (λ v. Global (record g { val_type = v })) (core_value_alternative a g.val_type))
    (λ j. only a (Global (record g { mutable = not g.mutable }))) k
entity_changed a k (Tag t) =
    first_or (only a (Func t.func_type_idx)) (λ j. option_map (λ i. Tag (record { func_type_idx = i })) (index_alternative a t.func_type_idx)) k

-- the count and the index of an outer alias
abbrev pub outer_changed : ℕ → ℕ → ℕ × ℕ → Option (ℕ × ℕ)
outer_changed a k o =
    first_or (option_map (λ n. (n, o.1)) (index_alternative a o.0)) (λ j. option_map (λ i. (o.0, i)) (index_alternative a o.1)) k

-- a declaration of a module type, whose names have no places

abbrev pub module_decl_places : ModuleDecl → ℕ
module_decl_places (declares f) = function_places f
module_decl_places (imports m n e) = entity_places e
module_decl_places (aliases count i) = 2
module_decl_places (exports n e) = entity_places e

abbrev pub module_decl_changed : ℕ → ℕ → ModuleDecl → Option ModuleDecl
module_decl_changed a k (declares f) = option_map declares (function_changed a k f)
module_decl_changed a k (imports m n e) = option_map (imports m n) (entity_changed a k e)
module_decl_changed a k (aliases count i) = option_map (λ o. aliases o.0 o.1) (outer_changed a k (count, i))
module_decl_changed a k (exports n e) = option_map (exports n) (entity_changed a k e)

-- Of the two names of an import, the second is another.
abbrev pub module_decl_again : ModuleDecl → Option ModuleDecl
module_decl_again (imports m n e) = Some (imports m again_name e)
module_decl_again (exports n e) = Some (exports again_name e)
module_decl_again d = None

abbrev pub module_decls_places : List ModuleDecl → ℕ
module_decls_places = row_places module_decl_places

abbrev pub module_decls_changed : ℕ → ℕ → List ModuleDecl → Option (List ModuleDecl)
module_decls_changed = row_changed module_decl_places module_decl_changed module_decl_again

-- a core type

abbrev pub core_places : CoreEntry → ℕ
core_places (core_func f) = function_places f
core_places (core_module ds) = module_decls_places ds

abbrev pub core_changed : ℕ → ℕ → CoreEntry → Option CoreEntry
core_changed a k (core_func f) = option_map core_func (function_changed a k f)
core_changed a k (core_module ds) = option_map core_module (module_decls_changed a k ds)
