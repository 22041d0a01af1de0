-- The text of core types (core specification, Text Format, Types), and what a module type declares (Explainer.md, moduledecl).
use Rattle.std.specs.Prelude.{ℕ, ◌+◌, Bool, true, false, List, [], length, Option, Some, None, codes, decimal, ◌==◌, if◌then◌else◌}
use Rattle.smith_format.specs.CoreTypes.{Function}
use Rattle.smith_format.specs.declared.types.EntityType.{EntityType}
use Rattle.smith_format.specs.declared.types.EntityType.TheVariants.{Func, Table, Memory, Global, Tag}
use Rattle.smith_format.specs.declared.types.MemoryType.{MemoryType}
use Rattle.smith_format.specs.declared.types.RefType.{RefType}
use Rattle.smith_format.specs.declared.types.RefType.TheVariants.{FuncRef, ExternRef, Concrete}
use Rattle.smith_format.specs.declared.types.ValType.{ValType}
use Rattle.smith_format.specs.declared.types.ValType.TheVariants.{I32, I64, F32, F64, V128, Ref}
use Rattle.smith_syntax.specs.Entries.{ModuleDecl, imports, declares, aliases, exports}
use Rattle.smith_print.specs.declared.spaces.IndexSpaces.{IndexSpaces}
use Rattle.smith_print.specs.Values.{group}
use Rattle.smith_print.specs.Words.{◌⧺◌, quoted}

-- a reference type (Types, Reference Types)
abbrev pub ref_text : RefType → List ℕ
ref_text FuncRef = codes "funcref"
ref_text ExternRef = codes "externref"
ref_text (Concrete true i) = codes "(ref null " ⧺ decimal i ⧺ codes ")"
ref_text (Concrete false i) = codes "(ref " ⧺ decimal i ⧺ codes ")"

-- a value type (Types, Number Types, Vector Types and Value Types)
abbrev pub core_value_text : ValType → List ℕ
core_value_text I32 = codes "i32"
core_value_text I64 = codes "i64"
core_value_text F32 = codes "f32"
core_value_text F64 = codes "f64"
core_value_text V128 = codes "v128"
core_value_text (Ref r) = ref_text r

abbrev pub core_element_text : List ℕ → ValType → List ℕ
core_element_text front v = front ⧺ core_value_text v

-- parameters or results, which are left out if there are none
abbrev pub core_list_text : List ℕ → List ValType → List ℕ
core_list_text head vs = if length vs == 0 then [] else group head (core_element_text (codes " ")) vs

-- a function type (Types, Composite Types)
abbrev pub core_function_text : Function → List ℕ
core_function_text f = codes "(func" ⧺ core_list_text (codes " (param") f.0 ⧺ core_list_text (codes " (result") f.1 ⧺ codes ")"

-- limits (Types, Limits), after the type of addresses, which is left out if it is i32 (Types, Address Types)

abbrev pub wide_text : Bool → List ℕ
wide_text true = codes "i64 "
wide_text false = []

abbrev pub maximum_text : Option ℕ → List ℕ
maximum_text None = []
maximum_text (Some n) = codes " " ⧺ decimal n

abbrev pub limits_text : Bool → ℕ → Option ℕ → List ℕ
limits_text wide minimum maximum = wide_text wide ⧺ decimal minimum ⧺ maximum_text maximum

-- a memory type (Types, Memory Types), shared or not
abbrev pub shared_text : Bool → List ℕ
shared_text true = codes " shared"
shared_text false = []

abbrev pub memory_text : MemoryType → List ℕ
memory_text m = wide_text m.memory64 ⧺ decimal m.minimum ⧺ maximum_text m.maximum ⧺ shared_text m.shared

-- a global type (Types, Global Types)
abbrev pub global_text : Bool → ValType → List ℕ
global_text true v = codes "(mut " ⧺ core_value_text v ⧺ codes ")"
global_text false v = core_value_text v

-- what is imported or exported (Types, External Types)
abbrev pub entity_text : EntityType → List ℕ
entity_text (Func i) = codes "(func (type " ⧺ decimal i ⧺ codes "))"
entity_text (Table t) =
    codes "(table " ⧺ wide_text t.table64 ⧺ decimal t.minimum ⧺ maximum_text t.maximum ⧺ codes " " ⧺ ref_text t.element_type ⧺ codes ")"
entity_text (Memory m) = codes "(memory " ⧺ memory_text m ⧺ codes ")"
entity_text (Global g) = codes "(global " ⧺ global_text g.mutable g.val_type ⧺ codes ")"
entity_text (Tag t) = codes "(tag (type " ⧺ decimal t.func_type_idx ⧺ codes "))"

-- a function type under its index (core specification, Text Format, Modules, Types)
abbrev pub core_function_line : Function → IndexSpaces → List ℕ
core_function_line f s = codes "(type (;" ⧺ decimal s.core_types ⧺ codes ";) " ⧺ core_function_text f ⧺ codes ")"

-- a memory under its index (core specification, Text Format, Modules, Memories)
abbrev pub memory_line : MemoryType → IndexSpaces → List ℕ
memory_line m s = codes "(memory (;" ⧺ decimal s.memories ⧺ codes ";) " ⧺ memory_text m ⧺ codes ")"

-- An outer alias of a type, which is next (Explainer.md, alias definitions). In a module type it is of a core type.
abbrev pub alias_text : ℕ → ℕ → ℕ → List ℕ
alias_text count i next = codes "(alias outer " ⧺ decimal count ⧺ codes " " ⧺ decimal i ⧺ codes " (type (;" ⧺ decimal next ⧺ codes ";)))"

-- what a module type declares
abbrev pub module_decl_line : ModuleDecl → IndexSpaces → List ℕ
module_decl_line (imports m n e) s = codes "(import " ⧺ quoted m ⧺ codes " " ⧺ quoted n ⧺ codes " " ⧺ entity_text e ⧺ codes ")"
module_decl_line (declares f) s = core_function_line f s
module_decl_line (aliases count i) s = alias_text count i s.core_types
module_decl_line (exports n e) s = codes "(export " ⧺ quoted n ⧺ codes " " ⧺ entity_text e ⧺ codes ")"

-- and the index spaces after it

abbrev pub after_core_type : IndexSpaces → IndexSpaces
after_core_type s = record s { core_types = s.core_types + 1 }

abbrev pub after_memory : IndexSpaces → IndexSpaces
after_memory s = record s { memories = s.memories + 1 }

abbrev pub after_module_decl : ModuleDecl → IndexSpaces → IndexSpaces
after_module_decl (imports m n e) s = s
after_module_decl (declares f) s = after_core_type s
after_module_decl (aliases count i) s = after_core_type s
after_module_decl (exports n e) s = s
