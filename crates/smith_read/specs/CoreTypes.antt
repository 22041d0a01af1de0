-- How core types are read.
use Rattle.std.specs.Prelude.{ℕ, Bool, true, false, List, Option, Some, None, ◌==◌, if◌then◌else◌}
use Rattle.smith_format.specs.CoreTypes.{Function}
use Rattle.smith_format.specs.declared.types.RefType.{RefType}
use Rattle.smith_format.specs.declared.types.RefType.TheVariants.{FuncRef, ExternRef, Concrete}
use Rattle.smith_format.specs.declared.types.ValType.{ValType}
use Rattle.smith_format.specs.declared.types.ValType.TheVariants.{I32, I64, F32, F64, V128, Ref}
use Rattle.smith_format.specs.declared.types.EntityType.{EntityType}
use Rattle.smith_format.specs.declared.types.EntityType.TheVariants.{Func, Table, Memory, Global, Tag}
use Rattle.smith_format.specs.declared.types.GlobalType.{GlobalType}
use Rattle.smith_format.specs.declared.types.MemoryType.{MemoryType}
use Rattle.smith_format.specs.declared.types.TableType.{TableType}
use Rattle.smith_format.specs.declared.types.TagType.{TagType}
use Rattle.smith_syntax.specs.Entries.{ModuleDecl, imports, declares, aliases, exports, CoreEntry, core_func, core_module}
use Rattle.smith_read.specs.Reading.{Found, ◌>>=◌, seen, both_at, byte_at, index_at, many_at, behind, limit_at, u_at, text_at}

unfoldable pub ref_after : ℕ → List ℕ → Found RefType
ref_after tag bs =
    if tag == 0x70 then Some (FuncRef, bs)
    else if tag == 0x6f then Some (ExternRef, bs)
    else if tag == 0x63 then seen (Concrete true) (index_at bs)
    else if tag == 0x64 then seen (Concrete false) (index_at bs)
    else None

unfoldable pub ref_at : List ℕ → Found RefType
ref_at bs = byte_at bs >>= λ t. ref_after t.0 t.1

unfoldable pub core_val_after : ℕ → List ℕ → Found ValType
core_val_after tag bs =
    if tag == 0x7f then Some (I32, bs)
    else if tag == 0x7e then Some (I64, bs)
    else if tag == 0x7d then Some (F32, bs)
    else if tag == 0x7c then Some (F64, bs)
    else if tag == 0x7b then Some (V128, bs)
    else seen Ref (ref_after tag bs)

unfoldable pub core_val_at : List ℕ → Found ValType
core_val_at bs = byte_at bs >>= λ t. core_val_after t.0 t.1

-- a function type after its first byte
unfoldable pub core_function_at : List ℕ → Found Function
core_function_at bs = both_at (many_at core_val_at) (many_at core_val_at) bs

-- limits: whether what has them is shared, and whether it has 64 bits; the minimum, and the maximum or none
abbrev pub Limits : Type 0
Limits = Bool × Bool × ℕ × Option ℕ

abbrev pub without : Bool → Bool → ℕ → Limits
without shared wide n = (shared, wide, n, None)

abbrev pub within : Bool → Bool → ℕ × ℕ → Limits
within shared wide x = (shared, wide, x.0, Some x.1)

unfoldable pub bounds_at : List ℕ → Found (ℕ × ℕ)
bounds_at bs = both_at limit_at limit_at bs

unfoldable pub limits_after : ℕ → List ℕ → Found Limits
limits_after tag bs =
    if tag == 0 then seen (without false false) (limit_at bs)
    else if tag == 1 then seen (within false false) (bounds_at bs)
    else if tag == 2 then seen (without true false) (limit_at bs)
    else if tag == 3 then seen (within true false) (bounds_at bs)
    else if tag == 4 then seen (without false true) (limit_at bs)
    else if tag == 5 then seen (within false true) (bounds_at bs)
    else if tag == 6 then seen (without true true) (limit_at bs)
    else if tag == 7 then seen (within true true) (bounds_at bs)
    else None

unfoldable pub limits_at : List ℕ → Found Limits
limits_at bs = byte_at bs >>= λ t. limits_after t.0 t.1

abbrev pub memory_of : Limits → MemoryType
memory_of x = record { shared = x.0; memory64 = x.1; minimum = x.2; maximum = x.3 }

-- a table is not shared
abbrev pub table_of : RefType → Limits → List ℕ → Found TableType
table_of element x rest = if x.0 then None else Some (record { element_type = element; table64 = x.1; minimum = x.2; maximum = x.3 }, rest)

unfoldable pub table_at : List ℕ → Found TableType
table_at bs = ref_at bs >>= λ r. limits_at r.1 >>= λ x. table_of r.0 x.0 x.1

abbrev pub global_of : ValType → ℕ × List ℕ → Found GlobalType
global_of v t = if t.0 == 0 then Some (record { val_type = v; mutable = false }, t.1)
    else if t.0 == 1 then Some (record { val_type = v; mutable = true }, t.1) else None

unfoldable pub global_at : List ℕ → Found GlobalType
global_at bs = core_val_at bs >>= λ v. byte_at v.1 >>= global_of v.0

abbrev pub tag_of : ℕ → TagType
tag_of i = record { func_type_idx = i }

unfoldable pub entity_after : ℕ → List ℕ → Found EntityType
entity_after tag bs =
    if tag == 0x00 then seen Func (u_at bs)
    else if tag == 0x01 then seen Table (table_at bs)
    else if tag == 0x02 then seen (λ x. Memory (memory_of x)) (limits_at bs)
    else if tag == 0x03 then seen Global (global_at bs)
    else if tag == 0x04 then seen (λ i. Tag (tag_of i)) (behind 0x00 u_at bs)
    else None

unfoldable pub entity_at : List ℕ → Found EntityType
entity_at bs = byte_at bs >>= λ t. entity_after t.0 t.1

unfoldable pub module_decl_after : ℕ → List ℕ → Found ModuleDecl
module_decl_after tag bs =
    if tag == 0x00 then seen (λ x. imports x.0 x.1.0 x.1.1) (both_at text_at (both_at text_at entity_at) bs)
    else if tag == 0x01 then seen declares (behind 0x60 core_function_at bs)
    else if tag == 0x02 then seen (λ x. aliases x.0 x.1) (behind 0x10 (behind 0x01 (both_at u_at u_at)) bs)
    else if tag == 0x03 then seen (λ x. exports x.0 x.1) (both_at text_at entity_at bs)
    else None

unfoldable pub module_decl_at : List ℕ → Found ModuleDecl
module_decl_at bs = byte_at bs >>= λ t. module_decl_after t.0 t.1

unfoldable pub core_entry_after : ℕ → List ℕ → Found CoreEntry
core_entry_after tag bs = if tag == 0x60 then seen core_func (core_function_at bs) else if tag == 0x50 then seen core_module (many_at module_decl_at bs)
    else None

unfoldable pub core_entry_at : List ℕ → Found CoreEntry
core_entry_at bs = byte_at bs >>= λ t. core_entry_after t.0 t.1
