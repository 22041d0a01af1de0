-- The alternatives of one token, by their numbers. What they are depends on the token alone. Of numbers that are not listed here there is no alternative.
use Rattle.std.specs.Prelude.{ℕ, ◌+◌, ◌-◌, false, not, List, [], ◌++◌, Option, Some, None, codes, nat_lt, ◌==◌, if◌then◌else◌}
use Rattle.std.specs.Option.{option_map}
use Rattle.smith_format.specs.declared.types.MemoryType.{MemoryType}
use Rattle.smith_format.specs.declared.types.RefType.{RefType}
use Rattle.smith_format.specs.declared.types.RefType.TheVariants.{FuncRef, ExternRef}
use Rattle.smith_format.specs.declared.types.TableType.{TableType}
use Rattle.smith_format.specs.declared.types.ValType.{ValType}
use Rattle.smith_format.specs.declared.types.ValType.TheVariants.{I32, I64}
use Rattle.smith_syntax.specs.Entries.{DefValType, primitive_type}
use Rattle.smith_syntax.specs.declared.deftype.ComponentTypeRef.{ComponentTypeRef}
use Rattle.smith_syntax.specs.declared.deftype.ComponentTypeRef.TheVariants as to
use Rattle.smith_syntax.specs.declared.types.ComponentValType.{ComponentValType}
use Rattle.smith_syntax.specs.declared.types.ComponentValType.TheVariants.{Primitive, Indexed}
use Rattle.smith_syntax.specs.declared.types.PrimitiveValType.TheVariants as prim

-- a token that has one alternative, number 0
abbrev pub only : {A : Type 0} → ℕ → A → Option A
only a x = if a == 0 then Some x else None

-- numbers (core specification, Binary Format, Conventions)

abbrev pub one_less : ℕ → Option ℕ
one_less n = if n == 0 then None else Some (n - 1)

-- one more, at most that
abbrev pub one_more : ℕ → ℕ → Option ℕ
one_more most n = if nat_lt n most then Some (n + 1) else None

-- the greatest index
abbrev pub most_index : ℕ
most_index = 4294967295

-- the index of a type, of a function or of a core function, or the count of scopes of an outer alias
abbrev pub index_alternative : ℕ → ℕ → Option ℕ
index_alternative a i =
    if a == 0 then one_less i
    else if a == 1 then one_more most_index i
    else if a == 2 then Some most_index
    else if a == 3 then Some 0
    else None

-- value types (Binary.md, valtype)

-- an index in place of the value type
abbrev pub indexed_alternative : ℕ → ComponentValType → Option ℕ
indexed_alternative a (Indexed i) = index_alternative a i
indexed_alternative a (Primitive p) = if a == 2 then Some most_index else if a == 3 then Some 0 else None

abbrev pub value_alternative : ℕ → ComponentValType → Option ComponentValType
value_alternative a v =
    if a == 4 then Some (Primitive prim.String)
    else if a == 5 then Some (Primitive prim.U64)
    else option_map Indexed (indexed_alternative a v)

-- whether there is a value type
abbrev pub other_presence : Option ComponentValType → Option ComponentValType
other_presence None = Some (Primitive prim.U32)
other_presence (Some v) = None

abbrev pub presence_alternative : ℕ → Option ComponentValType → Option (Option ComponentValType)
presence_alternative a v = only a (other_presence v)

-- a primitive type as a type of values (Binary.md, defvaltype)
abbrev pub primitive_alternative : ℕ → Option DefValType
primitive_alternative a =
    if a == 0 then Some (primitive_type prim.String)
    else if a == 1 then Some (primitive_type prim.U32)
    else None

-- the name of a member, a parameter, an import or an export (Explainer.md, import and export definitions)
abbrev pub name_alternative : ℕ → List ℕ → Option (List ℕ)
name_alternative a n =
    if a == 0 then Some []
    else if a == 1 then Some (n ++ codes "-")
    else if a == 2 then Some (n ++ codes "--a")
    else if a == 3 then Some (n ++ codes "_")
    else if a == 4 then Some (codes "1" ++ n)
    else if a == 5 then Some (n ++ codes "-b1")
    else None

-- what an import or an export is of (Binary.md, externdesc)

abbrev pub ref_index : ComponentTypeRef → ℕ
ref_index (to.Module i) = i
ref_index (to.Func i) = i
ref_index (to.TypeEq i) = i
ref_index (to.Component i) = i
ref_index (to.Instance i) = i

abbrev pub with_index : ComponentTypeRef → ℕ → ComponentTypeRef
with_index (to.Module i) j = to.Module j
with_index (to.Func i) j = to.Func j
with_index (to.TypeEq i) j = to.TypeEq j
with_index (to.Component i) j = to.Component j
with_index (to.Instance i) j = to.Instance j

-- the sort, while the index stays
abbrev pub sort_alternative : ℕ → ComponentTypeRef → Option ComponentTypeRef
sort_alternative a r =
    if a == 0 then Some (to.Module (ref_index r))
    else if a == 1 then Some (to.Func (ref_index r))
    else if a == 2 then Some (to.TypeEq (ref_index r))
    else if a == 3 then Some (to.Component (ref_index r))
    else if a == 4 then Some (to.Instance (ref_index r))
    else None

-- core types (core specification, Binary Format, Types)

abbrev pub other_value : ValType → ValType
other_value I32 = I64
other_value v = I32

abbrev pub core_value_alternative : ℕ → ValType → Option ValType
core_value_alternative a v = only a (other_value v)

abbrev pub other_element : RefType → RefType
other_element FuncRef = ExternRef
other_element r = FuncRef

abbrev pub element_alternative : ℕ → TableType → Option TableType
element_alternative a t = only a (record t { element_type = other_element t.element_type })

-- the greatest bound of limits
abbrev pub most_bound : ℕ
most_bound = 18446744073709551615

-- the bound one above a maximum, if there is one
abbrev pub above : Option ℕ → Option ℕ
above None = None
above (Some n) = one_more most_bound n

-- the bound one below a minimum, if there is a maximum
abbrev pub below : ℕ → Option ℕ → Option ℕ
below minimum None = None
below minimum (Some n) = one_less minimum

-- no maximum, or the minimum as one
abbrev pub other_maximum : ℕ → Option ℕ → Option ℕ
other_maximum minimum None = Some minimum
other_maximum minimum (Some n) = None

-- a minimum and a maximum, one of them changed; the first number is past all that 32 bits allow
abbrev pub bounds_alternative : ℕ → ℕ → ℕ → Option ℕ → Option (ℕ × Option ℕ)
bounds_alternative past a minimum maximum =
    if a == 0 then option_map (λ n. (n, maximum)) (above maximum)
    else if a == 1 then option_map (λ n. (minimum, Some n)) (below minimum maximum)
    else if a == 2 then Some (minimum, other_maximum minimum maximum)
    else if a == 3 then Some (past, maximum)
    else if a == 4 then Some (minimum, Some past)
    else None

-- the limits of a memory: its bounds in pages, whether it is shared, and whether it has 64 bits
abbrev pub memory_alternative : ℕ → MemoryType → Option MemoryType
memory_alternative a m =
    if a == 5 then Some (record m { shared = not m.shared })
    else if a == 6 then Some (record m { memory64 = not m.memory64 })
    else option_map (λ b. record m { minimum = b.0; maximum = b.1 }) (bounds_alternative 65537 a m.minimum m.maximum)

-- the limits of a table: its bounds, and whether it has 64 bits
abbrev pub table_alternative : ℕ → TableType → Option TableType
table_alternative a t =
    if a == 6 then Some (record t { table64 = not t.table64 })
    else option_map (λ b. record t { minimum = b.0; maximum = b.1 }) (bounds_alternative 4294967296 a t.minimum t.maximum)

-- a table of functions in place of a memory, which is not shared, and a memory in place of a table

abbrev pub table_of : MemoryType → TableType
table_of m = record { element_type = FuncRef; table64 = m.memory64; minimum = m.minimum; maximum = m.maximum }

abbrev pub memory_of : TableType → MemoryType
memory_of t = record { shared = false; memory64 = t.table64; minimum = t.minimum; maximum = t.maximum }
