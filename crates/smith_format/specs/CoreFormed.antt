-- Which core types are made.
use Rattle.std.specs.Prelude.{◌≡◌, ℕ, ◌≤◌, ◌⊎◌, Bool, true, false, List, length, Option, IfSome}
use Rattle.std.specs.List.{AllByRecursion, Contains}
use Rattle.smith_format.specs.CoreTypes.{Function}
use Rattle.smith_format.specs.declared.types.MemoryType.{MemoryType}
use Rattle.smith_format.specs.declared.types.RefType.TheVariants.{FuncRef, ExternRef}
use Rattle.smith_format.specs.declared.types.TableType.{TableType}
use Rattle.smith_format.specs.declared.types.ValType.{ValType}

-- a minimum of at most 10, and a maximum from there to 20 or none
pub record FormedLimits (minimum : ℕ) (maximum : Option ℕ) : Type 0 where
  pub least : minimum ≤ 10
  pub most : IfSome maximum (λ n. (minimum ≤ n) × (n ≤ 20))

-- a memory that is not shared and has addresses of 32 bits
pub record FormedMemory (m : MemoryType) : Type 0 where
  pub limits : FormedLimits m.minimum m.maximum
  pub shared : m.shared ≡ false
  pub memory64 : m.memory64 ≡ false

-- a table of indexes of 32 bits: of functions, or of things from outside if there are references to those
pub record FormedTable (references : Bool) (t : TableType) : Type 0 where
  pub element : (t.element_type ≡ FuncRef) ⊎ ((references ≡ true) × (t.element_type ≡ ExternRef))
  pub limits : FormedLimits t.minimum t.maximum
  pub table64 : t.table64 ≡ false

-- at most 20 parameters and that many results, each of one of the value types
pub record FormedFunction (valtypes : List ValType) (max_results : ℕ) (f : Function) : Type 0 where
  pub few_params : length f.0 ≤ 20
  pub few_results : length f.1 ≤ max_results
  pub params : AllByRecursion (Contains valtypes) f.0
  pub results : AllByRecursion (Contains valtypes) f.1
