-- What has no encoding, because a count, the length of a text or an index in it exceeds 4,294,967,295, or a bound of
-- limits 64 bits.
use Rattle.std.specs.Prelude.{ℕ, ◌^◌, ◌<◌, ◌≤◌, ◌⊎◌, List, length, Option, Some, None}
use Rattle.std.specs.List.{Any, AllByRecursion}
use Rattle.std.specs.Str.{IsUtf8}
use Rattle.smith_format.specs.CoreTypes.{Function}
use Rattle.smith_format.specs.Entities.{CoreImport}
use Rattle.smith_format.specs.Piece.{Piece}
use Rattle.smith_format.specs.Writing.{piece_length}
use Rattle.smith_format.specs.declared.types.EntityType.{EntityType}
use Rattle.smith_format.specs.declared.types.EntityType.TheVariants.{Func, Table, Memory, Global, Tag}
use Rattle.smith_format.specs.declared.types.MemoryType.{MemoryType}
use Rattle.smith_format.specs.declared.types.RefType.{RefType}
use Rattle.smith_format.specs.declared.types.RefType.TheVariants.{FuncRef, ExternRef, Concrete}
use Rattle.smith_format.specs.declared.types.TableType.{TableType}
use Rattle.smith_format.specs.declared.types.ValType.{ValType}
use Rattle.smith_format.specs.declared.types.ValType.TheVariants.{I32, I64, F32, F64, V128, Ref}

-- it is not a length, a count or an index
abbrev pub IsTooLarge : ℕ → Type 0
IsTooLarge n = 2 ^ 32 ≤ n

-- a name that is too long, or is not UTF-8, which each name of the program is
abbrev pub NameTooLong : List ℕ → Type 0
NameTooLong n = IsTooLarge (length n) ⊎ (¬ IsUtf8 n)

-- numbers that are not bytes, which the program's bytes never are
abbrev pub NoBytes : List ℕ → Type 0
NoBytes bs = ¬ AllByRecursion (λ b. b < 256) bs

-- the count of a list, or one of its items
abbrev pub ListTooLong : {A : Type 0} → (A → Type 0) → List A → Type 0
ListTooLong P xs = IsTooLarge (length xs) ⊎ Any P xs

-- what follows its length, as the contents of a section do
abbrev pub ContentsTooLong : Piece → Type 0
ContentsTooLong contents = IsTooLarge (piece_length contents)

abbrev pub RefTooLong : RefType → Type 0
RefTooLong FuncRef = ⊥
RefTooLong ExternRef = ⊥
RefTooLong (Concrete nullable i) = IsTooLarge i

abbrev pub ValTooLong : ValType → Type 0
ValTooLong I32 = ⊥
ValTooLong I64 = ⊥
ValTooLong F32 = ⊥
ValTooLong F64 = ⊥
ValTooLong V128 = ⊥
ValTooLong (Ref r) = RefTooLong r

-- the count of parameters or of results, or one of them
abbrev pub FunctionTooLong : Function → Type 0
FunctionTooLong f = (IsTooLarge (length f.0) ⊎ Any ValTooLong f.0) ⊎ (IsTooLarge (length f.1) ⊎ Any ValTooLong f.1)

-- bounds of more than 64 bits, which none of the program's are
abbrev pub MaximumTooLong : Option ℕ → Type 0
MaximumTooLong None = ⊥
MaximumTooLong (Some n) = 2 ^ 64 ≤ n

abbrev pub LimitsTooLong : ℕ → Option ℕ → Type 0
LimitsTooLong minimum most = (2 ^ 64 ≤ minimum) ⊎ MaximumTooLong most

abbrev pub TableTypeTooLong : TableType → Type 0
TableTypeTooLong t = RefTooLong t.element_type ⊎ LimitsTooLong t.minimum t.maximum

abbrev pub MemoryTypeTooLong : MemoryType → Type 0
MemoryTypeTooLong m = LimitsTooLong m.minimum m.maximum

abbrev pub EntityTooLong : EntityType → Type 0
EntityTooLong (Func i) = IsTooLarge i
EntityTooLong (Table t) = TableTypeTooLong t
EntityTooLong (Memory m) = MemoryTypeTooLong m
EntityTooLong (Global g) = ValTooLong g.val_type
EntityTooLong (Tag t) = IsTooLarge t.func_type_idx

abbrev pub ImportTooLong : CoreImport → Type 0
ImportTooLong i = IsTooLarge (length i.0) ⊎ (IsTooLarge (length i.1) ⊎ EntityTooLong i.2)
