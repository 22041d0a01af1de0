-- What declarations begin with for the canonical ABI, and what follows it.
use Rattle.std.proofs.Common.{◌≡◌, ℕ, ◌<◌, Bool, true, false, ◌&&◌, ◌||◌, List, [], ◌∷◌, ◌++◌, length, take, refl, sym, ap, ◌∙◌}
use Rattle.std.proofs.Common.{append_assoc, arith, length-append, nat_lt, bytes_eq, ◌-◌}
use Rattle.std.proofs.Math.Seq.{take-append_seam}
use Rattle.std.proofs.lemmas.Bool.{false≢true, and_parts, lt-ltb}
use Rattle.std.proofs.lemmas.Bool.Decides.{nat_tests}
use Rattle.std.proofs.lemmas.Slice.Eq.{bytes_eq-Decides}
use Rattle.std.specs.Prelude.{Option, Some, None, codes, if◌then◌else◌}
use Rattle.smith_format.specs.CoreTypes.{Function}
use Rattle.smith_format.specs.declared.types.EntityType.{EntityType}
use Rattle.smith_format.specs.declared.types.EntityType.TheVariants.{Func, Memory}
use Rattle.smith_format.specs.declared.types.ExportKind.TheVariants as kind
use Rattle.smith_format.specs.declared.types.MemoryType.{MemoryType}
use Rattle.smith_format.specs.declared.types.ValType.{ValType}
use Rattle.smith_format.specs.declared.types.ValType.TheVariants.{I32}
use Rattle.smith_syntax.specs.Entries.{ModuleDecl, declares, exports}
use Rattle.smith_syntax.specs.ModuleTypes.{after_free, after_front, after_function, after_memory, after_realloc, free, is_export}
use Rattle.smith_syntax.specs.ModuleTypes.{is_function_of, is_i32, is_of_kind, is_type, realloc, same_i32s}
use Rattle.smith_tree.specs.ModuleScript.{in_front}

-- the shapes: with an export of a memory or without, with a function that allocates or without, with one that frees or without

abbrev pub memory_decls : Option MemoryType → List ModuleDecl
memory_decls None = []
memory_decls (Some m) = exports (codes "memory") (Memory m) ∷ []

-- a function type, and the export of a function of it, or nothing
abbrev pub function_decls : List ℕ → Function → ℕ → Bool → List ModuleDecl
function_decls name f i b = if b then declares f ∷ exports name (Func i) ∷ [] else []

abbrev pub realloc_decls : Bool → List ModuleDecl
realloc_decls r = function_decls (codes "canonical_abi_realloc") realloc 0 r

abbrev pub free_decls : Bool → Bool → List ModuleDecl
free_decls r f = function_decls (codes "canonical_abi_free") free (if r then 1 else 0) f

abbrev pub front_decls : Option MemoryType → Bool → Bool → List ModuleDecl
front_decls m r f = memory_decls m ++ realloc_decls r ++ free_decls r f

-- what is in front

either_false : (a : Bool) → (a || false) ≡ true → a ≡ true
either_false true e = refl
either_false false e = e

memory_export : (d : ModuleDecl) → is_export (codes "memory") (is_of_kind kind.Memory) d ≡ true → (m : MemoryType) × (d ≡ exports (codes "memory") (Memory m))
memory_export (exports n (Memory m)) t =
    let same : bytes_eq n (codes "memory") ≡ true = (and_parts (bytes_eq n (codes "memory")) true (either_false _ t)).0 in
    (m, ap (λ z. exports z (Memory m)) ((bytes_eq-Decides n (codes "memory")).0 same))
memory_export (exports n e) t = absurd (false≢true (and_parts (bytes_eq n (codes "memory")) false (either_false _ t)).1)
memory_export d t = absurd (false≢true t)

memory_cases : (d : ModuleDecl) (ds : List ModuleDecl) (b : Bool) → is_export (codes "memory") (is_of_kind kind.Memory) d ≡ b
    → (m : Option MemoryType) × (d ∷ ds ≡ memory_decls m ++ (if b then ds else d ∷ ds))
memory_cases d ds true t = let m = memory_export d t in (Some m.0, ap (λ z. z ∷ ds) m.1)
memory_cases d ds false t = (None, refl)

memory_stands : (ds : List ModuleDecl) → (m : Option MemoryType) × (ds ≡ memory_decls m ++ after_memory ds)
memory_stands [] = (None, refl)
memory_stands (d ∷ ds) = memory_cases d ds (is_export (codes "memory") (is_of_kind kind.Memory) d) refl

i32_is : (x y : ValType) → (is_i32 x && is_i32 y) ≡ true → x ≡ y
i32_is I32 I32 t = refl
i32_is x y t = absurd (false≢true t)

i32s_are : (xs ys : List ValType) → same_i32s xs ys ≡ true → xs ≡ ys
i32s_are [] [] t = refl
i32s_are (x ∷ xs) (y ∷ ys) t = let both = and_parts _ _ t in (λ i. i32_is x y both.0 i ∷ i32s_are xs ys both.1 i)
i32s_are xs ys t = absurd (false≢true t)

type_is : (f : Function) (d : ModuleDecl) → is_type f d ≡ true → d ≡ declares f
type_is f (declares g) t =
    let both = and_parts (same_i32s f.0 g.0) (same_i32s f.1 g.1) (either_false _ t) in
    (λ i. declares (sym (i32s_are f.0 g.0 both.0) i, sym (i32s_are f.1 g.1 both.1) i))
type_is f d t = absurd (false≢true t)

function_named : (i : ℕ) (e : EntityType) → is_function_of i e ≡ true → e ≡ Func i
function_named i (Func j) t = let same : i ≡ j = grind (arith, nat_tests) in ap Func (sym same)
function_named i e t = absurd (false≢true t)

function_export : (name : List ℕ) (i : ℕ) (d : ModuleDecl) → is_export name (is_function_of i) d ≡ true → d ≡ exports name (Func i)
function_export name i (exports n e) t =
    let both = and_parts (bytes_eq n name) (is_function_of i e) (either_false _ t) in
    (λ j. exports ((bytes_eq-Decides n name).0 both.0 j) (function_named i e both.1 j))
function_export name i d t = absurd (false≢true t)

module _ (name : List ℕ) (f : Function) (i : ℕ) where
  function_cases : (d e : ModuleDecl) (ds : List ModuleDecl) (b : Bool) → (is_type f d && is_export name (is_function_of i) e) ≡ b
      → (c : Bool) × (d ∷ e ∷ ds ≡ function_decls name f i c ++ (if b then ds else d ∷ e ∷ ds))
  function_cases d e ds true t =
      let both = and_parts (is_type f d) (is_export name (is_function_of i) e) t in
      (true, λ j. type_is f d both.0 j ∷ function_export name i e both.1 j ∷ ds)
  function_cases d e ds false t = (false, refl)

  function_stands : (ds : List ModuleDecl) → (c : Bool) × (ds ≡ function_decls name f i c ++ after_function name f i ds)
  function_stands [] = (false, refl)
  function_stands (d ∷ []) = (false, refl)
  function_stands (d ∷ e ∷ ds) = function_cases d e ds (is_type f d && is_export name (is_function_of i) e) refl

realloc_before : (r : Bool) (ds behind : List ModuleDecl) → ds ≡ realloc_decls r ++ behind → nat_lt (length behind) (length ds) ≡ r
realloc_before true ds behind e = let long = ap length e in let lt : length behind < length ds = omega (arith, long) in lt-ltb (length behind) (length ds) lt
realloc_before false ds behind e = let long : length ds ≡ length behind = ap length e in grind (arith, nat_tests)

-- What declarations begin with for the canonical ABI, and what follows it.
pub record Fronted (ds no_memory no_realloc no_free : List ModuleDecl) : Type 0 where
  pub memory : Option MemoryType
  pub reallocs : Bool
  pub frees : Bool
  pub first : ds ≡ memory_decls memory ++ no_memory
  pub second : no_memory ≡ realloc_decls reallocs ++ no_realloc
  pub third : no_realloc ≡ free_decls reallocs frees ++ no_free

free_stands : (ds : List ModuleDecl) (r : Bool) → ds ≡ realloc_decls r ++ after_realloc ds
    → (f : Bool) × (after_realloc ds ≡ free_decls r f ++ after_free ds)
free_stands ds r e =
    let place : ℕ = if nat_lt (length (after_realloc ds)) (length ds) then 1 else 0 in
    let f = function_stands (codes "canonical_abi_free") free place (after_realloc ds) in
    let same : place ≡ (if r then 1 else 0) = ap (λ b. if b then 1 else 0) (realloc_before r ds (after_realloc ds) e) in
    (f.0, f.1 ∙ ap (λ n. function_decls (codes "canonical_abi_free") free n f.0 ++ after_free ds) same)

pub fronted : (ds : List ModuleDecl) → Fronted ds (after_memory ds) (after_realloc (after_memory ds)) (after_front ds)
fronted ds =
    let m = memory_stands ds in
    let after : List ModuleDecl = after_memory ds in
    let r = function_stands (codes "canonical_abi_realloc") realloc 0 after in
    let f = free_stands after r.0 r.1 in
    record { memory = m.0; reallocs = r.0; frees = f.0; first = m.1; second = r.1; third = f.1 }

-- the front as a whole

lines_joined : (m : Option MemoryType) (r f : Bool) (more : List ModuleDecl)
    → memory_decls m ++ (realloc_decls r ++ (free_decls r f ++ more)) ≡ front_decls m r f ++ more
lines_joined m r f more =
    sym (append_assoc (memory_decls m) (realloc_decls r) (free_decls r f ++ more))
    ∙ sym (append_assoc (memory_decls m ++ realloc_decls r) (free_decls r f) more)

module _ {ds no_memory no_realloc no_free : List ModuleDecl} (x : Fronted ds no_memory no_realloc no_free) where
  pub first_line : ds ≡ front_decls x.memory false false ++ no_memory
  first_line = x.first ∙ lines_joined x.memory false false no_memory

  pub first_lines : ds ≡ front_decls x.memory x.reallocs false ++ no_realloc
  first_lines = x.first ∙ (ap (λ z. memory_decls x.memory ++ z) x.second ∙ lines_joined x.memory x.reallocs false no_realloc)

  pub whole_front : ds ≡ front_decls x.memory x.reallocs x.frees ++ no_free
  whole_front = x.first ∙ (ap (λ z. memory_decls x.memory ++ z) (x.second ∙ ap (λ z. realloc_decls x.reallocs ++ z) x.third)
      ∙ lines_joined x.memory x.reallocs x.frees no_free)

-- The declarations in front of others.
pub in_front_is : (ds front behind : List ModuleDecl) → ds ≡ front ++ behind → in_front ds behind ≡ front
in_front_is ds front behind e =
    let long = ap length e ∙ length-append front behind in
    let count : length ds - length behind ≡ length front = omega (arith, long) in
    ap (λ n. take n ds) count ∙ (ap (take (length front)) e ∙ take-append_seam front behind)
