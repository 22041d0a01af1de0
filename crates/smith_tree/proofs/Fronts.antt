-- What the canonical ABI asks of a module type: few declarations, none of which imports anything.
use Rattle.std.proofs.Common.{◌≡◌, ℕ, suc, ◌+◌, ◌≤◌, Bool, true, false, ◌&&◌, if◌then◌else◌, List, [], ◌∷◌, length, map}
use Rattle.std.proofs.Common.{filter, flat_map, cond, refl, arith, codes, nat_lt}
use Rattle.std.proofs.lemmas.List.{length-map}
use Rattle.smith_format.specs.declared.types.EntityType.{EntityType}
use Rattle.smith_format.specs.declared.types.ExportKind.{ExportKind}
use Rattle.smith_format.specs.declared.types.ExportKind.TheVariants as kind
use Rattle.smith_format.specs.CoreTypes.{Function}
use Rattle.smith_syntax.specs.Entries.{ModuleDecl, aliases, declares, exports, imports}
use Rattle.smith_syntax.specs.ModuleTypes.{after_front, after_function, after_memory, is_export, is_function_of}
use Rattle.smith_syntax.specs.ModuleTypes.{is_of_kind, is_type, module_import_of}
use Rattle.smith_tree.specs.Sizes.{imported_of_kind}

more_pass : {A : Type 0} (b : Bool) (x : A) (xs : List A) → length (cond b (x ∷ xs) xs) ≤ suc (length xs)
more_pass true x xs = omega arith
more_pass false x xs = omega arith

fewer_pass : {A : Type 0} (test : A → Bool) (xs : List A) → length (filter test xs) ≤ length xs
fewer_pass test [] = omega arith
fewer_pass test (x ∷ xs) = omega (arith, more_pass (test x) x (filter test xs), fewer_pass test xs)

abbrev pub import_count : List ModuleDecl → ℕ
import_count ds = length (flat_map module_import_of ds)

few_in_one : (d : ModuleDecl) (ds : List ModuleDecl) → import_count (d ∷ ds) ≤ 1 + import_count ds
few_in_one (declares f) ds = omega arith
few_in_one (imports m n e) ds = omega arith
few_in_one (aliases count i) ds = omega arith
few_in_one (exports n e) ds = omega arith

few_imports : (ds : List ModuleDecl) → import_count ds ≤ length ds
few_imports [] = omega arith
few_imports (d ∷ ds) = omega (arith, few_in_one d ds, few_imports ds)

few_of_kind : (k : ExportKind) (ds : List ModuleDecl) → imported_of_kind k ds ≤ import_count ds
few_of_kind k ds = grind (arith, fewer_pass, length-map)

-- How much shorter the rest is.

one_less : (b : Bool) (d : ModuleDecl) (ds : List ModuleDecl) → length (d ∷ ds) ≤ length (if b then ds else d ∷ ds) + 1
one_less true d ds = omega arith
one_less false d ds = omega arith

two_less : (b : Bool) (d e : ModuleDecl) (ds : List ModuleDecl) → length (d ∷ e ∷ ds) ≤ length (if b then ds else d ∷ e ∷ ds) + 2
two_less true d e ds = omega arith
two_less false d e ds = omega arith

memory_length : (ds : List ModuleDecl) → length ds ≤ length (after_memory ds) + 1
memory_length [] = omega arith
memory_length (d ∷ ds) = one_less (is_export (codes "memory") (is_of_kind kind.Memory) d) d ds

function_length : (name : List ℕ) (f : Function) (i : ℕ) (ds : List ModuleDecl) → length ds ≤ length (after_function name f i ds) + 2
function_length name f i [] = omega arith
function_length name f i (d ∷ []) = omega arith
function_length name f i (d ∷ e ∷ ds) = two_less (is_type f d && is_export name (is_function_of i) e) d e ds

pub front_length : (ds : List ModuleDecl) → length ds ≤ length (after_front ds) + 5
front_length ds = grind (arith, memory_length, function_length, codes, nat_lt, length)

-- It has as many imports.

export_imports : (name : List ℕ) (test : EntityType → Bool) (d : ModuleDecl) → is_export name test d ≡ true → module_import_of d ≡ []
export_imports name test (imports m n e) h = cc
export_imports name test _ h = refl

type_imports : (f : Function) (d : ModuleDecl) → is_type f d ≡ true → module_import_of d ≡ []
type_imports f (imports m n e) h = cc
type_imports f _ h = refl

kept_one : (b : Bool) (d : ModuleDecl) (ds : List ModuleDecl) → (b ≡ true → module_import_of d ≡ [])
    → import_count (d ∷ ds) ≤ import_count (if b then ds else d ∷ ds)
kept_one true d ds h = rw (h refl) (omega arith)
kept_one false d ds h = omega arith

kept_two : (a b : Bool) (d e : ModuleDecl) (ds : List ModuleDecl) → (a ≡ true → module_import_of d ≡ []) → (b ≡ true → module_import_of e ≡ [])
    → import_count (d ∷ e ∷ ds) ≤ import_count (if a && b then ds else d ∷ e ∷ ds)
kept_two true true d e ds h k = rw (h refl, k refl) (omega arith)
kept_two true false d e ds h k = omega arith
kept_two false b d e ds h k = omega arith

memory_imports : (ds : List ModuleDecl) → import_count ds ≤ import_count (after_memory ds)
memory_imports [] = omega arith
memory_imports (d ∷ ds) = grind (arith, kept_one, codes, export_imports)

function_imports : (name : List ℕ) (f : Function) (i : ℕ) (ds : List ModuleDecl) → import_count ds ≤ import_count (after_function name f i ds)
function_imports name f i [] = omega arith
function_imports name f i (d ∷ []) = omega arith
function_imports name f i (d ∷ e ∷ ds) = grind (arith, kept_two, type_imports, export_imports)

front_imports : (ds : List ModuleDecl) → import_count ds ≤ import_count (after_front ds)
front_imports ds = grind (arith, memory_imports, function_imports, codes, nat_lt, length)

-- so there are no more imports than declarations after it
pub imports_behind : (k : ExportKind) (ds : List ModuleDecl) → imported_of_kind k ds ≤ length (after_front ds)
imports_behind k ds = omega (arith, few_of_kind k ds, front_imports ds, few_imports (after_front ds))
