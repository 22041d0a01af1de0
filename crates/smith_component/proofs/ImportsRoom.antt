-- How the size of a component grows with its imports, and which function types can be imported.
use Rattle.std.proofs.Common.{◌≡◌, ℕ, zero, suc, ◌+◌, ◌≤◌, Bool, true, false, if◌then◌else◌, List, [], ◌∷◌, ◌++◌, fold, get_or, length, arith, refl}
use Rattle.std.proofs.lemmas.Bool.{leb-true}
use Rattle.std.specs.List.{AllByRecursion}
use Rattle.smith_syntax.specs.Entries.{Entry, ImportEntry}
use Rattle.smith_syntax.specs.Marked.{Marked, mark, more_kept, reference_size, with_import}
use Rattle.smith_syntax.specs.Marks.{is_small, sizes, small_size}
use Rattle.smith_syntax.specs.Sizes.{capped}
use Rattle.smith_syntax.specs.Usable.{OfferedRef, is_importable, later_marks, mark_at, marked_places, first_mark}
use Rattle.smith_syntax.specs.declared.deftype.ComponentTypeRef.{ComponentTypeRef}
use Rattle.smith_syntax.specs.declared.deftype.ComponentTypeRef.TheVariants as to
use Rattle.smith_syntax.specs.declared.marks.Mark.{Mark}
use Rattle.smith_tree.specs.Marking.{with_import_entry, with_type_entry}
use Rattle.smith_tree.specs.TypeOffers.{ref_places}
use Rattle.smith_tree.specs.declared.choices.RefKind.TheVariants.{Func}
use Rattle.smith_component.proofs.MarkedKept.{Kept, SmallCores, kept_type}

-- What can be imported is small.

size_at : (ms : List Mark) (i : ℕ) → get_or (sizes ms) i 0 ≡ (mark_at ms i).size
size_at [] i = refl
size_at (m ∷ ms) zero = refl
size_at (m ∷ ms) (suc i) = size_at ms i

small_mark : (ms : List Mark) (i : ℕ) → is_small (mark_at ms i) ≡ true → get_or (sizes ms) i 0 ≤ small_size
small_mark ms i h = let few : (mark_at ms i).size ≤ 9999 = leb-true (mark_at ms i).size 9999 h in omega (arith, few, size_at ms i)

small_module : (ns : List ℕ) (i : ℕ) → AllByRecursion (λ n. n ≤ small_size) ns → get_or ns i 0 ≤ small_size
small_module [] i h = omega arith
small_module (n ∷ ns) zero h = h.0
small_module (n ∷ ns) (suc i) h = small_module ns i h.1

small_reference : (own : Marked) (r : ComponentTypeRef) → OfferedRef own true r → SmallCores own → reference_size own r ≤ small_size
small_reference own (to.Module i) h small = small_module own.core_sizes i small
small_reference own (to.Func i) h small = small_mark own.marks i h.0
small_reference own (to.TypeEq i) h small = small_mark own.marks i h.0
small_reference own (to.Component i) h small = small_mark own.marks i h
small_reference own (to.Instance i) h small = small_mark own.marks i h

-- The size is greater by the size of a small type at most.
pub import_grows : (own : Marked) (r : ComponentTypeRef) → OfferedRef own true r → SmallCores own → (with_import own r).size ≤ own.size + small_size
import_grows own r h small = by_keeps own.keeps
  where
    one : reference_size own r ≤ 9999
    one = small_reference own r h small

    by_keeps : (b : Bool) → (if b then capped (own.size + reference_size own r) else own.size) ≤ own.size + small_size
    by_keeps true = omega (arith, one)
    by_keeps false = omega arith

-- Imports leave it as it is what can be imported as a function, and how large module types are.

pub imports_places : (is : List ImportEntry) (own : Marked) → ref_places (fold with_import_entry own is) true Func ≡ ref_places own true Func
imports_places [] own = refl
imports_places (i ∷ is) own = imports_places is (with_import_entry own i)

pub imports_cores : (is : List ImportEntry) (own : Marked) → (fold with_import_entry own is).core_sizes ≡ own.core_sizes
imports_cores [] own = refl
imports_cores (i ∷ is) own = imports_cores is (with_import_entry own i)

-- When types are added, what could be imported still can.

longer : (b : Bool) (i : ℕ) (xs ys : List ℕ) → length xs ≤ length ys → length (if b then i ∷ xs else xs) ≤ length (if b then i ∷ ys else ys)
longer true i xs ys h = omega (arith, h)
longer false i xs ys h = h

module _ {T : Type 0} (test : T → Mark → Bool) where
  more_types : (i : ℕ) (ts us : List T) (ms : List Mark) → length (marked_places test i ts ms) ≤ length (marked_places test i (ts ++ us) ms)
  more_types i [] us ms = omega arith
  more_types i (t ∷ ts) us ms =
      longer (test t (first_mark ms)) i (marked_places test (i + 1) ts (later_marks ms)) (marked_places test (i + 1) (ts ++ us) (later_marks ms))
      (more_types (i + 1) ts us (later_marks ms))

  more_marked : (i : ℕ) (ts us : List T) (ms ns : List Mark) → length ms ≡ length ts
      → length (marked_places test i ts ms) ≤ length (marked_places test i (ts ++ us) (ms ++ ns))
  more_marked i [] us ms ns e = omega arith
  more_marked i (t ∷ ts) us [] ns e = absurd (omega (arith, e))
  more_marked i (t ∷ ts) us (m ∷ ms) ns e =
      longer (test t m) i (marked_places test (i + 1) ts ms) (marked_places test (i + 1) (ts ++ us) (ms ++ ns))
      (more_marked (i + 1) ts us ms ns (omega (arith, e)))

  more_by_keeps : (b : Bool) (ts us : List T) (ms ns : List Mark) → (b ≡ true → length ms ≡ length ts)
      → length (marked_places test 0 ts ms) ≤ length (marked_places test 0 (ts ++ us) (more_kept b ms ns))
  more_by_keeps true ts us ms ns e = more_marked 0 ts us ms ns (e refl)
  more_by_keeps false ts us ms ns e = more_types 0 ts us ms

abbrev pub importable : Marked → ℕ
importable own = length (ref_places own true Func)

pub types_importable : (outer : List Marked) (es : List Entry) (own : Marked) → Kept own → importable own ≤ importable (fold (with_type_entry outer) own es)
types_importable outer [] own k = omega arith
types_importable outer (e ∷ es) own k =
    let one = more_by_keeps is_importable own.keeps own.types (e ∷ []) own.marks (mark e own outer ∷ []) k.even in
    let rest = types_importable outer es (with_type_entry outer own e) (kept_type outer own e k) in
    omega (arith, one, rest)

pub types_size : (outer : List Marked) (es : List Entry) (own : Marked) → (fold (with_type_entry outer) own es).size ≡ own.size
types_size outer [] own = refl
types_size outer (e ∷ es) own = types_size outer es (with_type_entry outer own e)

pub types_cores : (outer : List Marked) (es : List Entry) (own : Marked) → (fold (with_type_entry outer) own es).core_sizes ≡ own.core_sizes
types_cores outer [] own = refl
types_cores outer (e ∷ es) own = types_cores outer es (with_type_entry outer own e)
