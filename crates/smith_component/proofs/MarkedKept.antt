-- What is kept of components: a mark for each type, if any is kept; module types that are small; and no size, if none is kept.
use Rattle.std.proofs.Common.{◌≡◌, ℕ, ◌+◌, ◌≤◌, Bool, true, false, if◌then◌else◌, List, [], ◌∷◌, ◌++◌, fold, length, arith, refl, sym, ap, ◌∙◌, subst}
use Rattle.std.proofs.Common.{length-append}
use Rattle.std.specs.List.{AllByRecursion}
use Rattle.smith_format.specs.declared.config.Config.{Config}
use Rattle.smith_input.proofs.Lists.{all_back, all_both, all_front}
use Rattle.smith_syntax.specs.CoreLimits.{CoreLimits}
use Rattle.smith_syntax.specs.Entries.{CoreEntry, Entry, ImportEntry}
use Rattle.smith_syntax.specs.Marked.{Marked, empty_marked, mark, more_kept, reference_size, scope_in, with_export}
use Rattle.smith_syntax.specs.Marks.{small_size}
use Rattle.smith_syntax.specs.Scope.{Scope}
use Rattle.smith_syntax.specs.Sizes.{capped, module_type_size}
use Rattle.smith_syntax.specs.declared.deftype.ComponentTypeRef.{ComponentTypeRef}
use Rattle.smith_tree.specs.Marking.{exported_reference, marked_after_part, marked_after_parts, marked_of, with_core_entry, with_export_entries}
use Rattle.smith_tree.specs.Marking.{with_exports_entry, with_import_entry, with_type_entry}
use Rattle.smith_tree.specs.Spaces.{Spaces, after_export, after_part, core_types_of, no_spaces}
use Rattle.smith_tree.specs.Tree.{ExportEntry, Tree, Part, core_types, ends, exports, first, imports, parts_of, types}
use Rattle.smith_tree.proofs.Marking.{scope_after_part}
use Rattle.smith_tree.proofs.OfferedCores.{small_core}
use Rattle.smith_component.proofs.Growth.{extends_part}

pub record Kept (own : Marked) : Type 0 where
  pub even : own.keeps ≡ true → length own.marks ≡ length own.types
  pub plain : own.keeps ≡ false → own.size ≡ 1

pub kept_type : (outer : List Marked) (own : Marked) (e : Entry) → Kept own → Kept (with_type_entry outer own e)
kept_type outer own e k = record {
  even = λ h.
      let m = mark e own outer in
      let more : length (more_kept own.keeps own.marks (m ∷ [])) ≡ length own.marks + 1 =
      ap (λ b. length (if b then own.marks ++ m ∷ [] else own.marks)) h ∙ length-append own.marks (m ∷ []) in
      omega (arith, more, k.even h, length-append own.types (e ∷ []));
  plain = k.plain;
}

kept_core : (own : Marked) (e : CoreEntry) → Kept own → Kept (with_core_entry own e)
kept_core own e k = record { even = k.even; plain = k.plain }

kept_import : (own : Marked) (i : ImportEntry) → Kept own → Kept (with_import_entry own i)
kept_import own i k = record
    { even = k.even; plain = λ h. ap (λ b. if b then capped (own.size + reference_size own i.to) else own.size) h ∙ k.plain h }

kept_export : (own : Marked) (r : ComponentTypeRef) → Kept own → Kept (with_export own r)
kept_export own r k = record
    { even = k.even; plain = λ h. ap (λ b. if b then capped (own.size + reference_size own r) else own.size) h ∙ k.plain h }

-- what each keeps, all do
all_keep : {A : Type 0} (P : Marked → Type 0) (step : Marked → A → Marked) → ((own : Marked) (x : A) → P own → P (step own x)) → (own : Marked) (xs : List A)
    → P own → P (fold step own xs)
all_keep P step one own [] k = k
all_keep P step one own (x ∷ xs) k = all_keep P step one (step own x) xs (one own x k)

exports_kept : (P : Marked → Type 0) → ((own : Marked) (r : ComponentTypeRef) → P own → P (with_export own r)) → (es : List ExportEntry) (s : Spaces)
    (own : Marked) → P own → P (with_export_entries es s own)
exports_kept P one [] s own k = k
exports_kept P one (e ∷ es) s own k =
    let rs : List ComponentTypeRef = exported_reference s.functions e in
    exports_kept P one es (after_export s e) (with_exports_entry own rs) (all_keep P with_export one own rs k)

part_kept : (p : Part) (s : Spaces) (outer : List Marked) (own : Marked) → Kept own → Kept (marked_after_part p s outer own)
part_kept (core_types ts) s outer own k = all_keep Kept with_core_entry kept_core own ts k
part_kept (types ts) s outer own k = all_keep Kept (with_type_entry outer) (kept_type outer) own ts k
part_kept (imports is) s outer own k = all_keep Kept with_import_entry kept_import own is k
part_kept (exports es) s outer own k = exports_kept Kept kept_export es s own k
part_kept _ s outer own k = k

parts_kept : (t : Tree) (s : Spaces) (outer : List Marked) (own : Marked) → Kept own → Kept (marked_after_parts t s outer own)
parts_kept ends s outer own k = k
parts_kept (first p t) s outer own k = parts_kept t (after_part s p) outer (marked_after_part p s outer own) (part_kept p s outer own k)

pub marked_kept : (config : Config) (outer : List Marked) (t : Tree) → Kept (marked_of config outer t)
marked_kept config outer t = parts_kept t no_spaces outer (empty_marked config.must_validate) (record { even = λ h. refl; plain = λ h. refl })

-- Module types are small.

abbrev pub SmallCores : Marked → Type 0
SmallCores own = AllByRecursion (λ n. n ≤ small_size) own.core_sizes

more_small : (b : Bool) (ns : List ℕ) (n : ℕ) → AllByRecursion (λ n. n ≤ small_size) ns → n ≤ small_size
    → AllByRecursion (λ n. n ≤ small_size) (more_kept b ns (n ∷ []))
more_small true ns n h k = all_both (λ n. n ≤ small_size) ns (n ∷ []) h (k, tt)
more_small false ns n h k = h

module _ (config : Config) where
  cores_small : (ts : List CoreEntry) (own : Marked) → AllByRecursion (CoreLimits config) own.core_types → AllByRecursion (CoreLimits config) ts
      → SmallCores own → SmallCores (fold with_core_entry own ts)
  cores_small [] own k l small = small
  cores_small (t ∷ ts) own k l small =
      let one : capped (module_type_size own.core_types t) ≤ 9999 = omega (arith, small_core config own.core_types t k l.0) in
      cores_small ts (with_core_entry own t) (all_both (CoreLimits config) own.core_types (t ∷ []) k (l.0, tt)) l.1
      (more_small own.keeps own.core_sizes (capped (module_type_size own.core_types t)) small one)

  part_small : (p : Part) (s : Spaces) (outer : List Marked) (own : Marked) → own.core_types ≡ s.core_types
      → AllByRecursion (CoreLimits config) s.core_types → AllByRecursion (CoreLimits config) (after_part s p).core_types → SmallCores own
      → SmallCores (marked_after_part p s outer own)
  part_small (core_types ts) s outer own e k l small =
      cores_small ts own (subst (AllByRecursion (CoreLimits config)) (sym e) k) (all_back (CoreLimits config) s.core_types ts l) small
  part_small (types ts) s outer own e k l small = all_keep SmallCores (with_type_entry outer) (λ o x h. h) own ts small
  part_small (imports is) s outer own e k l small = all_keep SmallCores with_import_entry (λ o x h. h) own is small
  part_small (exports es) s outer own e k l small = exports_kept SmallCores (λ o r h. h) es s own small
  part_small _ s outer own e k l small = small

  -- what is before parts is within the limits, if all is
  front_limits : (t : Tree) (s : Spaces) → AllByRecursion (CoreLimits config) (fold after_part s (parts_of t)).core_types
      → AllByRecursion (CoreLimits config) s.core_types
  front_limits ends s h = h
  front_limits (first p t) s h =
      let next = front_limits t (after_part s p) h in
      let e = (extends_part s p).core_types in
      all_front (CoreLimits config) s.core_types e.0 (subst (AllByRecursion (CoreLimits config)) e.1 next)

  parts_small : (t : Tree) (s : Spaces) (outer : List Marked) (own : Marked) → scope_in own ≡ record { types = s.types; core_types = s.core_types }
      → AllByRecursion (CoreLimits config) (fold after_part s (parts_of t)).core_types → SmallCores own → SmallCores (marked_after_parts t s outer own)
  parts_small ends s outer own e h small = small
  parts_small (first p t) s outer own e h small =
      let next = front_limits t (after_part s p) h in
      let before = front_limits (first p t) s h in
      parts_small t (after_part s p) outer (marked_after_part p s outer own) (scope_after_part p s outer own e) h
      (part_small p s outer own (ap (λ (d : Scope). d.core_types) e) before next small)

  pub marked_small : (outer : List Marked) (t : Tree) → AllByRecursion (CoreLimits config) (core_types_of t) → SmallCores (marked_of config outer t)
  marked_small outer t h = parts_small t no_spaces outer (empty_marked config.must_validate) refl h tt
