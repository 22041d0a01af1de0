-- What one change makes of types, of declarations, and of the sections of components.
use Rattle.std.proofs.Common.{◌≡◌, ℕ, suc, ◌+◌, Bool, true, false, Option, Some, None, ap, arith, sym, refl, ◌∙◌, ⊎_elim, ◌⊎◌, inl, inr}
use Rattle.std.proofs.Common.{List, [], ◌∷◌, ◌++◌, length}
use Rattle.std.specs.Prelude.{if◌then◌else◌, ◌==◌}
use Rattle.std.specs.List.{flat_map}
use Rattle.std.specs.Option.{option_map}
use Rattle.smith_syntax.specs.Entries.{Decl, Decls, Entry, ImportEntry, component_type, decl_count, defined, function, in_order, instance_type}
use Rattle.smith_syntax.specs.Entries.{no_decls, then_decls}
use Rattle.smith_syntax.specs.Entries.{core_type_alias, core_type_decl, export_decl, import_decl, type_alias, type_decl}
use Rattle.smith_syntax.specs.WellFormed.{decl_imports}
use Rattle.smith_syntax.specs.declared.deftype.ComponentTypeRef.{ComponentTypeRef}
use Rattle.smith_syntax.specs.declared.deftype.ComponentTypeRef.TheVariants as to
use Rattle.smith_tree.specs.Tree.{Canon, ExportEntry, Part, Tree, canons, component, core_module, core_types, custom, ends, exports, first, imports}
use Rattle.smith_tree.specs.Tree.{lift, lower}
use Rattle.smith_tree.specs.Tree.{parts_of, tree_of, types}
use Rattle.smith_change.specs.Alternatives.{index_alternative, name_alternative, only, ref_index, sort_alternative, with_index}
use Rattle.smith_change.specs.CoreTypes.{core_changed, core_places, outer_changed}
use Rattle.smith_change.specs.Members.{defined_changed, signature_changed}
use Rattle.smith_change.specs.Parts.{canon_changed, canon_places, canons_changed, core_types_changed, export_again, export_changed, export_places}
use Rattle.smith_change.specs.Parts.{exports_changed}
use Rattle.smith_change.specs.Parts.{import_again, import_changed, import_places, imports_changed, module_changed, part_changed, part_places, sections_changed}
use Rattle.smith_change.specs.Parts.{functions_changed, functions_places, memories_changed, memory_changed, memory_places, stand_in_changed, types_changed}
use Rattle.smith_core.specs.StandInText.{StandIn}
use Rattle.smith_format.specs.declared.types.MemoryType.{MemoryType}
use Rattle.smith_change.specs.CoreTypes.{function_changed, function_places}
use Rattle.smith_change.specs.Tokens.{function_tokens, limits, memory_tokens, stand_in_tokens}
use Rattle.smith_change.proofs.DifferingTypes.{function_differs}
use Rattle.smith_change.proofs.DifferingCores.{memories_same}
use Rattle.smith_change.specs.Rows.{entry_alternative, in_turn, unnamed}
use Rattle.smith_change.specs.Tokens.{Token, canon_tokens, code, core_tokens, count, decl_tokens, decls_tokens, entry_tokens, export_tokens, extern_tokens}
use Rattle.smith_change.specs.Tokens.{import_tokens, index, list_tokens, name, part_tokens, raw, sections_tokens, sort_code, tokens}
use Rattle.smith_change.specs.Types.{decl_again, decl_changed, decl_list, decl_places, decls_changed, entry_changed, entry_places, extern_changed}
use Rattle.smith_change.specs.Types.{importing_alone}
use Rattle.smith_change.specs.Types.{ref_changed, without_imports}
use Rattle.smith_change.proofs.Differing.{Differ, EntryEdit, ahead, as_list, behind, by_first, by_turn, edit_behind, edit_mapped, entry_edited}
use Rattle.smith_change.proofs.Differing.{if_cases, list_differs}
use Rattle.smith_change.proofs.Differing.{map_cases, one_token, only_is, row_differs, so}
use Rattle.smith_change.proofs.DifferingCores.{core_differs, outer_differs}
use Rattle.smith_change.proofs.DifferingTypes.{code_same, defined_differs, index_same, name_same, signature_differs}
use Rattle.smith_change.proofs.RowsOf.{decl_list_back, parts_back}

-- what an import or an export is of, by its code and its index

of_sort : ℕ → ℕ → ComponentTypeRef
of_sort n i =
    if n == 0x00 then to.Module i else if n == 0x01 then to.Func i else if n == 0x03 then to.TypeEq i
    else if n == 0x04 then to.Component i else to.Instance i

of_its_sort : (r : ComponentTypeRef) → of_sort (sort_code r) (ref_index r) ≡ r
unfolding of_sort
of_its_sort (to.Module i) = refl
of_its_sort (to.Func i) = refl
of_its_sort (to.TypeEq i) = refl
of_its_sort (to.Component i) = refl
of_its_sort (to.Instance i) = refl

refs_same : (r s : ComponentTypeRef) → sort_code r ≡ sort_code s → ref_index r ≡ ref_index s → r ≡ s
refs_same r s codes indexes = sym (of_its_sort r) ∙ (λ i. of_sort (codes i) (indexes i)) ∙ of_its_sort s

same_index : (r : ComponentTypeRef) (j : ℕ) → ref_index (with_index r j) ≡ j
same_index (to.Module i) j = refl
same_index (to.Func i) j = refl
same_index (to.TypeEq i) j = refl
same_index (to.Component i) j = refl
same_index (to.Instance i) j = refl

same_sort : (r : ComponentTypeRef) (j : ℕ) → sort_code (with_index r j) ≡ sort_code r
same_sort (to.Module i) j = refl
same_sort (to.Func i) j = refl
same_sort (to.TypeEq i) j = refl
same_sort (to.Component i) j = refl
same_sort (to.Instance i) j = refl

-- The index stays when the sort is another.
index_stays : (a : ℕ) (r s : ComponentTypeRef) → sort_alternative a r ≡ Some s → ref_index s ≡ ref_index r
index_stays a r s e =
    ⊎_elim (λ x. is (to.Module (ref_index r)) refl x)
    (λ e1. ⊎_elim (λ x. is (to.Func (ref_index r)) refl x)
    (λ e2. ⊎_elim (λ x. is (to.TypeEq (ref_index r)) refl x)
    (λ e3. ⊎_elim (λ x. is (to.Component (ref_index r)) refl x)
    (λ e4. is (to.Instance (ref_index r)) refl (ap Some (only_is (a == 4) (to.Instance (ref_index r)) s e4)))
    (if_cases (a == 3) (Some (to.Component (ref_index r))) _ s e3))
    (if_cases (a == 2) (Some (to.TypeEq (ref_index r))) _ s e2))
    (if_cases (a == 1) (Some (to.Func (ref_index r))) _ s e1))
    (if_cases (a == 0) (Some (to.Module (ref_index r))) _ s e)
  where
    is : (q : ComponentTypeRef) → ref_index q ≡ ref_index r → Some q ≡ Some s → ref_index s ≡ ref_index r
    is q i x = let same : q ≡ s = cc in ap ref_index (sym same) ∙ i

abbrev ref_tokens : ComponentTypeRef → List Token
ref_tokens r = code (sort_code r) ∷ index (ref_index r) ∷ []

ref_differs : (a k : ℕ) (r y : ComponentTypeRef) → ref_changed a k r ≡ Some y → Differ (ref_tokens r) (ref_tokens y) (r ≡ y)
ref_differs a k r y e =
    by_first (sort_alternative a r) (λ j. option_map (with_index r) (index_alternative a (ref_index r))) k y e
    (λ own. let stays = index_stays a r y own in
    rw stays
    (one_token [] (index (ref_index r) ∷ []) (code (sort_code r)) (code (sort_code y))
    (λ s. refs_same r y (code_same (sort_code r) (sort_code y) s) (sym stays))))
    (λ j h. let m = map_cases (with_index r) (index_alternative a (ref_index r)) y h in
    rw (sym m.2, same_sort r m.0, same_index r m.0)
    (one_token (code (sort_code r) ∷ []) [] (index (ref_index r)) (index m.0)
    (λ s. refs_same r (with_index r m.0) (sym (same_sort r m.0)) (index_same (ref_index r) m.0 s ∙ sym (same_index r m.0)))))

extern_differs : (a k : ℕ) (x y : List ℕ × ComponentTypeRef) → extern_changed a k x ≡ Some y → Differ (extern_tokens x.0 x.1) (extern_tokens y.0 y.1) (x ≡ y)
extern_differs a k x y e =
    by_first (option_map (λ n. (n, x.1)) (name_alternative a x.0)) (λ j. option_map (λ r. (x.0, r)) (ref_changed a j x.1)) k y e
    (λ own. let m = map_cases (λ n. (n, x.1)) (name_alternative a x.0) y own in
    rw (sym m.2) (one_token [] (ref_tokens x.1) (name x.0) (name m.0) (λ s. ap (λ n. (n, x.1)) (name_same x.0 m.0 s))))
    (λ j h. let m = map_cases (λ r. (x.0, r)) (ref_changed a j x.1) y h in
    rw (sym m.2) (behind (name x.0 ∷ []) (so (λ s. ap (λ r. (x.0, r)) s) (ref_differs a j x.1 m.0 m.1))))

-- declarations in order

abbrev DeclsDiffer : Decls → Decls → Type 0
DeclsDiffer ds es = (Differ (decls_tokens ds) (decls_tokens es) (ds ≡ es) × (decl_count ds ≡ decl_count es)) ⊎ EntryEdit (decl_list ds) (decl_list es)

decls_count : (ds : Decls) → decl_count ds ≡ length (decl_list ds)
decls_count no_decls = refl
decls_count (then_decls d ds) = omega (arith, decls_count ds)

decls_mapped : (ds : Decls) → decls_tokens ds ≡ flat_map decl_tokens (decl_list ds)
decls_mapped no_decls = refl
decls_mapped (then_decls d ds) = ap (λ ts. decl_tokens d ++ ts) (decls_mapped ds)

decls_listed : (ds : Decls) → count (decl_count ds) ∷ decls_tokens ds ≡ list_tokens decl_tokens (decl_list ds)
decls_listed ds = λ i. count (decls_count ds i) ∷ decls_mapped ds i

-- what it makes of a list of them
all_differ : (ds es : Decls) → DeclsDiffer ds es → Differ (count (decl_count ds) ∷ decls_tokens ds) (count (decl_count es) ∷ decls_tokens es) (ds ≡ es)
all_differ ds es (inl d) = rw (sym d.1) (behind (count (decl_count ds) ∷ []) d.0)
all_differ ds es (inr d) =
    rw (decls_listed ds, decls_listed es) (as_list decl_tokens (decl_list ds) (decl_list es) (edit_mapped decl_tokens (decl_list ds) (decl_list es) d))

importing_is : (b : Bool) (x y : Decl) (o : Option Decl) → importing_alone b o ≡ Some y → o ≡ Some y
importing_is true x y o e = e
importing_is false x y o e = absurd cc

without_is : (b : Bool) (x y : Entry) (o : Option Entry) → (if b then o else None) ≡ Some y → o ≡ Some y
without_is true x y o e = e
without_is false x y o e = absurd cc

-- types, and declarations of component types (true) and of instance types (false)

mutual
  entry_differs : (a k : ℕ) (x y : Entry) → entry_changed a k x ≡ Some y → Differ (entry_tokens x) (entry_tokens y) (x ≡ y)
  entry_differs a k (defined t) y e =
      let m = map_cases defined (defined_changed a k t) y e in rw (sym m.2) (so (λ s. ap defined s) (defined_differs a k t m.0 m.1))
  entry_differs a k (function g) y e =
      let m = map_cases function (signature_changed a k g) y e in rw (sym m.2) (so (λ s. ap function s) (signature_differs a k g m.0 m.1))
  entry_differs a k (component_type ds) y e =
      by_first (without_imports ds (only a (instance_type ds))) (λ j. option_map component_type (decls_changed true a j ds)) k y e
      (λ own. let is : instance_type ds ≡ y = only_is (a == 0) (instance_type ds) y
      (without_is (length (decl_imports ds) == 0) (instance_type ds) y (only a (instance_type ds)) own) in
      rw (sym is) (one_token [] (count (decl_count ds) ∷ decls_tokens ds) (code 0x41) (code 0x42) (λ s. absurd (omega (arith, code_same 0x41 0x42 s)))))
      (λ j h. let m = map_cases component_type (decls_changed true a j ds) y h in
      rw (sym m.2) (behind (code 0x41 ∷ []) (so (λ s. ap component_type s) (all_differ ds m.0 (decls_differ true a j ds m.0 m.1)))))
  entry_differs a k (instance_type ds) y e =
      by_first (only a (component_type ds)) (λ j. option_map instance_type (decls_changed false a j ds)) k y e
      (λ own. let is : component_type ds ≡ y = only_is (a == 0) (component_type ds) y own in
      rw (sym is) (one_token [] (count (decl_count ds) ∷ decls_tokens ds) (code 0x42) (code 0x41) (λ s. absurd (omega (arith, code_same 0x42 0x41 s)))))
      (λ j h. let m = map_cases instance_type (decls_changed false a j ds) y h in
      rw (sym m.2) (behind (code 0x42 ∷ []) (so (λ s. ap instance_type s) (all_differ ds m.0 (decls_differ false a j ds m.0 m.1)))))

  decl_differs : (b : Bool) (a k : ℕ) (x y : Decl) → decl_changed b a k x ≡ Some y → Differ (decl_tokens x) (decl_tokens y) (x ≡ y)
  decl_differs b a k (core_type_decl t u) y e =
      let m = map_cases (λ c. core_type_decl c u) (core_changed a k t) y e in
      rw (sym m.2) (behind (code 0x00 ∷ []) (so (λ s. ap (λ c. core_type_decl c u) s) (core_differs a k t m.0 m.1)))
  decl_differs b a k (type_decl x) y e =
      let m = map_cases type_decl (entry_changed a k x) y e in
      rw (sym m.2) (behind (code 0x01 ∷ []) (so (λ s. ap type_decl s) (entry_differs a k x m.0 m.1)))
  decl_differs b a k (type_alias n i u) y e =
      by_first (only a (core_type_alias n i u)) (λ j. option_map (λ o. type_alias o.0 o.1 u) (outer_changed a j (n, i))) k y e
      (λ own. let is : core_type_alias n i u ≡ y = only_is (a == 0) (core_type_alias n i u) y own in
      rw (sym is)
      (one_token (code 0x02 ∷ []) (index n ∷ index i ∷ []) (code 0x03) (code 0x10) (λ s. absurd (omega (arith, code_same 0x03 0x10 s)))))
      (λ j h. let m = map_cases (λ o. type_alias o.0 o.1 u) (outer_changed a j (n, i)) y h in
      rw (sym m.2) (behind (code 0x02 ∷ code 0x03 ∷ []) (so (λ s. ap (λ o. type_alias o.0 o.1 u) s) (outer_differs a j (n, i) m.0 m.1))))
  decl_differs b a k (core_type_alias n i u) y e =
      by_first (only a (type_alias n i u)) (λ j. option_map (λ o. core_type_alias o.0 o.1 u) (outer_changed a j (n, i))) k y e
      (λ own. let is : type_alias n i u ≡ y = only_is (a == 0) (type_alias n i u) y own in
      rw (sym is)
      (one_token (code 0x02 ∷ []) (index n ∷ index i ∷ []) (code 0x10) (code 0x03) (λ s. absurd (omega (arith, code_same 0x10 0x03 s)))))
      (λ j h. let m = map_cases (λ o. core_type_alias o.0 o.1 u) (outer_changed a j (n, i)) y h in
      rw (sym m.2) (behind (code 0x02 ∷ code 0x10 ∷ []) (so (λ s. ap (λ o. core_type_alias o.0 o.1 u) s) (outer_differs a j (n, i) m.0 m.1))))
  decl_differs b a k (import_decl n u r) y e =
      by_first (importing_alone b (only a (export_decl n u r))) (λ j. option_map (λ x. import_decl x.0 u x.1) (extern_changed a j (n, r))) k y e
      (λ own. let is : export_decl n u r ≡ y = only_is (a == 0) (export_decl n u r) y (importing_is b (export_decl n u r) y (only a (export_decl n u r)) own) in
      rw (sym is) (one_token [] (extern_tokens n r) (code 0x03) (code 0x04) (λ s. absurd (omega (arith, code_same 0x03 0x04 s)))))
      (λ j h. let m = map_cases (λ x. import_decl x.0 u x.1) (extern_changed a j (n, r)) y h in
      rw (sym m.2) (behind (code 0x03 ∷ []) (so (λ s. ap (λ x. import_decl x.0 u x.1) s) (extern_differs a j (n, r) m.0 m.1))))
  decl_differs b a k (export_decl n u r) y e =
      by_first (importing_alone b (only a (import_decl n u r))) (λ j. option_map (λ x. export_decl x.0 u x.1) (extern_changed a j (n, r))) k y e
      (λ own. let is : import_decl n u r ≡ y = only_is (a == 0) (import_decl n u r) y (importing_is b (import_decl n u r) y (only a (import_decl n u r)) own) in
      rw (sym is) (one_token [] (extern_tokens n r) (code 0x04) (code 0x03) (λ s. absurd (omega (arith, code_same 0x04 0x03 s)))))
      (λ j h. let m = map_cases (λ x. export_decl x.0 u x.1) (extern_changed a j (n, r)) y h in
      rw (sym m.2) (behind (code 0x04 ∷ []) (so (λ s. ap (λ x. export_decl x.0 u x.1) s) (extern_differs a j (n, r) m.0 m.1))))

  decls_differ : (b : Bool) (a k : ℕ) (ds es : Decls) → decls_changed b a k ds ≡ Some es → DeclsDiffer ds es
  decls_differ b a k no_decls es e = absurd cc
  decls_differ b a k (then_decls d ds) es e =
      by_first (option_map in_order (entry_alternative decl_again a (d ∷ decl_list ds)))
      (in_turn (decl_places d) (λ j. option_map (λ x. then_decls x ds) (decl_changed b a j d))
      (λ j. option_map (λ xs. then_decls d xs) (decls_changed b a j ds)))
      k es e
      (λ own. let m = map_cases in_order (entry_alternative decl_again a (d ∷ decl_list ds)) es own in
      rw (sym m.2) (inr (rw (decl_list_back m.0) (entry_edited decl_again a (d ∷ decl_list ds) m.0 m.1))))
      (λ j h. by_turn (decl_places d) (λ j. option_map (λ x. then_decls x ds) (decl_changed b a j d))
      (λ j. option_map (λ xs. then_decls d xs) (decls_changed b a j ds)) j es h
      (λ i g. let m = map_cases (λ x. then_decls x ds) (decl_changed b a i d) es g in
      rw (sym m.2) (inl (ahead (decls_tokens ds) (so (λ s. ap (λ x. then_decls x ds) s) (decl_differs b a i d m.0 m.1)), refl)))
      (λ i g. let m = map_cases (λ xs. then_decls d xs) (decls_changed b a i ds) es g in
      rw (sym m.2)
      (⊎_elim (λ x. inl (behind (decl_tokens d) (so (λ s. ap (λ xs. then_decls d xs) s) x.0), ap (λ n. n + 1) x.1))
      (λ x. inr (edit_behind d (decl_list ds) (decl_list m.0) x)) (decls_differ b a i ds m.0 m.1))))

-- entries of sections

canon_differs : (a k : ℕ) (x y : Canon) → canon_changed a k x ≡ Some y → Differ (canon_tokens x) (canon_tokens y) (x ≡ y)
canon_differs a k (lift c t) y e =
    by_first (option_map (λ i. lift i t) (index_alternative a c)) (λ j. option_map (λ i. lift c i) (index_alternative a t)) k y e
    (λ own. let m = map_cases (λ i. lift i t) (index_alternative a c) y own in
    rw (sym m.2) (one_token (code 0x00 ∷ []) (index t ∷ []) (index c) (index m.0) (λ s. ap (λ i. lift i t) (index_same c m.0 s))))
    (λ j h. let m = map_cases (λ i. lift c i) (index_alternative a t) y h in
    rw (sym m.2) (one_token (code 0x00 ∷ index c ∷ []) [] (index t) (index m.0) (λ s. ap (λ i. lift c i) (index_same t m.0 s))))
canon_differs a k (lower f) y e =
    let m = map_cases lower (index_alternative a f) y e in
    rw (sym m.2) (one_token (code 0x01 ∷ []) [] (index f) (index m.0) (λ s. ap lower (index_same f m.0 s)))

import_differs : (a k : ℕ) (x y : ImportEntry) → import_changed a k x ≡ Some y → Differ (import_tokens x) (import_tokens y) (x ≡ y)
import_differs a k x y e =
    let m = map_cases (λ p. record { name = p.0; to = p.1 }) (extern_changed a k (x.name, x.to)) y e in
    rw (sym m.2) (so (λ s. ap (λ p. record { name = p.0; to = p.1 }) s) (extern_differs a k (x.name, x.to) m.0 m.1))

export_differs : (a k : ℕ) (x y : ExportEntry) → export_changed a k x ≡ Some y → Differ (export_tokens x) (export_tokens y) (x ≡ y)
export_differs a k x y e =
    by_first (option_map (λ n. record x { name = n }) (name_alternative a x.name))
    (λ j. option_map (λ i. record x { func = i }) (index_alternative a x.func)) k y e
    (λ own. let m = map_cases (λ n. record x { name = n }) (name_alternative a x.name) y own in
    rw (sym m.2) (one_token [] (index x.func ∷ []) (name x.name) (name m.0) (λ s. ap (λ n. record x { name = n }) (name_same x.name m.0 s))))
    (λ j h. let m = map_cases (λ i. record x { func = i }) (index_alternative a x.func) y h in
    rw (sym m.2) (one_token (name x.name ∷ []) [] (index x.func) (index m.0) (λ s. ap (λ i. record x { func = i }) (index_same x.func m.0 s))))

memory_differs : (a k : ℕ) (x y : MemoryType) → memory_changed a k x ≡ Some y → Differ (memory_tokens x) (memory_tokens y) (x ≡ y)
memory_differs a k x y e =
    one_token [] [] (limits x.shared x.memory64 x.minimum x.maximum) (limits y.shared y.memory64 y.minimum y.maximum) (memories_same x y)

-- the function types and the memories of a core module
pub stand_in_differs : (a k : ℕ) (s y : StandIn) → stand_in_changed a k s ≡ Some y → Differ (stand_in_tokens s) (stand_in_tokens y) (s ≡ y)
stand_in_differs a k s y e =
    by_turn (functions_places s.types) (λ j. option_map (λ ts. record s { types = ts }) (functions_changed a j s.types))
    (λ j. option_map (λ ms. record s { memories = ms }) (memories_changed a j s.memories)) k y e
    (λ j h. let m = map_cases (λ ts. record s { types = ts }) (functions_changed a j s.types) y h in
    rw (sym m.2)
    (ahead (list_tokens memory_tokens s.memories) (so (λ same. ap (λ ts. record s { types = ts }) same)
    (list_differs function_tokens s.types m.0
    (row_differs function_tokens function_places function_changed unnamed a (function_differs a) j s.types m.0 m.1)))))
    (λ j h. let m = map_cases (λ ms. record s { memories = ms }) (memories_changed a j s.memories) y h in
    rw (sym m.2)
    (behind (list_tokens function_tokens s.types) (so (λ same. ap (λ ms. record s { memories = ms }) same)
    (list_differs memory_tokens s.memories m.0
    (row_differs memory_tokens memory_places memory_changed unnamed a (memory_differs a) j s.memories m.0 m.1)))))

raw_same : (x y : List ℕ) → raw x ≡ raw y → x ≡ y
raw_same x y e = cc

-- sections

abbrev SectionsDiffer : Tree → Tree → Type 0
SectionsDiffer t u =
    (Differ (sections_tokens t) (sections_tokens u) (t ≡ u) × (length (parts_of t) ≡ length (parts_of u))) ⊎ EntryEdit (parts_of t) (parts_of u)

sections_mapped : (t : Tree) → sections_tokens t ≡ flat_map part_tokens (parts_of t)
sections_mapped ends = refl
sections_mapped (first p t) = ap (λ ts. part_tokens p ++ ts) (sections_mapped t)

tree_differs : (t u : Tree) → SectionsDiffer t u → Differ (tokens t) (tokens u) (t ≡ u)
tree_differs t u (inl d) = rw (sym d.1) (behind (count (length (parts_of t)) ∷ []) d.0)
tree_differs t u (inr d) =
    rw (sections_mapped t, sections_mapped u) (as_list part_tokens (parts_of t) (parts_of u) (edit_mapped part_tokens (parts_of t) (parts_of u) d))

mutual
  part_differs : (a k : ℕ) (p y : Part) → part_changed a k p ≡ Some y → Differ (part_tokens p) (part_tokens y) (p ≡ y)
  part_differs a k (custom n contents) y e = absurd cc
  part_differs a k (core_module text) y e =
      let m = map_cases core_module (module_changed a k text) y e in
      rw (sym m.2) (one_token (code 1 ∷ []) [] (raw text) (raw m.0) (λ s. ap core_module (raw_same text m.0 s)))
  part_differs a k (core_types ts) y e =
      let m = map_cases core_types (core_types_changed a k ts) y e in
      rw (sym m.2)
      (behind (code 3 ∷ []) (so (λ s. ap core_types s)
      (list_differs core_tokens ts m.0 (row_differs core_tokens core_places core_changed unnamed a (core_differs a) k ts m.0 m.1))))
  part_differs a k (component t) y e =
      let m = map_cases component (sections_changed a k t) y e in
      rw (sym m.2) (behind (code 4 ∷ []) (so (λ s. ap component s) (tree_differs t m.0 (sections_differ a k t m.0 m.1))))
  part_differs a k (types ts) y e =
      let m = map_cases types (types_changed a k ts) y e in
      rw (sym m.2)
      (behind (code 7 ∷ []) (so (λ s. ap types s)
      (list_differs entry_tokens ts m.0 (row_differs entry_tokens entry_places entry_changed unnamed a (entry_differs a) k ts m.0 m.1))))
  part_differs a k (canons fs) y e =
      let m = map_cases canons (canons_changed a k fs) y e in
      rw (sym m.2)
      (behind (code 8 ∷ []) (so (λ s. ap canons s)
      (list_differs canon_tokens fs m.0 (row_differs canon_tokens canon_places canon_changed unnamed a (canon_differs a) k fs m.0 m.1))))
  part_differs a k (imports is) y e =
      let m = map_cases imports (imports_changed a k is) y e in
      rw (sym m.2)
      (behind (code 10 ∷ []) (so (λ s. ap imports s)
      (list_differs import_tokens is m.0 (row_differs import_tokens import_places import_changed import_again a (import_differs a) k is m.0 m.1))))
  part_differs a k (exports es) y e =
      let m = map_cases exports (exports_changed a k es) y e in
      rw (sym m.2)
      (behind (code 11 ∷ []) (so (λ s. ap exports s)
      (list_differs export_tokens es m.0 (row_differs export_tokens export_places export_changed export_again a (export_differs a) k es m.0 m.1))))

  pub sections_differ : (a k : ℕ) (t u : Tree) → sections_changed a k t ≡ Some u → SectionsDiffer t u
  sections_differ a k ends u e = absurd cc
  sections_differ a k (first p t) u e =
      by_first (option_map tree_of (entry_alternative unnamed a (p ∷ parts_of t)))
      (in_turn (part_places p) (λ j. option_map (λ q. first q t) (part_changed a j p)) (λ j. option_map (λ v. first p v) (sections_changed a j t))) k u e
      (λ own. let m = map_cases tree_of (entry_alternative unnamed a (p ∷ parts_of t)) u own in
      rw (sym m.2) (inr (rw (parts_back m.0) (entry_edited unnamed a (p ∷ parts_of t) m.0 m.1))))
      (λ j h. by_turn (part_places p) (λ j. option_map (λ q. first q t) (part_changed a j p)) (λ j. option_map (λ v. first p v) (sections_changed a j t)) j u h
      (λ i g. let m = map_cases (λ q. first q t) (part_changed a i p) u g in
      rw (sym m.2) (inl (ahead (sections_tokens t) (so (λ s. ap (λ q. first q t) s) (part_differs a i p m.0 m.1)), refl)))
      (λ i g. let m = map_cases (λ v. first p v) (sections_changed a i t) u g in
      rw (sym m.2)
      (⊎_elim (λ x. inl (behind (part_tokens p) (so (λ s. ap (λ v. first p v) s) x.0), ap suc x.1))
      (λ x. inr (edit_behind p (parts_of t) (parts_of m.0) x)) (sections_differ a i t m.0 m.1))))

pub component_differs : (a k : ℕ) (t u : Tree) → sections_changed a k t ≡ Some u → Differ (tokens t) (tokens u) (t ≡ u)
component_differs a k t u e = tree_differs t u (sections_differ a k t u e)
