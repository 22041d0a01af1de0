-- Sections as the program makes them: types in the last scope, imports that find room and are counted, and exports that go into the tables.
use Rattle.std.proofs.Common.{◌≡◌, ℕ, ◌+◌, ◌≤◌, ◌&&◌, max, Bool, true, false, List, [], ◌∷◌, ◌++◌, fold, length, arith, sym, ap, subst, ◌∙◌, nat_lt}
use Rattle.std.proofs.Common.{length-append, map, ◌<◌, refl, get_or}
use Rattle.std.specs.List.{flat_map, AllByRecursion}
use Rattle.std.proofs.lemmas.Bool.{false≢true}
use Rattle.std.proofs.lemmas.List.Sums.{fold-append}
use Rattle.std.proofs.lemmas.Bool.Decides.{nat_tests}
use Rattle.smith_input.proofs.Offered.{offer_holds}
use Rattle.smith_format.specs.declared.config.Config.{Config}
use Rattle.smith_syntax.specs.Entries.{ImportEntry, CoreEntry}
use Rattle.smith_syntax.specs.Marked.{Marked, scope_in, with_import, mark, with_export}
use Rattle.smith_syntax.specs.declared.deftype.ComponentTypeRef.{ComponentTypeRef}
use Rattle.smith_types.specs.References.{ReadsRef, ref_to}
use Rattle.smith_types.proofs.References.{offered_where}
use Rattle.smith_tree.proofs.Marking.{marked_add, scope_marked}
use Rattle.smith_tree.specs.Marking.{marked_in, marked_inner, with_import_entry, with_core_entry, with_type_entry, with_exports_entry}
use Rattle.smith_tree.specs.TypeOffers.{allows_one, has_place, has_room, kinds_offered, ref_offers}
use Rattle.smith_tree.specs.declared.choices.RefKind.TheVariants as kind
use Rattle.smith_tree.specs.declared.totals.RefTotals.{RefTotals}
use Rattle.smith_scopes.proofs.Plain.{both_true, all_both}
use Rattle.smith_tree.specs.Offers.{marked_with_imports, totals_of, with_imports, export_functions, is_scalar_type, with_exports}
use Rattle.smith_tree.specs.Open.{Open}
use Rattle.smith_tree.specs.Spaces.{spaces_of, types_of}
use Rattle.smith_tree.specs.Tree.{imports, function_of, module_of, component_of, instance_of, ExportEntry, Tree, exports, exports_in, exports_of}
use Rattle.smith_tree.specs.Tree.{function_count}
use Rattle.smith_tree.specs.WellFormed.{scope_of, export_names}
use Rattle.smith_component.proofs.Growth.{imports_keep, scope_bare, exports_keep, spaces_export}
use Rattle.smith_component.proofs.Sound.{component_count-so_far, instance_count-so_far, module_count-so_far}
use Rattle.smith_component.proofs.Tables.{flat_map_more, same_more, tabled_more}
use Rattle.smith_component.proofs.Tree.{function_count-add, own-add}
use Rattle.smith_syntax.specs.Shown.{shown_core, shown_type}
use Rattle.smith_syntax.specs.Sizes.{capped, module_type_size}
use Rattle.smith_syntax.specs.declared.core_types.CoreType.{CoreType}
use Rattle.smith_syntax.specs.declared.deftype.DefType.{DefType}
use Rattle.smith_syntax.specs.declared.marks.Mark.{Mark}
use Rattle.smith_scopes.specs.Scopes.{AddsMarked, AddsSized, Contents, last_of, outer_marked, own_marked}
use Rattle.smith_scopes.proofs.Marking.{marked_alike, sized_alike}
use Rattle.smith_scopes.proofs.Stack.{GrownMarked, grown_marked, grown_sized, keeps_last, own_marked_last}
use Rattle.smith_component.specs.SectionsState.{KeepsAround, ExportsState}
use Rattle.std.proofs.lemmas.Option.{slice_get-get_or}
use Rattle.std.specs.Option.{option_to_list}
use Rattle.std.specs.Prelude.{Some, if◌then◌else◌, slice_get}
use Rattle.std.specs.BTreeSet.{BTreeSet}
use Rattle.std.specs.declared.alloc.Global.{Global}
use Rattle.std.specs.declared.string.String.{String}
use Rattle.smith_input.specs.Names.{GainsName, Holds, ReadsKebab, ReadsUnique}
use Rattle.smith_input.specs.Reading.{Reads}
use Rattle.smith_input.proofs.NewNames.{holds_more}
use Rattle.smith_syntax.specs.Scope.{Scope}
use Rattle.smith_syntax.specs.declared.deftype.ComponentTypeRef.TheVariants as to
use Rattle.smith_types.proofs.Externs.{new_among}
use Rattle.smith_component.specs.ExportReading.{ReadsExport}
use Rattle.smith_tree.specs.Shown.{shown_export}
use Rattle.smith_tree.specs.Functions.{functions_of}
use Rattle.smith_component.specs.Tables.{AddsFunction, IsKnown}
use Rattle.smith_component.specs.declared.builder.tables.Tables.{Tables}
use Rattle.smith_tree.specs.declared.entries.Export.{Export}
use Rattle.smith_component.proofs.Marks.{exports_marked_more}
use Rattle.smith_component.proofs.Named.{names_with_more}
use Rattle.smith_component.proofs.Spaces.{all_at}

pub around_then : {a b c : List Contents} → KeepsAround a b → KeepsAround b c → KeepsAround a c
around_then f g = record { outer = g.outer ∙ f.outer; depth = g.depth ∙ f.depth }

pub type_added : (old new : List Contents) (ty : DefType) (m : Mark) → AddsMarked old ty m new
    → ((own_marked old).keeps ≡ true → m ≡ mark (shown_type ty) (own_marked old) (outer_marked old))
    → GrownMarked (λ s. with_type_entry (outer_marked old) s (shown_type ty)) old new
type_added old new ty m adds is =
    let g = grown_marked old new ty adds in
    record {
      own = g.own ∙ marked_alike (own_marked old) (shown_type ty) m (mark (shown_type ty) (own_marked old) (outer_marked old)) is;
      outer = g.outer;
      whole = g.whole;
      was = g.was;
    }

pub core_type_added : (old new : List Contents) (ty : CoreType) (n : ℕ) → AddsSized old ty n new
    → ((last_of old).keeps ≡ true → n ≡ capped (module_type_size (map shown_core (last_of old).core_types) (shown_core ty)))
    → GrownMarked (λ s. with_core_entry s (shown_core ty)) old new
core_type_added old new ty n adds is =
    let g = grown_sized old new ty adds in
    let size : List CoreEntry → ℕ = λ ts. capped (module_type_size ts (shown_core ty)) in
    record {
      own = g.own
          ∙ sized_alike (own_marked old) (shown_core ty) n (size (own_marked old).core_types)
          (λ keeps. is (keeps_last old ∙ keeps) ∙ sym (ap (λ (s : Marked). size s.core_types) (own_marked_last old)));
      outer = g.outer;
      whole = g.whole;
      was = g.was;
    }

-- Room for what is imported: if one more is counted, it finds room.
pub record RefRoom (config : Config) (totals : RefTotals) (r : ComponentTypeRef) : Type 0 where
  pub modules : totals.modules + length (module_of r) ≤ max totals.modules config.max_modules
  pub funcs : totals.funcs + length (function_of r) ≤ max totals.funcs config.max_funcs
  pub components : totals.components + length (component_of r) ≤ max totals.components config.max_components
  pub instances : totals.instances + length (instance_of r) ≤ max totals.instances config.max_instances

-- one more, if it is allowed
one : (has : Bool) (count most : ℕ) → (has && allows_one true false count most) ≡ true → count + 1 ≤ max count most
one has count most e = let lt : nat_lt count most ≡ true = (both_true has (nat_lt count most) e).1 in grind (arith, nat_tests, lt)

-- An import that is read finds room.
pub import_room : (config : Config) (own : Marked) (totals : RefTotals) (b : List ℕ) (r : ComponentTypeRef) (rest : List ℕ)
    → ReadsRef config own totals true false b r rest → RefRoom config totals r
import_room config own totals b r rest h = subst (RefRoom config totals) (sym h.is) (each h.index)
  where
    each : (i : ℕ) → RefRoom config totals (ref_to h.kind i)
    each =
        offer_holds (λ k. (i : ℕ) → RefRoom config totals (ref_to k i)) (ref_offers config own totals true false) (
          λ t i. record { modules = one (has_place own true kind.Module) _ _ t; funcs = omega arith; components = omega arith; instances = omega arith },
          (
            λ t. absurd (false≢true (both_true (has_place own true kind.TypeEq) false t).1),
            (
              λ t i. record { modules = omega arith; funcs = one (has_place own true kind.Func) _ _ t; components = omega arith; instances = omega arith },
              (
                λ t i. record
                    { modules = omega arith; funcs = omega arith; components = one (has_place own true kind.Component) _ _ t; instances = omega arith },
                (
                  λ t i. record
                      { modules = omega arith; funcs = omega arith; components = omega arith; instances = one (has_place own true kind.Instance) _ _ t },
                  tt,
                ),
              ),
            ),
          ),
        ) h.choice.place h.kind (offered_where (has_room own false) (kinds_offered config own totals true false) h.choice.place h.kind h.choice.named)

-- What is counted of imports, with one more import.
module _ (stack : Open) (s : List ImportEntry) (x : ImportEntry) where
  abbrev more : List ImportEntry
  more = s ++ x ∷ []

  length_more : (of : ComponentTypeRef → List ℕ)
      → length (flat_map (λ (i : ImportEntry). of i.to) more) ≡ length (flat_map (λ (i : ImportEntry). of i.to) s) + length (of x.to)
  length_more of =
      ap length (flat_map_more (λ (i : ImportEntry). of i.to) s x) ∙ length-append (flat_map (λ (i : ImportEntry). of i.to) s) (of x.to)

  pub modules_more : (totals_of (with_imports stack more)).modules ≡ (totals_of (with_imports stack s)).modules + length (module_of x.to)
  modules_more =
      let count = module_count-so_far stack.outer stack.inner in
      omega (arith, count (imports s), count (imports more), length_more module_of)

  pub components_more : (totals_of (with_imports stack more)).components ≡ (totals_of (with_imports stack s)).components + length (component_of x.to)
  components_more =
      let count = component_count-so_far stack.outer stack.inner in
      omega (arith, count (imports s), count (imports more), length_more component_of)

  pub instances_more : (totals_of (with_imports stack more)).instances ≡ (totals_of (with_imports stack s)).instances + length (instance_of x.to)
  instances_more =
      let count = instance_count-so_far stack.outer stack.inner in
      omega (arith, count (imports s), count (imports more), length_more instance_of)

  pub funcs_more : (totals_of (with_imports stack more)).funcs ≡ (totals_of (with_imports stack s)).funcs + length (function_of x.to)
  funcs_more =
      let count = function_count-add stack.inner in
      omega (arith, count (imports s), count (imports more), length_more function_of)

-- What is kept of the component, when the section has imports.
module _ (config : Config) (stack : Open) (s : List ImportEntry) where
  pub imports_marked : marked_with_imports config stack s ≡ fold with_import_entry (marked_inner config stack.outer stack.inner) s
  imports_marked = marked_add config (marked_in config stack.outer) stack.inner (imports s)

  -- its scope by itself is the component's
  pub imports_scope : scope_in (marked_with_imports config stack s) ≡ scope_of stack.inner
  imports_scope = grind (arith, scope_marked, scope_bare, imports_keep)

-- one more import
pub imports_marked_more : (config : Config) (stack : Open) (s : List ImportEntry) (x : ImportEntry)
    → marked_with_imports config stack (s ++ x ∷ []) ≡ with_import (marked_with_imports config stack s) x.to
imports_marked_more config stack s x = grind (arith, imports_marked, fold-append)

-- The types of all functions are there with one more.
pub known_more : {own : Scope} {more : ℕ} {old new : Tables} {ty : ℕ} → ty < length own.types → AddsFunction own more old ty new → IsKnown own old
    → IsKnown own new
known_more {own} {more} {old} {new} {ty} known adds all =
    subst (AllByRecursion (λ t. t < length own.types)) (sym adds.functions) (all_both (λ t. t < length own.types) old.functions.items (ty ∷ []) all (known, tt))

-- A function that is there is of a type that is there.
pub known_at : (own : Scope) (tables : Tables) (f ty : ℕ) → IsKnown own tables → f < length tables.functions.items
    → ty ≡ get_or tables.functions.items f ty → ty < length own.types
known_at own tables f ty known below at = grind (arith, slice_get-get_or, all_at)

-- The scope of the component by itself stays, when the section has exports.
pub exports_scope : (config : Config) (outer : List Tree) (t : Tree) (es : List ExportEntry)
    → scope_in (marked_inner config outer (with_exports t es)) ≡ scope_of t
exports_scope config outer t es =
    scope_marked config (marked_in config outer) (with_exports t es) ∙ scope_bare t (exports es) (exports_keep (spaces_of t) es)

module _ (config : Config) (outer : List Tree) (t : Tree) (es : List ExportEntry) (own : Marked) (tables : Tables)
    (h : ExportsState config outer t es own tables) where
  abbrev now : Tree
  now = with_exports t es

  names_are : export_names (exports_of now) ≡ export_names (exports_of t ++ es)
  names_are = ap export_names (own-add exports_in t (exports es))

  -- What may be exported, if there is room.
  pub functions_there : has_room own false ≡ true → export_functions config outer t es ≡ functions_of now
  functions_there room = ap (λ b. if b then functions_of now else []) (ap (λ m. has_room m false) (sym h.scope_is) ∙ room)

  -- None may be if there is none, or no room.

  pub none_there : tables.functions.items ≡ [] → export_functions config outer t es ≡ []
  none_there none = by_room (has_room (marked_inner config outer now) false)
    where
      by_room : (b : Bool) → (if b then functions_of now else []) ≡ []
      by_room true = sym h.tabled.functions ∙ none
      by_room false = refl

  pub no_room : has_room own false ≡ false → export_functions config outer t es ≡ []
  no_room full = ap (λ b. if b then functions_of now else []) (ap (λ m. has_room m false) (sym h.scope_is) ∙ full)

  -- An export is read of what is there.
  pub export_is_read : has_room own false ≡ true → (n : ℕ) (b mid rest : List ℕ) (set : BTreeSet (String Global)) (x : Export)
      → n ≡ length tables.functions.items
      → Reads n b x.func_index mid
      → set ≡ tables.exports → ReadsUnique (ReadsKebab config.max_name_length) set mid (shown_export x).name rest
      → ReadsExport config outer t es b (shown_export x) rest (es ++ shown_export x ∷ [])
  export_is_read room n b mid rest set x count reads same (text, read, unique) = grind (arith, names_are, functions_there, new_among)

  -- It is a component function then.
  pub export_is_kept : (x : ExportEntry) (ty : ℕ) (mid new : Tables) (own2 : Marked) → own2 ≡ with_export own (to.Func ty)
      → slice_get tables.functions.items x.func ≡ Some ty → ty < length own.types
      → mid.functions.items ≡ tables.functions.items → mid.scalars.items ≡ tables.scalars.items → mid.core_functions.items ≡ tables.core_functions.items
      → mid.counted ≡ tables.counted → GainsName tables.exports mid.exports x.name → AddsFunction (scope_in own) 0 mid ty new
      → ExportsState config outer t (es ++ x ∷ []) own2 new
  export_is_kept x ty mid new own2 noted at known fs ss cs ns gains adds =
      let more : List ExportEntry = es ++ x ∷ [] in
      let next : Tree = with_exports t more in
      let behind = spaces_export t es x in
      let stands : slice_get (functions_of now) x.func ≡ Some ty = ap (λ xs. slice_get xs x.func) (sym h.tabled.functions) ∙ at in
      let one : functions_of next ≡ functions_of now ++ ty ∷ [] =
      ap (λ s. s.functions) behind ∙ ap (λ o. functions_of now ++ option_to_list o) stands in
      let scope = scope_bare t (exports more) (exports_keep (spaces_of t) more) in
      let plain : scope_in own ≡ scope_of t = ap (λ m. scope_in m) h.scope_is ∙ exports_scope config outer t es in
      let same : own.types ≡ types_of next = ap (λ (s : Scope). s.types) plain ∙ sym (ap (λ s. s.types) scope) in
      let marked : with_export own (to.Func ty) ≡ marked_inner config outer next =
      ap (λ m. with_export m (to.Func ty)) h.scope_is
      ∙ (ap (λ o. with_exports_entry (marked_inner config outer now) (map (λ i. to.Func i) (option_to_list o))) (sym stands)
      ∙ sym (exports_marked_more config outer t es x)) in
      let names : export_names (exports_of next) ≡ export_names (exports_of now) ++ x.name ∷ [] =
      ap export_names (own-add exports_in t (exports more)) ∙ (names_with_more (λ (e : ExportEntry). e.name) (exports_of t) es x
      ∙ ap (λ z. z ++ x.name ∷ []) (sym names_are)) in
      let held : Holds mid.exports (export_names (exports_of next)) = subst (Holds mid.exports) (sym names) (holds_more h.tabled.exports gains) in
      let count : function_count next ≡ function_count now + 0 = omega (arith, function_count-add t (exports more), function_count-add t (exports es)) in
      record {
        scope_is = noted ∙ marked;
        tabled =
            tabled_more tables new now next [] (ty ∷ []) [] h.tabled (same_more _ _ (ap (λ s. s.types) behind)) one
            (same_more _ _ (ap (λ s. s.core_functions) behind)) 0 count (omega (arith, adds.counted, ns))
            (subst (λ set. Holds set (export_names (exports_of next))) (sym adds.exports) held)
            (omega (arith, known, ap length same), tt) tt (adds.functions ∙ ap (λ z. z ++ ty ∷ []) fs)
            (same_more _ _ (adds.core_functions ∙ cs))
            (adds.scalars ∙ (ap (λ z. z ++ (if is_scalar_type own.types ty then length mid.functions.items ∷ [] else [])) ss
            ∙ (ap (λ z. tables.scalars.items ++ (if is_scalar_type own.types ty then length z ∷ [] else [])) fs
            ∙ ap (λ ts. tables.scalars.items ++ (if is_scalar_type ts ty then length tables.functions.items ∷ [] else [])) same)));
      }
