-- What there is in a component, when one more part is there.
use Rattle.std.proofs.Common.{◌≡◌, ℕ, ◌+◌, List, [], ◌∷◌, ◌++◌, fold, length, refl, ap, sym, ◌∙◌, arith, append_assoc, append-nil, length-append}
use Rattle.std.proofs.lemmas.List.Sums.{fold-append}
use Rattle.std.specs.Option.{option_to_list}
use Rattle.std.specs.List.{flat_map}
use Rattle.std.specs.Prelude.{slice_get}
use Rattle.smith_format.specs.declared.config.Config.{Config}
use Rattle.smith_syntax.specs.Entries.{Entry, CoreEntry, ImportEntry}
use Rattle.smith_syntax.specs.Marked.{Marked}
use Rattle.smith_syntax.specs.declared.deftype.ComponentTypeRef.{ComponentTypeRef}
use Rattle.smith_tree.specs.declared.totals.RefTotals.{RefTotals}
use Rattle.smith_tree.proofs.Marking.{marked_add}
use Rattle.smith_tree.specs.Marking.{exported_reference, marked_after_part, marked_in, marked_inner, with_core_entry, with_export_entries, with_exports_entry}
use Rattle.smith_tree.specs.Marking.{with_import_entry, with_type_entry}
use Rattle.smith_tree.specs.Spaces.{Spaces, after_canon as canon_behind, after_export as export_behind, after_import as import_behind}
use Rattle.smith_tree.specs.Spaces.{after_part as part_behind, spaces_of}
use Rattle.smith_tree.specs.Tree.{Canon, ExportEntry, lift, lower, Tree, Part, ends, custom, core_module, core_types, component, types, canons}
use Rattle.smith_tree.specs.Tree.{imports, exports, add, anywhere_in, components_in, exports_in, exports_of, function_of, module_of, component_of, instance_of}
use Rattle.smith_tree.specs.Tree.{imported_components_in, imported_instances_in, imported_modules_in, imports_in, imports_of, modules_in}
use Rattle.smith_tree.specs.Tree.{component_count, instance_count, module_count}
use Rattle.smith_tree.specs.Open.{tree_so_far}
use Rattle.smith_component.proofs.Growth.{spaces-add}
use Rattle.smith_component.proofs.Sound.{component_count-so_far, instance_count-so_far, module_count-so_far}
use Rattle.smith_component.proofs.Tables.{flat_map_more}
use Rattle.smith_component.proofs.Tree.{function_count-add, functions_in, length-own-add, tree_so_far-close}
use Rattle.smith_script.specs.Preceding.{Known, Preceding, after_canon, after_core_type, after_export, after_import, after_section, after_type}
use Rattle.smith_script.specs.Preceding.{empty_in, opened, standing_at, stands, totals_in, with_function, with_function_of, with_functions, with_import}
use Rattle.smith_script.proofs.Known.{scalars_more, types_stay}

pub totals_are : (a b : RefTotals) → a.modules ≡ b.modules → a.funcs ≡ b.funcs → a.components ≡ b.components → a.instances ≡ b.instances → a ≡ b
totals_are a b m f c n = λ i. record { modules = m i; funcs = f i; components = c i; instances = n i }

-- what a part adds to the totals
abbrev counted : Part → RefTotals → RefTotals
counted p t = record {
  modules = t.modules + (length (anywhere_in modules_in p) + length (anywhere_in imported_modules_in p));
  funcs = t.funcs + functions_in p;
  components = t.components + (length (anywhere_in components_in p) + length (anywhere_in imported_components_in p));
  instances = t.instances + length (anywhere_in imported_instances_in p);
}

-- one more export
export_last : (xs : List ExportEntry) (x : ExportEntry) (s : Spaces) (own : Marked)
    → with_exports_entry (with_export_entries xs s own) (exported_reference (fold export_behind s xs).functions x) ≡ with_export_entries (xs ++ x ∷ []) s own
export_last [] x s own = refl
export_last (y ∷ xs) x s own = export_last xs x (export_behind s y) (with_exports_entry own (exported_reference s.functions y))

module _ (config : Config) (outer : List Tree) (t : Tree) where
  -- the same when a component is opened in the inner one
  pub opened_at : empty_in config.must_validate (opened (totals_in outer t)) ≡ standing_at config (outer ++ t ∷ []) ends
  opened_at =
      let close = sym (tree_so_far-close outer t ends) in
      let m : module_count (tree_so_far outer t) ≡ module_count (tree_so_far (outer ++ t ∷ []) ends) =
      omega (arith, module_count-so_far outer t (component ends), ap module_count close) in
      let c : component_count (tree_so_far outer t) + 1 ≡ component_count (tree_so_far (outer ++ t ∷ []) ends) =
      omega (arith, component_count-so_far outer t (component ends), ap component_count close) in
      let n : instance_count (tree_so_far outer t) ≡ instance_count (tree_so_far (outer ++ t ∷ []) ends) =
      omega (arith, instance_count-so_far outer t (component ends), ap instance_count close) in
      λ x. empty_in config.must_validate (record { modules = m x; funcs = 0; components = c x; instances = n x })

  -- and when it is closed
  pub closed_at : (u : Tree)
      → record (standing_at config outer t) { totals = record (totals_in (outer ++ t ∷ []) u) { funcs = (totals_in outer t).funcs } }
      ≡ standing_at config outer (add t (component u))
  closed_at u =
      let close = tree_so_far-close outer t u in
      let s = sym (spaces-add t (component u)) in
      let m = sym (marked_add config (marked_in config outer) t (component u)) in
      let i : length (imports_of t) ≡ length (imports_of (add t (component u))) = omega (arith, length-own-add imports_in t (component u)) in
      let e : length (exports_of t) ≡ length (exports_of (add t (component u))) = omega (arith, length-own-add exports_in t (component u)) in
      let f : (totals_in outer t).funcs ≡ (totals_in outer (add t (component u))).funcs = omega (arith, function_count-add t (component u)) in
      let v = totals_are (record (totals_in (outer ++ t ∷ []) u) { funcs = (totals_in outer t).funcs }) (totals_in outer (add t (component u)))
      (ap module_count close) f (ap component_count close) (ap instance_count close) in
      λ x. stands (m x) (s x) (i x) (e x) (v x)

none_more : (n : ℕ) → n ≡ n + 0
none_more n = omega arith

length_more : (xs : List ImportEntry) (x : ImportEntry) (of : ComponentTypeRef → List ℕ)
    → length (flat_map (λ (i : ImportEntry). of i.to) (xs ++ x ∷ [])) ≡ length (flat_map (λ (i : ImportEntry). of i.to) xs) + length (of x.to)
length_more xs x of =
    ap length (flat_map_more (λ (i : ImportEntry). of i.to) xs x) ∙ length-append (flat_map (λ (i : ImportEntry). of i.to) xs) (of x.to)

-- component functions
function_grows : (ty : ℕ) (own : Marked) (sp : Spaces) (i e : ℕ) (t : RefTotals)
    → with_function_of (stands own sp i e t) ty ≡ stands own (record sp { functions = sp.functions ++ ty ∷ [] }) i e t
function_grows ty own sp i e t =
    let a = scalars_more sp.types sp.functions ty in λ x. record (stands own (record sp { functions = sp.functions ++ ty ∷ [] }) i e t) { scalars = a x }

functions_grow : (tys : List ℕ) (own : Marked) (sp : Spaces) (i e : ℕ) (t : RefTotals)
    → with_functions (stands own sp i e t) tys ≡ stands own (record sp { functions = sp.functions ++ tys }) i e t
functions_grow [] own sp i e t = let a = sym (append-nil sp.functions) in λ x. stands own (record sp { functions = a x }) i e t
functions_grow (ty ∷ tys) own sp i e t =
    let a = append_assoc sp.functions (ty ∷ []) tys in
    ap (λ s. with_functions s tys) (function_grows ty own sp i e t)
    ∙ (functions_grow tys own (record sp { functions = sp.functions ++ ty ∷ [] }) i e t ∙ (λ x. stands own (record sp { functions = a x }) i e t))

-- the same with another scope and other counts
abbrev counting : Preceding → Marked → ℕ → ℕ → RefTotals → Preceding
counting s own i e t = record s { scope = own; imports = i; exports = e; totals = t }

canon_grows : (around : List Marked) (c : Canon) (own : Marked) (sp : Spaces) (i e : ℕ) (t : RefTotals)
    → after_canon around (stands own sp i e t) c ≡ stands own (canon_behind sp c) i e (with_function t)
canon_grows around (lift c ty) own sp i e t = ap (λ (s : Preceding). counting s s.scope s.imports s.exports (with_function t)) (function_grows ty own sp i e t)
canon_grows around (lower f) own sp i e t = refl

-- How a section grows, entry by entry: what there is when it has none, and one more.
pub record Grows {A : Type 0} (after : Preceding → A → Preceding) (section : List A → Part) (config : Config) (outer : List Tree) (t : Tree) : Type 0 where
  pub start : standing_at config outer t ≡ standing_at config outer (add t (section []))
  pub step : (xs : List A) (x : A) → after (standing_at config outer (add t (section xs))) x ≡ standing_at config outer (add t (section (xs ++ x ∷ [])))

module _ (config : Config) (outer : List Tree) (t : Tree) where
  abbrev around : List Marked
  around = marked_in config outer

  abbrev own : Marked
  own = marked_inner config outer t

  abbrev sp : Spaces
  sp = spaces_of t

  abbrev i : ℕ
  i = length (imports_of t)

  abbrev e : ℕ
  e = length (exports_of t)

  abbrev u : RefTotals
  u = totals_in outer t

  -- what there is with one more part
  abbrev with : Part → Preceding
  with p = stands (marked_after_part p sp around own) (part_behind sp p) (i + length (imports_in p)) (e + length (exports_in p)) (counted p u)

  with_at : (p : Part) → with p ≡ standing_at config outer (add t p)
  with_at p =
      let a = sym (spaces-add t p) in
      let b = sym (length-own-add imports_in t p) in
      let c = sym (length-own-add exports_in t p) in
      let d = totals_are (counted p u) (totals_in outer (add t p)) (sym (module_count-so_far outer t p)) (sym (function_count-add t p))
      (sym (component_count-so_far outer t p)) (sym (instance_count-so_far outer t p)) in
      let m = sym (marked_add config around t p) in
      λ j. stands (m j) (a j) (b j) (c j) (d j)

  -- a part that leaves all as it is, except for these totals
  settled : (p : Part) → own ≡ marked_after_part p sp around own → sp ≡ part_behind sp p
      → length (imports_in p) ≡ 0 → length (exports_in p) ≡ 0 → (v : RefTotals) → v ≡ counted p u
      → stands own sp i e v ≡ standing_at config outer (add t p)
  settled p m s a b v d =
      let x : i ≡ i + length (imports_in p) = omega (arith, a) in
      let y : e ≡ e + length (exports_in p) = omega (arith, b) in
      (λ j. stands (m j) (s j) (x j) (y j) (d j)) ∙ with_at p

  -- and for no totals either
  bare : (p : Part) → own ≡ marked_after_part p sp around own → sp ≡ part_behind sp p → length (imports_in p) ≡ 0 → length (exports_in p) ≡ 0
      → counted p u ≡ record { modules = u.modules + 0; funcs = u.funcs + 0; components = u.components + 0; instances = u.instances + 0 }
      → standing_at config outer t ≡ standing_at config outer (add t p)
  bare p m s a b c =
      settled p m s a b u
      (totals_are u (record { modules = u.modules + 0; funcs = u.funcs + 0; components = u.components + 0; instances = u.instances + 0 }) (none_more u.modules)
      (none_more u.funcs) (none_more u.components) (none_more u.instances) ∙ sym c)

  step_by : {A : Type 0} (after : Preceding → A → Preceding) (section : List A → Part) (xs : List A) (x : A)
      → after (with (section xs)) x ≡ with (section (xs ++ x ∷ []))
      → after (standing_at config outer (add t (section xs))) x ≡ standing_at config outer (add t (section (xs ++ x ∷ [])))
  step_by after section xs x more = ap (λ s. after s x) (sym (with_at (section xs))) ∙ (more ∙ with_at (section (xs ++ x ∷ [])))

  pub core_types_grow : Grows (after_core_type around) core_types config outer t
  core_types_grow = record {
    start = let a = sym (append-nil sp.core_types) in bare (core_types []) refl (λ j. record sp { core_types = a j }) refl refl refl;
    step = λ xs x.
        let a = append_assoc sp.core_types xs (x ∷ []) in
        let f = sym (fold-append with_core_entry own xs (x ∷ [])) in
        step_by (after_core_type around) core_types xs x (λ j. stands (f j) (record sp { core_types = a j }) (i + 0) (e + 0) (counted (core_types xs) u));
  }

  pub types_grow : Known sp → Grows (after_type around) types config outer t
  types_grow known = record {
    start = let a = sym (append-nil sp.types) in bare (types []) refl (λ j. record sp { types = a j }) refl refl refl;
    step = λ xs x.
        let a = append_assoc sp.types xs (x ∷ []) in
        let b = sym (types_stay sp xs known) ∙ types_stay sp (xs ++ x ∷ []) known in
        let f = sym (fold-append (with_type_entry around) own xs (x ∷ [])) in
        step_by (after_type around) types xs x
        (λ j. record (stands (f j) (record sp { types = a j }) (i + 0) (e + 0) (counted (types xs) u)) { scalars = b j });
  }

  pub canons_grow : Grows (after_canon around) canons config outer t
  canons_grow = record {
    start = bare (canons []) refl refl refl refl refl;
    step = λ xs x.
        let a = sym (fold-append canon_behind sp xs (x ∷ [])) in
        let f : u.funcs + functions_in (canons xs) + 1 ≡ u.funcs + functions_in (canons (xs ++ x ∷ [])) = omega (arith, length-append xs (x ∷ [])) in
        step_by (after_canon around) canons xs x
        (canon_grows around x own (fold canon_behind sp xs) (i + 0) (e + 0) (counted (canons xs) u)
        ∙ (λ j. stands own (a j) (i + 0) (e + 0) (record (counted (canons xs) u) { funcs = f j })));
  }

  pub imports_grow : Grows (after_import around) imports config outer t
  imports_grow = record {
    start = bare (imports []) refl refl refl refl refl;
    step = λ xs x.
        let a = sym (fold-append import_behind sp xs (x ∷ [])) in
        let n : i + length xs + 1 ≡ i + length (xs ++ x ∷ []) = omega (arith, length-append xs (x ∷ [])) in
        let v = totals_are (with_import (counted (imports xs) u) x.to) (counted (imports (xs ++ x ∷ [])) u) (omega (arith, length_more xs x module_of))
        (omega (arith, length_more xs x function_of)) (omega (arith, length_more xs x component_of)) (omega (arith, length_more xs x instance_of)) in
        let o : Marked = fold with_import_entry own xs in
        let f = sym (fold-append with_import_entry own xs (x ∷ [])) in
        step_by (after_import around) imports xs x
        (ap (λ (s : Preceding). counting s (with_import_entry o x) (i + length xs + 1) s.exports (with_import (counted (imports xs) u) x.to))
        (functions_grow (function_of x.to) o (fold import_behind sp xs) (i + length xs) (e + 0) (counted (imports xs) u))
        ∙ (λ j. stands (f j) (a j) (n j) (e + 0) (v j)));
  }

  pub exports_grow : Grows (after_export around) exports config outer t
  exports_grow = record {
    start = bare (exports []) refl refl refl refl refl;
    step = λ xs x.
        let a = sym (fold-append export_behind sp xs (x ∷ [])) in
        let n : e + length xs + 1 ≡ e + length (xs ++ x ∷ []) = omega (arith, length-append xs (x ∷ [])) in
        let s : Spaces = fold export_behind sp xs in
        let o : Marked = with_export_entries xs sp own in
        let f = export_last xs x sp own in
        step_by (after_export around) exports xs x
        (ap (λ (z : Preceding). counting z (with_exports_entry o (exported_reference s.functions x)) z.imports (e + length xs + 1) z.totals)
        (functions_grow (option_to_list (slice_get s.functions x.func)) o s (i + 0) (e + length xs) (counted (exports xs) u))
        ∙ (λ j. stands (f j) (a j) (i + 0) (n j) (counted (exports xs) u)));
  }

  module _ {A : Type 0} {after : Preceding → A → Preceding} {section : List A → Part} (g : Grows after section config outer t) where
    all_grow : (xs ys : List A) → fold after (standing_at config outer (add t (section xs))) ys ≡ standing_at config outer (add t (section (xs ++ ys)))
    all_grow xs [] = ap (λ zs. standing_at config outer (add t (section zs))) (sym (append-nil xs))
    all_grow xs (y ∷ ys) =
        ap (λ s. fold after s ys) (g.step xs y)
        ∙ (all_grow (xs ++ y ∷ []) ys ∙ ap (λ zs. standing_at config outer (add t (section zs))) (append_assoc xs (y ∷ []) ys))

    section_grown : (ys : List A) → fold after (standing_at config outer t) ys ≡ standing_at config outer (add t (section ys))
    section_grown ys = ap (λ s. fold after s ys) g.start ∙ all_grow [] ys

  -- what there is after a section, if the types of the component functions are there
  pub section_at : (p : Part) → components_in p ≡ [] → Known (spaces_of t)
      → after_section around p (standing_at config outer t) ≡ standing_at config outer (add t p)
  section_at (custom n c) none known = bare (custom n c) refl refl refl refl refl
  section_at (core_module bs) none known =
      settled (core_module bs) refl refl refl refl (record u { modules = u.modules + 1 })
      (totals_are (record u { modules = u.modules + 1 }) (counted (core_module bs) u) refl (none_more u.funcs) (none_more u.components) (none_more u.instances))
  section_at (core_types ts) none known = section_grown core_types_grow ts
  section_at (component v) none known = absurd (let z : (v ∷ []) ≡ [] = none in cc)
  section_at (types ts) none known = section_grown (types_grow known) ts
  section_at (canons fs) none known = section_grown canons_grow fs
  section_at (imports is) none known = section_grown imports_grow is
  section_at (exports es) none known = section_grown exports_grow es
