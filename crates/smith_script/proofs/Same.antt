-- What is said of what there is before each place is the script there.
use Rattle.std.proofs.Common.{◌≡◌, ℕ, ◌+◌, ◌-◌, List, [], ◌∷◌, ◌++◌, length, refl, ap, sym, ◌∙◌, arith, true, false}
use Rattle.std.proofs.lemmas.List.{length-map}
use Rattle.smith_input.specs.Script.{pick, script_among, script_loop, script_more}
use Rattle.smith_format.specs.declared.config.Config.{Config}
use Rattle.smith_syntax.specs.Marked.{scope_in}
use Rattle.smith_tree.specs.CoreTypeScript.{script_core}
use Rattle.smith_tree.specs.CanonScript.{script_canon}
use Rattle.smith_tree.specs.Functions.{functions_of}
use Rattle.smith_tree.specs.Offers.{with_exports}
use Rattle.smith_tree.proofs.Marking.{scope_marked, scopes_marked}
use Rattle.smith_tree.specs.Marking.{marked_in, marked_inner, with_core_entry, with_type_entry}
use Rattle.smith_tree.specs.Turns.{turn_items}
use Rattle.smith_tree.specs.Script.{script_export, script_import, script_item, script_part}
use Rattle.smith_tree.specs.Spaces.{after_canon as canon_behind, core_types_of, spaces_of, types_of}
use Rattle.smith_tree.specs.Tree.{Part, Tree, custom, core_module, core_types, component, types, canons, imports, exports, add, components_in}
use Rattle.smith_tree.specs.Tree.{exports_in, exports_of, function_count, imports_in, imports_of, parts_of}
use Rattle.smith_tree.specs.TypeScript.{script_extern, script_label, script_ref, script_type}
use Rattle.smith_tree.specs.contracts.choices.ItemPartialEq.TheImpl.{ghosts as equal}
use Rattle.smith_tree.specs.declared.choices.Item.{Item}
use Rattle.smith_component.proofs.Growth.{spaces-add, spaces_canon}
use Rattle.smith_component.proofs.Sound.{length-scopes_from}
use Rattle.smith_component.proofs.Tree.{length-own-add}
use Rattle.smith_script.specs.Saying.{canon_row_says, core_type_says, export_says, import_says, item_says, rows_say, section_says, type_says}
use Rattle.smith_script.specs.Preceding.{Known, Preceding, after_core_type, after_type, standing_at, totals_in}
use Rattle.smith_script.proofs.Grown.{Grows, canons_grow, core_types_grow, exports_grow, imports_grow, types_grow}
use Rattle.smith_syntax.specs.contracts.types.PrimitiveValTypePartialEq.TheImpl.{ghosts as prims}
use Rattle.smith_syntax.specs.declared.types.ComponentValType.TheVariants.{Primitive}
use Rattle.smith_syntax.specs.declared.types.PrimitiveValType.{PrimitiveValType}
use Rattle.smith_syntax.specs.declared.types.PrimitiveValType.TheVariants as prim
use Rattle.smith_tree.specs.TypeScript.{script_scalar}
use Rattle.smith_script.specs.Saying.{flat_like}

-- The choice of an item.
pub item_same : (config : Config) (outer : List Tree) (t : Tree) (chosen : Item)
    → item_says config (marked_in config outer) (length (parts_of t)) (standing_at config outer t) chosen ≡ script_item config outer t chosen
item_same config outer t chosen =
    ap (λ n. script_among equal.eq (turn_items config n (length (parts_of t)) (totals_in outer t)) chosen)
    (let e : length (marked_in config outer) ≡ length outer =
    omega (arith, ap length (scopes_marked config outer), length-map (marked_in config outer) scope_in, length-scopes_from outer []) in e)

-- A loop over what there is says the same as one over its own states, entry by entry.
module _ {A Z : Type 0} {after : Preceding → A → Preceding} {section : List A → Part} {config : Config} {outer : List Tree} {t : Tree}
    (g : Grows after section config outer t)
    (says : Preceding → A → List ℕ) (say : Z → A → List ℕ) (next : Z → A → Z) (state : List A → Z)
    (on : (xs : List A) (x : A) → next (state xs) x ≡ state (xs ++ x ∷ []))
    (same : (xs : List A) (x : A) → says (standing_at config outer (add t (section xs))) x ≡ say (state xs) x) where
  more_agree : (max done : ℕ) (xs ys : List A)
      → script_loop says after 0 max done (standing_at config outer (add t (section xs))) ys ≡ script_loop say next 0 max done (state xs) ys
  more_agree max done xs [] = refl
  more_agree max done xs (y ∷ ys) =
      let a = same xs y in
      let b = ap (λ s. script_loop says after 0 max (done + 1) s ys) (g.step xs y)
      ∙ (more_agree max (done + 1) (xs ++ y ∷ []) ys ∙ ap (λ z. script_loop say next 0 max (done + 1) z ys) (sym (on xs y))) in
      λ i. script_more 0 done ++ a i ++ b i

  rows_agree : (max : ℕ) (z : Z) (ys : List A) → z ≡ state [] → rows_say says after max (standing_at config outer t) ys ≡ script_loop say next 0 max 0 z ys
  rows_agree max z ys e =
      ap (λ s. rows_say says after max s ys) g.start ∙ (more_agree max 0 [] ys ∙ ap (λ w. script_loop say next 0 max 0 w ys) (sym e))

pub section_same : (p : Part) (config : Config) (outer : List Tree) (t : Tree) → components_in p ≡ [] → Known (spaces_of t)
    → section_says p config (marked_in config outer) (standing_at config outer t) ≡ script_part p config outer t
section_same (custom n c) config outer t none known = refl
section_same (core_module bs) config outer t none known = refl
section_same (core_types ts) config outer t none known =
    let g = core_types_grow config outer t in
    let own = marked_inner config outer t in
    ap (λ n. rows_say (core_type_says config (marked_in config outer)) (after_core_type (marked_in config outer)) (config.max_types - n)
    (standing_at config outer t) ts) (ap (λ s. length s.core_types) (scope_marked config (marked_in config outer) t))
    ∙ rows_agree g (core_type_says config (marked_in config outer)) (λ s x. script_core config (scope_in s) config.max_type_size x) with_core_entry
    (λ xs. marked_inner config outer (add t (core_types xs))) (λ xs x. ap (λ (s : Preceding). s.scope) (g.step xs x)) (λ xs x. refl)
    (config.max_types - length (core_types_of t)) own ts (ap (λ (s : Preceding). s.scope) g.start)
section_same (component u) config outer t none known = absurd (let z : (u ∷ []) ≡ [] = none in cc)
section_same (types ts) config outer t none known =
    let g = types_grow config outer t known in
    let own = marked_inner config outer t in
    ap (λ n. rows_say (type_says config (marked_in config outer)) (after_type (marked_in config outer)) (config.max_types - n) (standing_at config outer t) ts)
    (ap (λ s. length s.types) (scope_marked config (marked_in config outer) t))
    ∙ rows_agree g (type_says config (marked_in config outer)) (λ s e. script_type e config config.max_type_size s (marked_in config outer))
    (with_type_entry (marked_in config outer)) (λ xs. marked_inner config outer (add t (types xs))) (λ xs x. ap (λ (s : Preceding). s.scope) (g.step xs x))
    (λ xs x. refl) (config.max_types - length (types_of t)) own ts (ap (λ (s : Preceding). s.scope) g.start)
section_same (canons fs) config outer t none known =
    rows_agree (canons_grow config outer t) (canon_row_says config (marked_in config outer)) (script_canon config) canon_behind
    (λ xs. spaces_of (add t (canons xs)))
    (λ xs x. sym (spaces_canon t xs x)) (λ xs x. refl) (config.max_funcs - function_count t) (spaces_of t) fs (sym (spaces-add t (canons [])))
section_same (imports is) config outer t none known =
    rows_agree (imports_grow config outer t) (import_says config (marked_in config outer)) (script_import config (record { outer = outer; inner = t }))
    (λ z x. z ++ x ∷ []) (λ xs. xs) (λ xs x. refl) (λ xs x.
    ap (λ n. script_ref config (marked_inner config outer (add t (imports xs))) (totals_in outer (add t (imports xs))) true false x.to
    ++ script_extern config n x.name) (length-own-add imports_in t (imports xs)))
    (config.max_imports - length (imports_of t)) [] is refl
section_same (exports es) config outer t none known =
    rows_agree (exports_grow config outer t) (export_says config (marked_in config outer)) (script_export config t) (λ z x. z ++ x ∷ []) (λ xs. xs)
    (λ xs x. refl)
    (λ xs x. ap (λ n. pick (length (functions_of (with_exports t xs))) x.func ++ script_label config n x.name) (length-own-add exports_in t (exports xs)))
    (config.max_exports - length (exports_of t)) [] es refl

-- A primitive among the ones that flatten as it does.

pub scalar_same : (p : PrimitiveValType) → script_among prims.eq (flat_like p) p ≡ script_scalar (Primitive p)
unfolding pick
scalar_same prim.Bool = refl
scalar_same prim.S8 = refl
scalar_same prim.U8 = refl
scalar_same prim.S16 = refl
scalar_same prim.U16 = refl
scalar_same prim.S32 = refl
scalar_same prim.U32 = refl
scalar_same prim.S64 = refl
scalar_same prim.U64 = refl
scalar_same prim.F32 = refl
scalar_same prim.F64 = refl
scalar_same prim.Char = refl
scalar_same prim.String = refl
