-- A component is judged step by step as it is judged part by part.
use Rattle.std.proofs.Common.{◌≡◌, ◌↔◌, ℕ, ◌+◌, List, [], ◌∷◌, ◌++◌, refl, sym, subst, arith, append_assoc}
use Rattle.smith_tree.specs.Demands.{Demands}
use Rattle.smith_tree.specs.Facts.{FactScope}
use Rattle.smith_tree.specs.Tree.{Part, Tree, canons, component, core_module, core_types, custom, ends, exports, first, imports, types}
use Rattle.smith_read.specs.Items.{upto}
use Rattle.smith_read.specs.Walk.{Step, closes, entry_steps, marks, one, opens, steps_in, steps_of}
use Rattle.smith_check.proofs.Items.{Ends, counted, taken, taken_ends, tree_cut}
use Rattle.smith_validate.specs.Parts.{after_section}
use Rattle.smith_validate.specs.Steps.{At}
use Rattle.smith_validate.specs.Stepping.{Fits, Judgement, State, next, root, scopes_of, start, usual, valid, with_nested}
use Rattle.smith_validate.proofs.Sections.{AreByEntry, canons_by_entry, core_types_by_entry, exports_by_entry, imports_by_entry, types_by_entry}

-- A component is judged part by part, and a part that is a list entry by entry.
pub record IsJudgement (j : Judgement) : Type 1 where
  pub none : (at : At) (outer : List FactScope) → j.tree ends at outer
  pub more : (p : Part) (t : Tree) (at : At) (outer : List FactScope)
      → j.tree (first p t) at outer ↔ (j.part p at outer × j.tree t (after_section p at outer) outer)
  pub nested : (t : Tree) (at : At) (outer : List FactScope) → j.part (component t) at outer ↔ (j.begins at × j.tree t start (at.1.own ∷ outer))
  pub no_entry : {A : Type 0} (section : List A → Part) → AreByEntry section → (at : At) (outer : List FactScope) → j.part (section []) at outer
  pub entry : {A : Type 0} (section : List A → Part) → AreByEntry section → (x : A) (xs : List A) (at : At) (outer : List FactScope)
      → j.part (section (x ∷ xs)) at outer ↔ (j.part (section (x ∷ [])) at outer × j.part (section xs) (after_section (section (x ∷ [])) at outer) outer)

pub valid_is : (d : Demands) → IsJudgement (valid d)
valid_is d = record {
  none = λ at outer. tt;
  more = λ p t at outer. (λ q. q, λ q. q);
  nested = λ t at outer. (λ q. q, λ q. q);
  no_entry = λ section by at outer. by.valid_none d at outer;
  entry = λ section by x xs at outer. by.valid_more d x xs at outer;
}

pub usual_is : IsJudgement usual
usual_is = record {
  none = λ at outer. tt;
  more = λ p t at outer. (λ q. q, λ q. q);
  nested = λ t at outer. (λ q. (tt, q), λ q. q.1);
  no_entry = λ section by at outer. by.usual_none at outer;
  entry = λ section by x xs at outer. by.usual_more x xs at outer;
}

abbrev pub AllFit : Judgement → List Step → State → Type 0
AllFit j [] at = Unit {0}
AllFit j (x ∷ xs) at = Fits j x at × AllFit j xs (next x at)

abbrev state : At → List At → State
state at around = record { here = at; around = around }

-- what there is after a component
abbrev after_all : Tree → At → List FactScope → At
after_all ends at outer = at
after_all (first p t) at outer = after_all t (after_section p at outer) outer

module _ (j : Judgement) (is : IsJudgement j) where
  -- the same steps after the same
  moved : (rest : List Step) (around : List At) {s t : At} → s ≡ t → AllFit j rest (state s around) → AllFit j rest (state t around)
  moved rest around e f = subst (λ s. AllFit j rest (state s around)) e f

  module _ {A : Type 0} (section : List A → Part) (by : AreByEntry section) (around : List At) (rest : List Step) where
    entries_fit : (xs : List A) (at : At)
        → (j.part (section xs) at (scopes_of around) × AllFit j rest (state (after_section (section xs) at (scopes_of around)) around))
        ↔ AllFit j (entry_steps section xs ++ rest) (state at around)
    entries_fit [] at =
        let same = by.after_none at (scopes_of around) in
        (λ f. (tt, moved rest around same f.1), λ f. (is.no_entry section by at (scopes_of around), moved rest around (sym same) f.1))
    entries_fit (x ∷ xs) at =
        let outer = scopes_of around in
        let more = is.entry section by x xs at outer in
        let left = entries_fit xs (after_section (section (x ∷ [])) at outer) in
        let same = by.after_more x xs at outer in (
          λ f. let g = more.0 f.0 in (g.0, left.0 (g.1, moved rest around same f.1)),
          λ f. let g = left.1 f.1 in (more.1 (f.0, g.0), moved rest around (sym same) g.1),
        )

    list_fits : (xs : List A) (at : At)
        → (j.part (section xs) at (scopes_of around) × AllFit j rest (state (after_section (section xs) at (scopes_of around)) around))
        ↔ AllFit j ((marks ∷ entry_steps section xs) ++ rest) (state at around)
    list_fits xs at = (λ f. (tt, (entries_fit xs at).0 f), λ f. (entries_fit xs at).1 f.1)

  steps_assoc : (xs ys zs : List Step) (at : State) → AllFit j (xs ++ (ys ++ zs)) at ↔ AllFit j ((xs ++ ys) ++ zs) at
  steps_assoc xs ys zs at = (
    λ f. subst (λ l. AllFit j l at) (sym (append_assoc xs ys zs)) f,
    λ f. subst (λ l. AllFit j l at) (append_assoc xs ys zs) f,
  )

  mutual
    part_fits : (p : Part) (rest : List Step) (at : At) (around : List At)
        → (j.part p at (scopes_of around) × AllFit j rest (state (after_section p at (scopes_of around)) around))
        ↔ AllFit j (steps_in p ++ rest) (state at around)
    part_fits (custom n c) rest at around = (λ f. f, λ f. f)
    part_fits (core_module m) rest at around = (λ f. f, λ f. f)
    part_fits (core_types ts) rest at around = list_fits core_types core_types_by_entry around rest ts at
    part_fits (component t) rest at around =
        let nested = is.nested t at (scopes_of around) in
        let inner = tree_fits t (closes ∷ rest) start (with_nested at ∷ around) in
        let row = steps_assoc (steps_of t) (closes ∷ []) rest (state start (with_nested at ∷ around)) in (
          λ f. let n = nested.0 f.0 in (n.0, row.0 (inner.0 (n.1, (tt, f.1)))),
          λ f. let g = inner.1 (row.1 f.1) in (nested.1 (f.0, g.0), g.1.1),
        )
    part_fits (types ts) rest at around = list_fits types types_by_entry around rest ts at
    part_fits (canons fs) rest at around = list_fits canons canons_by_entry around rest fs at
    part_fits (imports rs) rest at around = list_fits imports imports_by_entry around rest rs at
    part_fits (exports es) rest at around = list_fits exports exports_by_entry around rest es at

    tree_fits : (t : Tree) (rest : List Step) (at : At) (around : List At)
        → (j.tree t at (scopes_of around) × AllFit j rest (state (after_all t at (scopes_of around)) around))
        ↔ AllFit j (steps_of t ++ rest) (state at around)
    tree_fits ends rest at around = (λ f. f.1, λ f. (is.none at (scopes_of around), f))
    tree_fits (first p t) rest at around =
        let outer = scopes_of around in
        let more = is.more p t at outer in
        let part = part_fits p (steps_of t ++ rest) at around in
        let left = tree_fits t rest (after_section p at outer) around in
        let row = steps_assoc (steps_in p) (steps_of t) rest (state at around) in (
          λ f. let m = more.0 f.0 in row.0 (part.0 (m.0, left.0 (m.1, f.1))),
          λ f. let g = part.1 (row.1 f) in let h = left.1 g.1 in (more.1 (g.0, h.0), h.1),
        )

  -- the whole
  pub whole_fits : (t : Tree) → j.tree t start [] ↔ AllFit j (steps_of t ++ closes ∷ []) root
  whole_fits t = let s = tree_fits t (closes ∷ []) start [] in (λ w. s.0 (w, (tt, tt)), λ f. (s.1 f).0)

  -- ---- as many items

  none_fit : (xs : List Step) (at : State) → counted xs ≡ 0 → AllFit j xs at
  none_fit [] at e = tt
  none_fit (one p ∷ xs) at e = absurd (omega (arith, e))
  none_fit (opens ∷ xs) at e = absurd (omega (arith, e))
  none_fit (closes ∷ xs) at e = (tt, none_fit xs (next closes at) (omega (arith, e)))
  none_fit (marks ∷ xs) at e = (tt, none_fit xs at (omega (arith, e)))

  rest_fit : (xs ys : List Step) (at : State) → counted ys ≡ 0 → AllFit j (xs ++ ys) at ↔ AllFit j xs at
  rest_fit [] ys at e = (λ f. tt, λ f. none_fit ys at e)
  rest_fit (x ∷ xs) ys at e = let s = rest_fit xs ys (next x at) e in (λ f. (f.0, s.0 f.1), λ f. (f.0, s.1 f.1))

  ends_fit : {xs ys : List Step} (at : State) → Ends xs ys → AllFit j ys at ↔ AllFit j xs at
  ends_fit {xs} {ys} at e =
      let s = rest_fit xs e.rest at e.none in
      (λ f. s.0 (subst (λ l. AllFit j l at) e.is f), λ f. subst (λ l. AllFit j l at) (sym e.is) (s.1 f))

  pub items_fit : (n : ℕ) (t : Tree) → j.tree (upto n t) start [] ↔ AllFit j (taken n (steps_of t ++ closes ∷ [])) root
  items_fit n t =
      let whole = whole_fits (upto n t) in
      let closed = rest_fit (steps_of (upto n t)) (closes ∷ []) root refl in
      let cut = ends_fit root (tree_cut n t) in
      let more = ends_fit root (taken_ends n (steps_of t) (closes ∷ []) refl) in
      (λ w. more.1 (cut.0 (closed.0 (whole.0 w))), λ f. whole.1 (closed.1 (cut.1 (more.0 f))))
