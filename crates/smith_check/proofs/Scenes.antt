-- A component is judged step by step as it is judged part by part.
use Rattle.std.proofs.Common.{◌≡◌, ◌<◌, ℕ, List, [], ◌∷◌, ◌++◌, map, refl, sym, ap, ◌∙◌, subst, append-nil, append_assoc}
use Rattle.std.proofs.lemmas.List.{map-append}
use Rattle.std.specs.List.{IsDistinct}
use Rattle.smith_syntax.specs.Entries.{ImportEntry}
use Rattle.smith_syntax.specs.Scope.{Scope}
use Rattle.smith_syntax.specs.WellFormed.{Named}
use Rattle.smith_tree.specs.Spaces.{Spaces, spaces_of}
use Rattle.smith_tree.specs.Tree.{ExportEntry, Part, Tree, add, canons, component, core_module, core_types, custom, ends, exports, first, imports, types}
use Rattle.smith_tree.specs.Tree.{exports_in, exports_of, imports_in, imports_of}
use Rattle.smith_tree.specs.WellFormed.{Formed, FormedPart, export_names, import_names}
use Rattle.smith_tree.proofs.Components.{spaces_added}
use Rattle.smith_read.specs.Walk.{Step, closes, entry_steps, marks, steps_in, steps_of}
use Rattle.smith_check.specs.Preceding.{Scene, empty_scene, scope_at}
use Rattle.smith_check.specs.Stepping.{Fits, FormedAt, State, after, next}
use Rattle.smith_check.proofs.Growth.{own-add}
use Rattle.smith_check.proofs.Judging.{Same, same_all, same_trans}
use Rattle.smith_check.proofs.NameSteps.{named_less, named_more, none_more}
use Rattle.smith_check.proofs.TypeSteps.{named_front}

-- ---- what precedes a place

abbrev scene : Spaces → List (List ℕ) → List (List ℕ) → Scene
scene s i e = record { spaces = s; imports = i; exports = e }

abbrev pub scene_of : Tree → Scene
scene_of t = scene (spaces_of t) (import_names (imports_of t)) (export_names (exports_of t))

scene_by : {s t : Spaces} {i j e f : List (List ℕ)} → s ≡ t → i ≡ j → e ≡ f → scene s i e ≡ scene t j f
scene_by {s} {t} {i} {j} {e} {f} p q r = ap (λ x. scene x i e) p ∙ ap (λ x. scene t x e) q ∙ ap (λ x. scene t j x) r

import_names-add : (t : Tree) (p : Part) → import_names (imports_of (add t p)) ≡ import_names (imports_of t) ++ import_names (imports_in p)
import_names-add t p = ap import_names (own-add imports_in t p) ∙ map-append (λ i. i.name) (imports_of t) (imports_in p)

export_names-add : (t : Tree) (p : Part) → export_names (exports_of (add t p)) ≡ export_names (exports_of t) ++ export_names (exports_in p)
export_names-add t p = ap export_names (own-add exports_in t p) ∙ map-append (λ e. e.name) (exports_of t) (exports_in p)

-- with one more part, which imports and exports nothing
scene_plain : (t : Tree) (p : Part) → imports_in p ≡ [] → exports_in p ≡ []
    → scene_of (add t p) ≡ scene (spaces_of (add t p)) (import_names (imports_of t)) (export_names (exports_of t))
scene_plain t p i e =
    scene_by refl
    (import_names-add t p ∙ ap (λ is. import_names (imports_of t) ++ import_names is) i ∙ append-nil (import_names (imports_of t)))
    (export_names-add t p ∙ ap (λ es. export_names (exports_of t) ++ export_names es) e ∙ append-nil (export_names (exports_of t)))

scene_add : (t : Tree) (p : Part) → scene_of (add t p) ≡ after (scene_of t) p
scene_add t (custom n c) = scene_plain t (custom n c) refl refl ∙ scene_by (spaces_added t (custom n c)) refl refl
scene_add t (core_module m) = scene_plain t (core_module m) refl refl ∙ scene_by (spaces_added t (core_module m)) refl refl
scene_add t (core_types ts) = scene_plain t (core_types ts) refl refl ∙ scene_by (spaces_added t (core_types ts)) refl refl
scene_add t (component u) = scene_plain t (component u) refl refl ∙ scene_by (spaces_added t (component u)) refl refl
scene_add t (types ts) = scene_plain t (types ts) refl refl ∙ scene_by (spaces_added t (types ts)) refl refl
scene_add t (canons fs) = scene_plain t (canons fs) refl refl ∙ scene_by (spaces_added t (canons fs)) refl refl
scene_add t (imports is) =
    scene_by (spaces_added t (imports is)) (import_names-add t (imports is)) (export_names-add t (imports is) ∙ append-nil (export_names (exports_of t)))
scene_add t (exports es) =
    scene_by (spaces_added t (exports es)) (import_names-add t (exports es) ∙ append-nil (import_names (imports_of t))) (export_names-add t (exports es))

same_part : (p : Part) (outer : List Scope) (t : Tree) → Same (FormedPart p outer t) (FormedAt p outer (scene_of t))
same_part (imports is) outer t =
    let e = map-append (λ (i : ImportEntry). i.name) (imports_of t) is in
    record { to = λ f. (f.0, subst Named e f.1); from = λ f. (f.0, subst Named (sym e) f.1) }
same_part (exports es) outer t =
    let e = map-append (λ (x : ExportEntry). x.name) (exports_of t) es in
    record { to = λ f. (f.0, subst Named e f.1); from = λ f. (f.0, subst Named (sym e) f.1) }
same_part _ outer t = same_all

-- names that are in kebab case, no two of them the same
pub record IsNamed (s : Scene) : Type 0 where
  pub imports : Named s.imports
  pub exports : Named s.exports

pub named_first : IsNamed empty_scene
unfolding IsDistinct
named_first = record { imports = (tt, tt); exports = (tt, tt) }

named_after : (p : Part) (outer : List Scope) (s : Scene) → IsNamed s → FormedAt p outer s → IsNamed (after s p)
named_after (core_types ts) outer s k f = record { imports = k.imports; exports = k.exports }
named_after (types ts) outer s k f = record { imports = k.imports; exports = k.exports }
named_after (canons fs) outer s k f = record { imports = k.imports; exports = k.exports }
named_after (imports is) outer s k f = record { imports = f.1; exports = k.exports }
named_after (exports es) outer s k f = record { imports = k.imports; exports = f.1 }
named_after _ outer s k f = k

-- ---- sections entry by entry

record IsRow {A : Type 0} (section : List A → Part) : Type 0 where
  none : (outer : List Scope) (s : Scene) → IsNamed s → FormedAt (section []) outer s
  none_after : (s : Scene) → after s (section []) ≡ s
  more : (outer : List Scope) (s : Scene) (x : A) (xs : List A)
      → Same (FormedAt (section (x ∷ xs)) outer s) (FormedAt (section (x ∷ [])) outer s × FormedAt (section xs) outer (after s (section (x ∷ []))))
  more_after : (s : Scene) (x : A) (xs : List A) → after s (section (x ∷ xs)) ≡ after (after s (section (x ∷ []))) (section xs)

core_type_row : IsRow core_types
core_type_row = record {
  none = λ outer s k. tt;
  none_after = λ s. ap (λ l. record s { spaces = record s.spaces { core_types = l } }) (append-nil s.spaces.core_types);
  more = λ outer s x xs. record { to = λ f. ((f.0, tt), f.1); from = λ f. (f.0.0, f.1) };
  more_after = λ s x xs. ap (λ l. record s { spaces = record s.spaces { core_types = l } }) (sym (append_assoc s.spaces.core_types (x ∷ []) xs));
}

type_row : IsRow types
type_row = record {
  none = λ outer s k. tt;
  none_after = λ s. ap (λ l. record s { spaces = record s.spaces { types = l } }) (append-nil s.spaces.types);
  more = λ outer s x xs. record { to = λ f. ((f.0, tt), f.1); from = λ f. (f.0.0, f.1) };
  more_after = λ s x xs. ap (λ l. record s { spaces = record s.spaces { types = l } }) (sym (append_assoc s.spaces.types (x ∷ []) xs));
}

canon_row : IsRow canons
canon_row = record {
  none = λ outer s k. tt;
  none_after = λ s. refl;
  more = λ outer s x xs. record { to = λ f. ((f.0, tt), f.1); from = λ f. (f.0.0, f.1) };
  more_after = λ s x xs. refl;
}

import_row : IsRow imports
import_row = record {
  none = λ outer s k. (tt, none_more s.imports k.imports);
  none_after = λ s. ap (λ l. record s { imports = l }) (append-nil s.imports);
  more = λ outer s x xs. record {
    to = λ f.
        let n = named_less s.imports x.name (import_names xs) f.1 in
        (((f.0.0, tt), named_front (s.imports ++ x.name ∷ []) (import_names xs) n), (f.0.1, n));
    from = λ f. ((f.0.0.0, f.1.0), named_more s.imports x.name (import_names xs) f.1.1);
  };
  more_after = λ s x xs. scene_by refl (sym (append_assoc s.imports (x.name ∷ []) (import_names xs))) refl;
}

export_row : IsRow exports
export_row = record {
  none = λ outer s k. (tt, none_more s.exports k.exports);
  none_after = λ s. ap (λ l. record s { exports = l }) (append-nil s.exports);
  more = λ outer s x xs. record {
    to = λ f.
        let n = named_less s.exports x.name (export_names xs) f.1 in
        (((f.0.0, tt), named_front (s.exports ++ x.name ∷ []) (export_names xs) n), (f.0.1, n));
    from = λ f. ((f.0.0.0, f.1.0), named_more s.exports x.name (export_names xs) f.1.1);
  };
  more_after = λ s x xs. scene_by refl refl (sym (append_assoc s.exports (x.name ∷ []) (export_names xs)));
}

-- ---- steps in a row

abbrev pub AllFit : List Step → State → Type 0
AllFit [] at = Unit {0}
AllFit (x ∷ xs) at = Fits x at × AllFit xs (next x at)

abbrev pub state : Scene → List Scene → State
state s around = record { here = s; around = around }

-- the same steps after the same scene
moved : (rest : List Step) (around : List Scene) {s t : Scene} → s ≡ t → AllFit rest (state s around) → AllFit rest (state t around)
moved rest around e f = subst (λ s. AllFit rest (state s around)) e f

module _ {A : Type 0} (section : List A → Part) (row : IsRow section) (around : List Scene) (rest : List Step) where
  entries_fit : (xs : List A) (s : Scene) → IsNamed s
      → Same (FormedAt (section xs) (map scope_at around) s × AllFit rest (state (after s (section xs)) around))
      (AllFit (entry_steps section xs ++ rest) (state s around))
  entries_fit [] s k = record {
    to = λ f. (tt, moved rest around (row.none_after s) f.1);
    from = λ f. (row.none (map scope_at around) s k, moved rest around (sym (row.none_after s)) f.1);
  }
  entries_fit (x ∷ xs) s k =
      let more = row.more (map scope_at around) s x xs in
      let then = after s (section (x ∷ [])) in
      let left = λ (f : FormedAt (section (x ∷ [])) (map scope_at around) s).
      entries_fit xs then (named_after (section (x ∷ [])) (map scope_at around) s k f) in
      record {
        to = λ f. let g = more.to f.0 in (g.0, (left g.0).to (g.1, moved rest around (row.more_after s x xs) f.1));
        from = λ f. let g = (left f.0).from f.1 in (more.from (f.0, g.0), moved rest around (sym (row.more_after s x xs)) g.1);
      }

  list_fits : (xs : List A) (s : Scene) → IsNamed s
      → Same (FormedAt (section xs) (map scope_at around) s × AllFit rest (state (after s (section xs)) around))
      (AllFit ((marks ∷ entry_steps section xs) ++ rest) (state s around))
  list_fits xs s k = record { to = λ f. (tt, (entries_fit xs s k).to f); from = λ f. (entries_fit xs s k).from f.1 }

-- a component with those parts after these
abbrev joined : Tree → Tree → Tree
joined t ends = t
joined t (first p u) = joined (add t p) u

steps_assoc : (xs ys zs : List Step) (at : State) → Same (AllFit (xs ++ (ys ++ zs)) at) (AllFit ((xs ++ ys) ++ zs) at)
steps_assoc xs ys zs at = record {
  to = λ f. subst (λ l. AllFit l at) (sym (append_assoc xs ys zs)) f;
  from = λ f. subst (λ l. AllFit l at) (append_assoc xs ys zs) f;
}

mutual
  part_fits : (p : Part) (rest : List Step) (s : Scene) (around : List Scene) → IsNamed s
      → Same (FormedAt p (map scope_at around) s × AllFit rest (state (after s p) around)) (AllFit (steps_in p ++ rest) (state s around))
  part_fits (custom n c) rest s around k = same_all
  part_fits (core_module m) rest s around k = same_all
  part_fits (core_types ts) rest s around k = list_fits core_types core_type_row around rest ts s k
  part_fits (component t) rest s around k =
      let inner = same_trans (tree_fits t (closes ∷ rest) ends (s ∷ around) named_first)
      (steps_assoc (steps_of t) (closes ∷ []) rest (state empty_scene (s ∷ around))) in
      record { to = λ f. (tt, inner.to (f.0, (tt, f.1))); from = λ f. let g = inner.from f.1 in (g.0, g.1.1) }
  part_fits (types ts) rest s around k = list_fits types type_row around rest ts s k
  part_fits (canons fs) rest s around k = list_fits canons canon_row around rest fs s k
  part_fits (imports is) rest s around k = list_fits imports import_row around rest is s k
  part_fits (exports es) rest s around k = list_fits exports export_row around rest es s k

  pub tree_fits : (t : Tree) (rest : List Step) (before : Tree) (around : List Scene) → IsNamed (scene_of before)
      → Same (Formed t (map scope_at around) before × AllFit rest (state (scene_of (joined before t)) around))
      (AllFit (steps_of t ++ rest) (state (scene_of before) around))
  tree_fits ends rest before around k = record { to = λ f. f.1; from = λ f. (tt, f) }
  tree_fits (first p t) rest before around k =
      let outer = map scope_at around in
      let part = part_fits p (steps_of t ++ rest) (scene_of before) around k in
      let is = scene_add before p in
      let named = λ (f : FormedAt p outer (scene_of before)). subst IsNamed (sym is) (named_after p outer (scene_of before) k f) in
      let row = steps_assoc (steps_in p) (steps_of t) rest (state (scene_of before) around) in
      record {
        to = λ f.
            let g = (same_part p outer before).to f.0.0 in
            row.to (part.to (g, moved (steps_of t ++ rest) around is ((tree_fits t rest (add before p) around (named g)).to (f.0.1, f.1))));
        from = λ f.
            let g = part.from (row.from f) in
            let h = (tree_fits t rest (add before p) around (named g.0)).from (moved (steps_of t ++ rest) around (sym is) g.1) in
            (((same_part p outer before).from g.0, h.0), h.1);
      }
