-- A component is possible only if each step of it is, after those before it.
use Rattle.std.proofs.Common.{◌≡◌, ℕ, List, [], ◌∷◌, ◌++◌, map, fold, refl, sym, ap, ◌∙◌, subst, append-nil, append_assoc, true}
use Rattle.std.proofs.lemmas.List.{map-append}
use Rattle.smith_syntax.specs.Entries.{CoreEntry, Entry, ImportEntry}
use Rattle.smith_syntax.specs.Possible.{PossibleName, PossibleNames}
use Rattle.smith_syntax.specs.Scope.{Scope}
use Rattle.smith_tree.specs.Possible.{Possible, PossiblePart, PossibleParts, after_possible_part}
use Rattle.smith_tree.specs.Spaces.{Spaces}
use Rattle.smith_tree.specs.Tree.{ExportEntry, Part, Tree, add, canons, component, core_module, core_types, custom, ends, exports, exports_in}
use Rattle.smith_tree.specs.Tree.{exports_of, first, imports}
use Rattle.smith_tree.specs.Tree.{imports_in, imports_of, types}
use Rattle.smith_tree.specs.WellFormed.{export_names, import_names}
use Rattle.smith_tree.proofs.Possible.{imports_same}
use Rattle.smith_read.specs.Walk.{Step, closes, entry_steps, marks, one, opens, steps_in, steps_of}
use Rattle.smith_check.specs.Preceding.{Scene, empty_scene, scope_at}
use Rattle.smith_check.specs.Stepping.{Fits, FormedAt, MayFit, PossibleAt, State, after, closed, next}
use Rattle.smith_check.proofs.Growth.{own-add}
use Rattle.smith_check.proofs.Scenes.{state}
use Rattle.smith_check.proofs.TypeSteps.{front_of}

-- what there is after a section that is possible
abbrev pub after_may : Scene → Part → Scene
after_may s (imports is) = record s { spaces = after_possible_part s.spaces (imports is); imports = s.imports ++ import_names is }
after_may s p = after s p

abbrev pub may_next : Step → State → State
may_next (one p) at = record { here = after_may at.here p; around = at.around }
may_next x at = next x at

abbrev pub AllMay : List Step → State → Type 0
AllMay [] at = Unit {0}
AllMay (x ∷ xs) at = MayFit x at × AllMay xs (may_next x at)

-- After a section that is well formed, both are the same.
part_same : (p : Part) (outer : List Scope) (s : Scene) → FormedAt p outer s → after_may s p ≡ after s p
part_same (imports is) outer s f =
    ap (λ z. record s { spaces = z; imports = s.imports ++ import_names is }) (imports_same is s.spaces f.0)
part_same (custom name contents) outer s f = refl
part_same (core_module text) outer s f = refl
part_same (core_types ts) outer s f = refl
part_same (component t) outer s f = refl
part_same (types ts) outer s f = refl
part_same (canons fs) outer s f = refl
part_same (exports es) outer s f = refl

pub step_same : (x : Step) (at : State) → Fits x at → may_next x at ≡ next x at
step_same (one p) at f = ap (λ s. state s at.around) (part_same p (map scope_at at.around) at.here f)
step_same opens at f = refl
step_same closes at f = refl
step_same marks at f = refl

-- ---- sections entry by entry

names_less : (names : List (List ℕ)) (name : List ℕ) (rest : List (List ℕ)) → PossibleNames true (names ++ name ∷ rest)
    → PossibleNames true ((names ++ name ∷ []) ++ rest)
names_less names name rest n = subst (PossibleNames true) (sym (append_assoc names (name ∷ []) rest)) n

record IsRow {A : Type 0} (section : List A → Part) : Type 0 where
  none_after : (s : Scene) → after_may s (section []) ≡ s
  more : (outer : List Scope) (s : Scene) (x : A) (xs : List A) → PossibleAt (section (x ∷ xs)) outer s
      → PossibleAt (section (x ∷ [])) outer s × PossibleAt (section xs) outer (after_may s (section (x ∷ [])))
  more_after : (s : Scene) (x : A) (xs : List A) → after_may s (section (x ∷ xs)) ≡ after_may (after_may s (section (x ∷ []))) (section xs)

core_type_row : IsRow core_types
core_type_row = record {
  none_after = λ s. ap (λ l. record s { spaces = record s.spaces { core_types = l } }) (append-nil s.spaces.core_types);
  more = λ outer s x xs f. ((f.0, tt), f.1);
  more_after = λ s x xs. ap (λ l. record s { spaces = record s.spaces { core_types = l } }) (sym (append_assoc s.spaces.core_types (x ∷ []) xs));
}

type_row : IsRow types
type_row = record {
  none_after = λ s. ap (λ l. record s { spaces = record s.spaces { types = l } }) (append-nil s.spaces.types);
  more = λ outer s x xs f. ((f.0, tt), f.1);
  more_after = λ s x xs. ap (λ l. record s { spaces = record s.spaces { types = l } }) (sym (append_assoc s.spaces.types (x ∷ []) xs));
}

canon_row : IsRow canons
canon_row = record { none_after = λ s. refl; more = λ outer s x xs f. ((f.0, tt), f.1); more_after = λ s x xs. refl }

import_row : IsRow imports
import_row = record {
  none_after = λ s. ap (λ l. record s { imports = l }) (append-nil s.imports);
  more = λ outer s x xs f.
      let n = names_less s.imports x.name (import_names xs) f.1 in
      (((f.0.0, tt), front_of (PossibleName true) (s.imports ++ x.name ∷ []) (import_names xs) n), (f.0.1, n));
  more_after = λ s x xs.
      ap (λ l. record s { spaces = after_possible_part s.spaces (imports (x ∷ xs)); imports = l })
      (sym (append_assoc s.imports (x.name ∷ []) (import_names xs)));
}

export_row : IsRow exports
export_row = record {
  none_after = λ s. ap (λ l. record s { exports = l }) (append-nil s.exports);
  more = λ outer s x xs f.
      let n = names_less s.exports x.name (export_names xs) f.1 in
      (((f.0.0, tt), front_of (PossibleName true) (s.exports ++ x.name ∷ []) (export_names xs) n), (f.0.1, n));
  more_after = λ s x xs.
      ap (λ l. record (after s (exports (x ∷ xs))) { exports = l }) (sym (append_assoc s.exports (x.name ∷ []) (export_names xs)));
}

-- ---- steps in a row

moved : (rest : List Step) (around : List Scene) {s t : Scene} → s ≡ t → AllMay rest (state s around) → AllMay rest (state t around)
moved rest around e f = subst (λ s. AllMay rest (state s around)) e f

module _ {A : Type 0} (section : List A → Part) (row : IsRow section) (around : List Scene) (rest : List Step) where
  entries_may : (xs : List A) (s : Scene) → PossibleAt (section xs) (map scope_at around) s
      → AllMay rest (state (after_may s (section xs)) around) → AllMay (entry_steps section xs ++ rest) (state s around)
  entries_may [] s f r = (tt, moved rest around (row.none_after s) r)
  entries_may (x ∷ xs) s f r =
      let g = row.more (map scope_at around) s x xs f in
      (g.0, entries_may xs (after_may s (section (x ∷ []))) g.1 (moved rest around (row.more_after s x xs) r))

  list_may : (xs : List A) (s : Scene) → PossibleAt (section xs) (map scope_at around) s
      → AllMay rest (state (after_may s (section xs)) around) → AllMay ((marks ∷ entry_steps section xs) ++ rest) (state s around)
  list_may xs s f r = (tt, entries_may xs s f r)

-- the scene has the names of these parts
record HasNames (s : Scene) (before : Tree) : Type 0 where
  imports : s.imports ≡ import_names (imports_of before)
  exports : s.exports ≡ export_names (exports_of before)

names_after : (p : Part) (s : Scene) (before : Tree) → HasNames s before → HasNames (after_may s p) (add before p)
names_after p s before h = record {
  imports = imported p;
  exports = exported p;
}
  where
    more_imports : (q : Part) → import_names (imports_of before) ++ import_names (imports_in q) ≡ import_names (imports_of (add before q))
    more_imports q = sym (ap import_names (own-add imports_in before q) ∙ map-append (λ i. i.name) (imports_of before) (imports_in q))

    more_exports : (q : Part) → export_names (exports_of before) ++ export_names (exports_in q) ≡ export_names (exports_of (add before q))
    more_exports q = sym (ap export_names (own-add exports_in before q) ∙ map-append (λ e. e.name) (exports_of before) (exports_in q))

    no_imports : (q : Part) → import_names (imports_in q) ≡ [] → s.imports ≡ import_names (imports_of (add before q))
    no_imports q e = h.imports ∙ sym (append-nil (import_names (imports_of before))) ∙ ap (λ ns. import_names (imports_of before) ++ ns) (sym e)
        ∙ more_imports q

    no_exports : (q : Part) → export_names (exports_in q) ≡ [] → s.exports ≡ export_names (exports_of (add before q))
    no_exports q e = h.exports ∙ sym (append-nil (export_names (exports_of before))) ∙ ap (λ ns. export_names (exports_of before) ++ ns) (sym e)
        ∙ more_exports q

    imported : (q : Part) → (after_may s q).imports ≡ import_names (imports_of (add before q))
    imported (imports is) = ap (λ ns. ns ++ import_names is) h.imports ∙ more_imports (imports is)
    imported (custom name contents) = no_imports (custom name contents) refl
    imported (core_module text) = no_imports (core_module text) refl
    imported (core_types ts) = no_imports (core_types ts) refl
    imported (component t) = no_imports (component t) refl
    imported (types ts) = no_imports (types ts) refl
    imported (canons fs) = no_imports (canons fs) refl
    imported (exports es) = no_imports (exports es) refl

    exported : (q : Part) → (after_may s q).exports ≡ export_names (exports_of (add before q))
    exported (exports es) = ap (λ ns. ns ++ export_names es) h.exports ∙ more_exports (exports es)
    exported (custom name contents) = no_exports (custom name contents) refl
    exported (core_module text) = no_exports (core_module text) refl
    exported (core_types ts) = no_exports (core_types ts) refl
    exported (component t) = no_exports (component t) refl
    exported (types ts) = no_exports (types ts) refl
    exported (canons fs) = no_exports (canons fs) refl
    exported (imports is) = no_exports (imports is) refl

spaces_after : (p : Part) (s : Scene) → (after_may s p).spaces ≡ after_possible_part s.spaces p
spaces_after (imports is) s = refl
spaces_after (custom name contents) s = refl
spaces_after (core_module text) s = refl
spaces_after (core_types ts) s = refl
spaces_after (component t) s = refl
spaces_after (types ts) s = refl
spaces_after (canons fs) s = refl
spaces_after (exports es) s = refl

part_at : (p : Part) (outer : List Scope) (s : Scene) (before : Tree) → HasNames s before → PossiblePart p outer s.spaces before → PossibleAt p outer s
part_at (imports is) outer s before h f = (
  f.0,
  subst (PossibleNames true) (map-append (λ (i : ImportEntry). i.name) (imports_of before) is ∙ ap (λ ns. ns ++ import_names is) (sym h.imports)) f.1,
)
part_at (exports es) outer s before h f = (
  f.0,
  subst (PossibleNames true) (map-append (λ (e : ExportEntry). e.name) (exports_of before) es ∙ ap (λ ns. ns ++ export_names es) (sym h.exports)) f.1,
)
part_at (custom name contents) outer s before h f = f
part_at (core_module text) outer s before h f = f
part_at (core_types ts) outer s before h f = f
part_at (component t) outer s before h f = f
part_at (types ts) outer s before h f = f
part_at (canons fs) outer s before h f = f

-- what there is after these parts too
abbrev after_all : Scene → Tree → Scene
after_all s ends = s
after_all s (first p t) = after_all (after_may s p) t

steps_assoc : (xs ys zs : List Step) (at : State) → AllMay (xs ++ (ys ++ zs)) at → AllMay ((xs ++ ys) ++ zs) at
steps_assoc xs ys zs at f = subst (λ l. AllMay l at) (sym (append_assoc xs ys zs)) f

mutual
  part_may : (p : Part) (rest : List Step) (s : Scene) (around : List Scene) → PossibleAt p (map scope_at around) s
      → AllMay rest (state (after_may s p) around) → AllMay (steps_in p ++ rest) (state s around)
  part_may (custom n c) rest s around f r = (f, r)
  part_may (core_module m) rest s around f r = (f, r)
  part_may (core_types ts) rest s around f r = list_may core_types core_type_row around rest ts s f r
  part_may (component t) rest s around f r = (
    tt,
    steps_assoc (steps_of t) (closes ∷ []) rest (state empty_scene (s ∷ around))
        (tree_may t (closes ∷ rest) ends empty_scene (s ∷ around) (record { imports = refl; exports = refl }) f (tt, r)),
  )
  part_may (types ts) rest s around f r = list_may types type_row around rest ts s f r
  part_may (canons fs) rest s around f r = list_may canons canon_row around rest fs s f r
  part_may (imports is) rest s around f r = list_may imports import_row around rest is s f r
  part_may (exports es) rest s around f r = list_may exports export_row around rest es s f r

  tree_may : (t : Tree) (rest : List Step) (before : Tree) (s : Scene) (around : List Scene) → HasNames s before
      → PossibleParts t (map scope_at around) s.spaces before → AllMay rest (state (after_all s t) around) → AllMay (steps_of t ++ rest) (state s around)
  tree_may ends rest before s around h f r = r
  tree_may (first p t) rest before s around h f r =
      steps_assoc (steps_in p) (steps_of t) rest (state s around)
      (part_may p (steps_of t ++ rest) s around (part_at p (map scope_at around) s before h f.0)
      (tree_may t rest (add before p) (after_may s p) around (names_after p s before h)
      (subst (λ z. PossibleParts t (map scope_at around) z (add before p)) (sym (spaces_after p s)) f.1) r))

pub whole_may : (t : Tree) → Possible t → AllMay (steps_of t ++ closes ∷ []) (state empty_scene [])
whole_may t f = tree_may t (closes ∷ []) ends empty_scene [] (record { imports = refl; exports = refl }) f (tt, tt)
