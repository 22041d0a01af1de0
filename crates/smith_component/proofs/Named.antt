-- Names of a sort in a component: they are in kebab case, and no two of them are the same.
use Rattle.std.proofs.Common.{◌≡◌, ℕ, false, List, [], ◌∷◌, ◌++◌, map, refl, sym, ap, ◌∙◌, subst, append_assoc, append-nil}
use Rattle.std.proofs.lemmas.List.{map-append}
use Rattle.std.specs.List.{AllByRecursion, IsDistinct}
use Rattle.smith_format.specs.declared.config.Config.{Config}
use Rattle.smith_input.specs.Kebab.{Kebab}
use Rattle.smith_input.specs.Loops.{Loop}
use Rattle.smith_input.specs.Names.{ReadsNew}
use Rattle.smith_input.specs.NewNames.{is_among}
use Rattle.smith_input.proofs.Loops.{loop_gives}
use Rattle.smith_input.specs.NameScript.{AreReachable}
use Rattle.smith_input.proofs.NameScript.{new_reachable}
use Rattle.smith_input.proofs.NewNames.{new_kebab}
use Rattle.smith_syntax.specs.Scope.{Scope}
use Rattle.smith_syntax.specs.WellFormed.{Named}
use Rattle.smith_input.proofs.DistinctNames.{AreNew, distinct_new, new_back, new_distinct, new_more, none_before}
use Rattle.smith_tree.specs.Open.{Open, tree_so_far}
use Rattle.smith_component.specs.Sound.{Sound}
use Rattle.smith_tree.specs.Tree.{Tree, Part, ends, first, custom, core_module, core_types, component, types, canons, imports, exports, add, own}
use Rattle.smith_tree.specs.Tree.{exports_in, exports_of, imports_in, imports_of}
use Rattle.smith_tree.specs.WellFormed.{Formed, FormedPart, export_names, import_names, scope_of}
use Rattle.smith_component.proofs.Tables.{own_bare}
use Rattle.smith_component.proofs.Tree.{join-add, join-ends, own-add, join, formed_front}
use Rattle.smith_scopes.proofs.Plain.{all_back, all_both}

-- Names in kebab case, none of them twice, and one more that is none of them.
named_more : (ns : List (List ℕ)) (n : List ℕ) → Named ns → Kebab n → is_among ns n ≡ false → Named (ns ++ n ∷ [])
named_more ns n h kebab new = (
  all_both Kebab ns (n ∷ []) h.0 (kebab, tt),
  new_distinct [] (ns ++ n ∷ []) (new_more [] ns n (distinct_new [] ns (none_before ns) h.1) new),
)

-- Entries with names, after the ones that precede them.
module _ {A : Type 0} (name : A → List ℕ) (before : List A) where
  -- the names of them all
  abbrev pub names_with : List A → List (List ℕ)
  names_with s = map name (before ++ s)

  pub names_with_more : (s : List A) (x : A) → names_with (s ++ x ∷ []) ≡ names_with s ++ name x ∷ []
  names_with_more s x = ap (map name) (sym (append_assoc before s (x ∷ []))) ∙ map-append name (before ++ s) (x ∷ [])

  -- If all are named, the later ones are in kebab case and new after the earlier ones.
  pub named_behind : (s : List A) → Named (names_with s) → AllByRecursion Kebab (map name s) × AreNew (names_with []) (map name s)
  named_behind s named =
      let both : Named (map name before ++ map name s) = subst Named (map-append name before s) named in
      let new : AreNew (map name before) (map name s) = new_back [] (map name before) (map name s) (distinct_new [] _ (none_before _) both.1) in (
        all_back Kebab (map name before) (map name s) both.0,
        subst (λ z. AreNew (map name z) (map name s)) (sym (append-nil before)) new,
      )

-- The same if at most so many bytes of each name are read.
module _ {A : Type 0} (longest : ℕ) (name : A → List ℕ) (before : List A) where
  abbrev with_names : List A → List (List ℕ)
  with_names s = names_with name before s

  -- an entry that is read under a name which is new among them all
  pub record NewEntry (s : List A) (x : A) (t : List A) : Type 0 where
    pub bytes : List ℕ
    pub rest : List ℕ
    pub read : ReadsNew longest (with_names s) bytes (name x) rest
    pub next_is : t ≡ s ++ x ∷ []

  -- The names stay distinct and in kebab case.
  abbrev KeepsNames : List A → List A → List A → Type 0
  KeepsNames s xs t = Named (with_names s) → Named (with_names t)

  module _ {Ends : List A → List ℕ → List ℕ → List A → Type 0} {Item : List A → List ℕ → A → List ℕ → List A → Type 0}
      (ends : (s : List A) (b r : List ℕ) (t : List A) → Ends s b r t → t ≡ s)
      (items : (s : List A) (b : List ℕ) (x : A) (r : List ℕ) (t : List A) → Item s b x r t → NewEntry s x t) where
    keeps_names : (s t u : List A) (b : List ℕ) (x : A) (r : List ℕ) (xs : List A) → Item s b x r t → KeepsNames t xs u → KeepsNames s (x ∷ xs) u
    keeps_names s t u b x r xs i later h =
        let new : NewEntry s x t = items s b x r t i in
        let kebab : Kebab (name x) = new_kebab new.read in
        let named : Named (with_names s ++ name x ∷ []) = named_more (with_names s) (name x) h kebab new.read.unique.is_new in
        later (subst Named (sym (ap with_names new.next_is ∙ names_with_more name before s x)) named)

    -- The names of the entries that a loop reads are distinct and in kebab case.
    pub loop_named : {bits min max : ℕ} {b rest : List ℕ} {xs : List A} → Named (map name before)
        → Loop Ends Item bits min max 0 [] b xs rest xs → Named (with_names xs)
    loop_named {b = b} {rest = rest} {xs = xs} h r =
        loop_gives KeepsNames (λ s n. n) (λ s c q t e n. subst (λ z. Named (with_names z)) (sym (ends s c q t e)) n) keeps_names 0 [] b xs rest xs r
        (subst (λ z. Named (map name z)) (sym (append-nil before)) h)

  -- Each name that a loop reads can be read after the ones before it.
  module _ {Ends : List A → List ℕ → List ℕ → List A → Type 0} {Item : List A → List ℕ → A → List ℕ → List A → Type 0}
      (items : (s : List A) (b : List ℕ) (x : A) (r : List ℕ) (t : List A) → Item s b x r t → NewEntry s x t) where
    pub loop_reachable : {bits min max : ℕ} {b rest : List ℕ} {xs : List A} → Loop Ends Item bits min max 0 [] b xs rest xs
        → AreReachable longest (map name before) (map name xs)
    loop_reachable {b = b} {rest = rest} {xs = xs} r =
        let all : AreReachable longest (with_names []) (map name xs) =
        loop_gives (λ s ys t. AreReachable longest (with_names s) (map name ys)) (λ s. tt) (λ s c q t e. tt)
        (λ s t u c x q ys i later.
        let new : NewEntry s x t = items s c x q t i in
        (new_reachable new.read, subst (λ ns. AreReachable longest ns (map name ys)) (ap with_names new.next_is ∙ names_with_more name before s x) later))
        0 [] b xs rest xs r in
        subst (λ z. AreReachable longest (map name z) (map name xs)) (append-nil before) all

formed_inner : (us : List Tree) (outer : List Scope) (t : Tree) → Formed (tree_so_far us t) outer ends → (around : List Scope) × Formed t around ends
formed_inner [] outer t f = (outer, f)
formed_inner (u ∷ us) outer t f = formed_inner us (scope_of u ∷ outer) t (formed_front u (component (tree_so_far us t)) outer ends f).1

module _ {A : Type 0} (name : A → List ℕ) (f : Part → List A) where
  -- those that the parts of a component have of a sort
  abbrev IsNamed : Tree → Type 0
  IsNamed t = Named (map name (own f t))

  -- A part that has none leaves them so.
  quiet_named : (before : Tree) (q : Part) → f q ≡ [] → IsNamed before → IsNamed (add before q)
  quiet_named before q e h = subst (λ z. Named (map name z)) (sym (own_bare f before q e)) h

  module _ (keeps : (q : Part) (outer : List Scope) (before : Tree) → FormedPart q outer before → IsNamed before → IsNamed (add before q)) where
    named_parts : (t : Tree) (outer : List Scope) (before : Tree) → Formed t outer before → IsNamed before → IsNamed (join before t)
    named_parts ends outer before g h = subst IsNamed (sym (join-ends before)) h
    named_parts (first p t) outer before g h = subst IsNamed (join-add before p t) (named_parts t outer (add before p) g.1 (keeps p outer before g.0 h))

    -- The entries that a component has so far are named, if each part keeps them so.
    sound_named : (config : Config) (stack : Open) → Sound config stack → IsNamed stack.inner
    unfolding IsDistinct
    sound_named config stack s =
        let g = formed_inner stack.outer [] stack.inner s.formed in
        named_parts stack.inner g.0 ends g.1 (tt, tt)

-- A part keeps the names of imports in kebab case and distinct.
import_names_kept : (q : Part) (outer : List Scope) (before : Tree) → FormedPart q outer before → IsNamed (λ i. i.name) imports_in before
    → IsNamed (λ i. i.name) imports_in (add before q)
import_names_kept (custom n c) outer before g h = quiet_named _ imports_in before (custom n c) refl h
import_names_kept (core_module m) outer before g h = quiet_named _ imports_in before (core_module m) refl h
import_names_kept (core_types ts) outer before g h = quiet_named _ imports_in before (core_types ts) refl h
import_names_kept (component u) outer before g h = quiet_named _ imports_in before (component u) refl h
import_names_kept (types ts) outer before g h = quiet_named _ imports_in before (types ts) refl h
import_names_kept (canons fs) outer before g h = quiet_named _ imports_in before (canons fs) refl h
import_names_kept (imports is) outer before g h = subst (λ z. Named (import_names z)) (sym (own-add imports_in before (imports is))) g.1
import_names_kept (exports es) outer before g h = quiet_named _ imports_in before (exports es) refl h

-- A part keeps the names of exports in kebab case and distinct.
export_names_kept : (q : Part) (outer : List Scope) (before : Tree) → FormedPart q outer before → IsNamed (λ e. e.name) exports_in before
    → IsNamed (λ e. e.name) exports_in (add before q)
export_names_kept (custom n c) outer before g h = quiet_named _ exports_in before (custom n c) refl h
export_names_kept (core_module m) outer before g h = quiet_named _ exports_in before (core_module m) refl h
export_names_kept (core_types ts) outer before g h = quiet_named _ exports_in before (core_types ts) refl h
export_names_kept (component u) outer before g h = quiet_named _ exports_in before (component u) refl h
export_names_kept (types ts) outer before g h = quiet_named _ exports_in before (types ts) refl h
export_names_kept (canons fs) outer before g h = quiet_named _ exports_in before (canons fs) refl h
export_names_kept (imports is) outer before g h = quiet_named _ exports_in before (imports is) refl h
export_names_kept (exports es) outer before g h = subst (λ z. Named (export_names z)) (sym (own-add exports_in before (exports es))) g.1

pub imports_are_named : (config : Config) (stack : Open) → Sound config stack → Named (import_names (imports_of stack.inner))
imports_are_named config stack s = sound_named _ imports_in import_names_kept config stack s

pub exports_are_named : (config : Config) (stack : Open) → Sound config stack → Named (export_names (exports_of stack.inner))
exports_are_named config stack s = sound_named _ exports_in export_names_kept config stack s
