-- What is found of core modules, step by step.
use Rattle.std.proofs.Common.{◌≡◌, ◌≤◌, ℕ, ◌+◌, List, [], ◌∷◌, ◌++◌, append-nil, append_assoc, arith, ap, refl, subst, sym, ◌∙◌}
use Rattle.std.proofs.lemmas.Grind.{flat_map-append}
use Rattle.std.proofs.lemmas.List.Elements.{Contains-append_left, Contains-push}
use Rattle.std.specs.Borrow.{Bor}
use Rattle.std.specs.List.{AllByRecursion, flat_map}
use Rattle.smith_input.proofs.Lists.{all_both}
use Rattle.smith_tree.specs.Tree.{Part, Tree, anywhere_in, canons, component, core_module, core_types, custom, ends, exports, first, imports, modules}
use Rattle.smith_tree.specs.Tree.{modules_in}
use Rattle.smith_tree.specs.Tree.{types}
use Rattle.smith_read.specs.Items.{items}
use Rattle.smith_read.specs.Walk.{Step, begins, closes, ended, entry_steps, items_at, shown_step, steps_in, steps_of}
use Rattle.smith_read.specs.declared.steps.Contents.{Contents}
use Rattle.smith_read.specs.declared.steps.Contents.TheVariants as kind
use Rattle.smith_read.specs.declared.steps.Step.{Step as StepNode}
use Rattle.smith_read.specs.declared.steps.Step.TheVariants as step
use Rattle.smith_check.proofs.Items.{counted, counted-append, tree_counted}
use Rattle.smith_verdict.specs.ModuleWalk.{AreModules, IsOne, texts_in}
use Rattle.smith_verdict.specs.Modules.{BoundedModule, BrokenModule, SoundModule}
use Rattle.smith_verdict.specs.declared.module_walk.Modules.{Modules}
use Rattle.smith_verdict.specs.declared.module_walk.Modules.TheVariants.{Sound, Broken, Bounded, Other}

-- ---- one more module

pub all_more : (P : List ℕ → Type 0) (texts : List (List ℕ)) (text : List ℕ) → AllByRecursion P texts → P text → AllByRecursion P (texts ++ text ∷ [])
all_more P texts text all p = all_both P texts (text ∷ []) all (p, tt)

pub one_here : (P : List ℕ → Type 0) (item : ℕ) (texts : List (List ℕ)) (text : List ℕ) → P text → IsOne P (item + 1) (texts ++ text ∷ []) item
one_here P item texts text p = (omega arith, text, Contains-push texts text, p)

pub one_more : (P : List ℕ → Type 0) (n m : ℕ) (texts more : List (List ℕ)) (item : ℕ) → n ≤ m → IsOne P n texts item → IsOne P m (texts ++ more) item
one_more P n m texts more item l o = (omega (arith, o.0), o.1, Contains-append_left texts more o.1 o.2, o.3)

-- those before a module that is sound, or one more that is not worse
pub same_found : (n m : ℕ) (texts more : List (List ℕ)) (found : Modules) → n ≤ m → AllByRecursion SoundModule more → AreModules n texts found
    → AreModules m (texts ++ more) found
same_found n m texts more Sound l s a = all_both SoundModule texts more a s
same_found n m texts more (Broken item) l s a = one_more BrokenModule n m texts more item l a
same_found n m texts more (Bounded item) l s a = one_more BoundedModule n m texts more item l a
same_found n m texts more (Other item) l s a = one_more (λ text. ¬ SoundModule text) n m texts more item l a

pub ruleset and_lemmas = (all_more, one_here, one_more, same_found)

-- a step that is no core module
none_begun : (c : Contents) → texts_in (begins c) ≡ []
none_begun (kind.Parts ps) = refl
none_begun (kind.CoreTypes ts) = refl
none_begun (kind.Types ts) = refl
none_begun (kind.Canons fs) = refl
none_begun (kind.Imports is) = refl
none_begun (kind.Exports es) = refl

none_ended : (c : Contents) → texts_in (ended c) ≡ []
none_ended (kind.Parts ps) = refl
none_ended (kind.CoreTypes ts) = refl
none_ended (kind.Types ts) = refl
none_ended (kind.Canons fs) = refl
none_ended (kind.Imports is) = refl
none_ended (kind.Exports es) = refl

pub none_in : (s : StepNode) → ((x : Bor (List ℕ)) → s ≡ step.CoreModule x → ⊥) → texts_in (shown_step s) ≡ []
none_in (step.CoreModule x) other = absurd (other x refl)
none_in (step.Custom s) other = refl
none_in (step.Begin c) other = none_begun c
none_in (step.End c) other = none_ended c
none_in (step.CoreType t) other = refl
none_in (step.Type t) other = refl
none_in (step.Canon f) other = refl
none_in (step.Import i) other = refl
none_in (step.Export e) other = refl

-- ---- all of a component

abbrev pub texts_of : List Step → List (List ℕ)
texts_of xs = flat_map texts_in xs

entries_none : {A : Type 0} (section : List A → Part) → ((x : A) → modules_in (section (x ∷ [])) ≡ []) → (xs : List A) → texts_of (entry_steps section xs) ≡ []
entries_none section none [] = refl
entries_none section none (x ∷ xs) = ap (λ l. l ++ texts_of (entry_steps section xs)) (none x) ∙ entries_none section none xs

mutual
  part_texts : (p : Part) → texts_of (steps_in p) ≡ anywhere_in modules_in p
  part_texts (custom name contents) = refl
  part_texts (core_module text) = refl
  part_texts (core_types ts) = entries_none core_types (λ x. refl) ts
  part_texts (component t) = flat_map-append texts_in (steps_of t) (closes ∷ []) ∙ append-nil (texts_of (steps_of t)) ∙ tree_texts t
  part_texts (types ts) = entries_none types (λ x. refl) ts
  part_texts (canons fs) = entries_none canons (λ x. refl) fs
  part_texts (imports is) = entries_none imports (λ x. refl) is
  part_texts (exports es) = entries_none exports (λ x. refl) es

  tree_texts : (t : Tree) → texts_of (steps_of t) ≡ modules t
  tree_texts ends = refl
  tree_texts (first p t) =
      flat_map-append texts_in (steps_in p) (steps_of t) ∙ ap (λ l. l ++ texts_of (steps_of t)) (part_texts p)
      ∙ ap (λ l. anywhere_in modules_in p ++ l) (tree_texts t)

walk_texts : (t : Tree) → texts_of (steps_of t ++ closes ∷ []) ≡ modules t
walk_texts t = flat_map-append texts_in (steps_of t) (closes ∷ []) ∙ append-nil (texts_of (steps_of t)) ∙ tree_texts t

pub walk_counted : (t : Tree) → counted (steps_of t ++ closes ∷ []) ≡ items t
walk_counted t = omega (arith, counted-append (steps_of t) (closes ∷ []), tree_counted t)

-- ---- the walk

-- So many items were passed, with these modules, of which that is found.
pub record Finding (t : Tree) (steps : List Step) (item : ℕ) (found : Modules) : Type 0 where
  pub texts : List (List ℕ)
  pub all : modules t ≡ texts ++ texts_of steps
  pub count : item + counted steps ≡ items t
  pub are : AreModules item texts found

pub finding_first : (t : Tree) (xs : List Step) → xs ≡ steps_of t ++ closes ∷ [] → Finding t xs 0 Sound
finding_first t xs e = record {
  texts = [];
  all = sym (ap texts_of e ∙ walk_texts t);
  count = omega (arith, ap counted e, walk_counted t);
  are = tt;
}

pub finding_next : (t : Tree) (x : Step) (xs steps : List Step) (item then : ℕ) (found now : Modules) → steps ≡ x ∷ xs → Finding t steps item found
    → then ≡ item + items_at x → ((texts : List (List ℕ)) → AreModules item texts found → AreModules (item + items_at x) (texts ++ texts_in x) now)
    → Finding t xs then now
finding_next t x xs steps item then before now e f is more = record {
  texts = f.texts ++ texts_in x;
  all = f.all ∙ ap (λ l. f.texts ++ texts_of l) e ∙ sym (append_assoc f.texts (texts_in x) (texts_of xs));
  count = omega (arith, f.count, ap counted e, is);
  are = subst (λ n. AreModules n (f.texts ++ texts_in x) now) (sym is) (more f.texts f.are);
}

pub finding_last : (t : Tree) (steps : List Step) (item : ℕ) (found : Modules) → steps ≡ [] → Finding t steps item found
    → AreModules (items t) (modules t) found
finding_last t steps item found e f =
    let texts_are : modules t ≡ f.texts = f.all ∙ ap (λ l. f.texts ++ texts_of l) e ∙ append-nil f.texts in
    let item_is : item ≡ items t = omega (arith, f.count, ap counted e) in
    subst (λ n. AreModules n (modules t) found) item_is (subst (λ ts. AreModules item ts found) (sym texts_are) f.are)
