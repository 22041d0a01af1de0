-- What is asked of a component is asked of each step of a walk through it.
use Rattle.std.proofs.Common.{◌≡◌, List, [], ◌∷◌, ◌++◌, sym, subst}
use Rattle.std.specs.List.{AllByRecursion}
use Rattle.smith_input.proofs.Lists.{all_back, all_both, all_front}
use Rattle.smith_tree.specs.Tree.{Canon, Part, Tree, canons, component, core_module, core_types, custom, ends, exports, first, imports, types}
use Rattle.smith_read.specs.Walk.{Step, closes, entry_steps, steps_in, steps_of}
use Rattle.smith_check.proofs.Judging.{Same}
use Rattle.smith_verdict.specs.Contained.{Content, OfTree, OfCore, OfEntry, OfPart, text}
use Rattle.smith_verdict.specs.Shows.{OfStep}

module _ (P : Content → Type 0) where
  abbrev pub OfSteps : List Step → Type 0
  OfSteps xs = AllByRecursion (OfStep P) xs

  module _ {A : Type 0} (section : List A → Part) (F : A → Type 0) where
    entries_to : ((x : A) → F x → OfPart P (section (x ∷ []))) → (xs : List A) → AllByRecursion F xs → OfSteps (entry_steps section xs)
    entries_to h [] a = (tt, tt)
    entries_to h (x ∷ xs) a = (h x a.0, entries_to h xs a.1)

    entries_from : ((x : A) → OfPart P (section (x ∷ [])) → F x) → (xs : List A) → OfSteps (entry_steps section xs) → AllByRecursion F xs
    entries_from h [] a = tt
    entries_from h (x ∷ xs) a = (h x a.0, entries_from h xs a.1)

  canons_to : (fs : List Canon) → OfSteps (entry_steps canons fs)
  canons_to [] = (tt, tt)
  canons_to (f ∷ fs) = (tt, canons_to fs)

  mutual
    part_to : (p : Part) → OfPart P p → OfSteps (steps_in p)
    part_to (custom name contents) a = (a, tt)
    part_to (core_module bytes) a = (tt, tt)
    part_to (core_types ts) a = (tt, entries_to core_types (OfCore P) (λ x b. (b, tt)) ts a)
    part_to (component t) a = (tt, all_both (OfStep P) (steps_of t) (closes ∷ []) (tree_to t a) (tt, tt))
    part_to (types ts) a = (tt, entries_to types (OfEntry P) (λ x b. (b, tt)) ts a)
    part_to (canons fs) a = (tt, canons_to fs)
    part_to (imports is) a = (tt, entries_to imports (λ i. P (text i.name)) (λ x b. (b, tt)) is a)
    part_to (exports es) a = (tt, entries_to exports (λ e. P (text e.name)) (λ x b. (b, tt)) es a)

    tree_to : (t : Tree) → OfTree P t → OfSteps (steps_of t)
    tree_to ends a = tt
    tree_to (first p t) a = all_both (OfStep P) (steps_in p) (steps_of t) (part_to p a.0) (tree_to t a.1)

  mutual
    part_from : (p : Part) → OfSteps (steps_in p) → OfPart P p
    part_from (custom name contents) a = a.0
    part_from (core_module bytes) a = tt
    part_from (core_types ts) a = entries_from core_types (OfCore P) (λ x b. b.0) ts a.1
    part_from (component t) a = tree_from t (all_front (OfStep P) (steps_of t) (closes ∷ []) a.1)
    part_from (types ts) a = entries_from types (OfEntry P) (λ x b. b.0) ts a.1
    part_from (canons fs) a = tt
    part_from (imports is) a = entries_from imports (λ i. P (text i.name)) (λ x b. b.0) is a.1
    part_from (exports es) a = entries_from exports (λ e. P (text e.name)) (λ x b. b.0) es a.1

    tree_from : (t : Tree) → OfSteps (steps_of t) → OfTree P t
    tree_from ends a = tt
    tree_from (first p t) a = (
      part_from p (all_front (OfStep P) (steps_in p) (steps_of t) a),
      tree_from t (all_back (OfStep P) (steps_in p) (steps_of t) a),
    )

  -- before the first step
  pub walk_first : (t : Tree) (xs : List Step) → xs ≡ steps_of t ++ closes ∷ [] → Same (OfTree P t) (OfSteps xs)
  walk_first t xs e = record {
    to = λ a. subst OfSteps (sym e) (all_both (OfStep P) (steps_of t) (closes ∷ []) (tree_to t a) (tt, tt));
    from = λ a. tree_from t (all_front (OfStep P) (steps_of t) (closes ∷ []) (subst OfSteps e a));
  }
