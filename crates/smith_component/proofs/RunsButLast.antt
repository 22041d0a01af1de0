-- Whatever is left after a run, each component has as many sections as it takes to be finished, but for the ones that may be open at the
-- end.
use Rattle.std.proofs.Common.{◌≡◌, ℕ, List, [], ◌∷◌, ◌++◌, refl, ap, ◌∙◌, append-nil, ◌≤◌, length, arith, sym, subst, inl, inr}
use Rattle.std.specs.List.{AllByRecursion}
use Rattle.smith_format.specs.declared.config.Config.{Config}
use Rattle.smith_tree.specs.Readable.{AreFinishable, IsFinishable}
use Rattle.smith_tree.specs.Tree.{Part, Tree, anywhere_in, canons, component, components_in, core_module, core_types, custom, ends, exports, first, imports}
use Rattle.smith_tree.specs.Tree.{inside, own, types, add}
use Rattle.smith_component.specs.ButLast.{AreFinishableButLast, alone, around}
use Rattle.smith_component.specs.Runs.{RunsTo}
use Rattle.smith_component.proofs.RunsFinishable.{Grows, IsDone, filled_keeps, DoneNext, turn_done, turn_shortens}
use Rattle.smith_component.proofs.Tree.{own-add}
use Rattle.smith_scopes.proofs.Plain.{all_back, all_both, all_front}
use Rattle.smith_tree.specs.Open.{Open, root, with_inner}
use Rattle.smith_component.specs.Fills.{FillsAll}
use Rattle.smith_component.specs.Turn.{Closes, Next, Turn, answered, building}
use Rattle.smith_component.proofs.Turning.{turns_stay}
use Rattle.smith_component.proofs.Turn.{does_finish, only_finish}

-- What holds of each component that a run leads to, whatever it leaves: what holds if all components inside are finished, and goes on to hold when
-- components are filled and closed after the end of the input.
pub record IsKept (config : Config) (P : Tree → Type 0) : Type 0 where
  pub of_done : (t : Tree) → IsDone config t → P t
  pub closed : (t u : Tree) → IsDone config t → P u → P (add t (component u))
  pub filled : (stack : Open) (b : List ℕ) (full : Tree) (rest : List ℕ) → FillsAll config stack b full rest → P stack.inner → P full

module _ (config : Config) (P : Tree → Type 0) (kept : IsKept config P) where
  -- after the end of the input
  abbrev LateNext : Next → Type 0
  LateNext (building stack) = P stack.inner × AllByRecursion (IsDone config) stack.outer
  LateNext (answered t) = P t

  late_next : (next : Next) → DoneNext config next → LateNext next
  late_next (building stack) done = (kept.of_done stack.inner done.0, done.1)
  late_next (answered t) done = kept.of_done t done.1

  closes_late : (stack : Open) (next : Next) → Closes stack next → LateNext (building stack) → LateNext next
  closes_late stack next (inl (bottom, is)) late = subst LateNext (sym is) late.0
  closes_late stack next (inr (outers, parent, above, is)) late =
      let all : AllByRecursion (IsDone config) (outers ++ parent ∷ []) = subst (AllByRecursion (IsDone config)) above late.1 in
      let back : AllByRecursion (IsDone config) (parent ∷ []) = all_back (IsDone config) outers (parent ∷ []) all in
      subst LateNext (sym is) (kept.closed parent stack.inner back.0 late.0, all_front (IsDone config) outers (parent ∷ []) all)

  turn_late : (stack : Open) (next : Next) (left : List ℕ) → Turn config stack [] next left → LateNext (building stack) → LateNext next
  turn_late stack next left t late =
      let (full, fills, closes) =
      does_finish config stack t.item t.after left next (only_finish t.chooses.place t.item t.chooses.named) t.does in
      closes_late (with_inner stack full) next closes (kept.filled stack t.after full left fills late.0, late.1)

  -- What holds while these bytes are left.
  abbrev Holds : List ℕ → Next → Type 0
  Holds [] next = LateNext next
  Holds (x ∷ xs) next = DoneNext config next

  holds_done : (left : List ℕ) (next : Next) → DoneNext config next → Holds left next
  holds_done [] next done = late_next next done
  holds_done (x ∷ xs) next done = done

  holds_late : (left : List ℕ) (next : Next) → length left ≤ 0 → LateNext next → Holds left next
  holds_late [] next none late = late
  holds_late (x ∷ xs) next none late = absurd (omega (arith, none))

  late_of : (left : List ℕ) (next : Next) → Holds left next → LateNext next
  late_of [] next holds = holds
  late_of (x ∷ xs) next holds = late_next next holds

  turn_holds : (stack : Open) (left : List ℕ) (next : Next) (left2 : List ℕ) → Turn config stack left next left2 → Holds left (building stack)
      → Holds left2 next
  turn_holds stack [] next left2 t holds =
      holds_late left2 next (turn_shortens config stack [] next left2 t) (turn_late stack next left2 t holds)
  turn_holds stack (x ∷ xs) next left2 t holds =
      holds_done left2 next (turn_done config stack (x ∷ xs) next left2 (omega arith) t holds)

  pub run_keeps : (input : List ℕ) (tree : Tree) (left : List ℕ) → RunsTo config input tree left → P tree
  run_keeps input tree left r =
      late_of left (answered tree)
      (turns_stay config Holds turn_holds r.turns (building root) input (answered tree) left r.run (holds_done input (building root) (tt, tt)))

module _ (config : Config) where
  -- The components in it that are in no other one are finished with all that is in them.

  part_own : (p : Part) → AllByRecursion (IsFinishable config) (anywhere_in components_in p) → AllByRecursion (AreFinishable config) (components_in p)
  part_own (component t) all = (all, tt)
  part_own _ all = tt

  pub own_done : (t : Tree) → IsDone config t → AllByRecursion (AreFinishable config) (own components_in t)
  own_done ends done = tt
  own_done (first p t) done =
      all_both (AreFinishable config) (components_in p) (own components_in t)
      (part_own p (all_front (IsFinishable config) (anywhere_in components_in p) (inside t) done))
      (own_done t (all_back (IsFinishable config) (anywhere_in components_in p) (inside t) done))

  part_inside : (p : Part) → AllByRecursion (AreFinishable config) (components_in p) → AllByRecursion (IsFinishable config) (anywhere_in components_in p)
  part_inside (component t) all = all.0
  part_inside _ all = tt

  pub done_own : (t : Tree) → AllByRecursion (AreFinishable config) (own components_in t) → IsDone config t
  done_own ends all = tt
  done_own (first p t) all =
      all_both (IsFinishable config) (anywhere_in components_in p) (inside t)
      (part_inside p (all_front (AreFinishable config) (components_in p) (own components_in t) all))
      (done_own t (all_back (AreFinishable config) (components_in p) (own components_in t) all))

  same_own : {t u : Tree} → own components_in u ≡ own components_in t → AreFinishableButLast config t → AreFinishableButLast config u
  same_own e (alone none) = alone (e ∙ none)
  same_own e (around before last is all late) = around before last (e ∙ is) all late

  no_own : (p : Part) → anywhere_in components_in p ≡ [] → components_in p ≡ []
  no_own (component t) e = absurd (cc)
  no_own _ e = refl

  late_grows : Grows (AreFinishableButLast config)
  late_grows t p none late =
      same_own (own-add components_in t p ∙ (ap (λ us. own components_in t ++ us) (no_own p none) ∙ append-nil (own components_in t))) late

  in_front : (u t : Tree) → AreFinishable config u → AreFinishableButLast config u → AreFinishableButLast config t
      → AreFinishableButLast config (first (component u) t)
  in_front u t done late (alone none) = around [] u (ap (λ us. u ∷ us) none) tt late
  in_front u t done _ (around before last is all late) = around (u ∷ before) last (ap (λ us. u ∷ us) is) (done, all) late

  -- What is finished is finished but for the last.
  pub done_late : (t : Tree) → IsDone config t → AreFinishableButLast config t
  done_late ends done = alone refl
  done_late (first (custom name contents) t) done = same_own refl (done_late t done)
  done_late (first (core_module text) t) done = same_own refl (done_late t done)
  done_late (first (core_types ts) t) done = same_own refl (done_late t done)
  done_late (first (component u) t) done =
      let of_u = all_front (IsFinishable config) (u ∷ inside u) (inside t) done in
      in_front u t of_u (done_late u of_u.1) (done_late t (all_back (IsFinishable config) (u ∷ inside u) (inside t) done))
  done_late (first (types ts) t) done = same_own refl (done_late t done)
  done_late (first (canons fs) t) done = same_own refl (done_late t done)
  done_late (first (imports is) t) done = same_own refl (done_late t done)
  done_late (first (exports es) t) done = same_own refl (done_late t done)

  -- It stays so if it is closed or filled after the end of the input.
  late_kept : IsKept config (AreFinishableButLast config)
  late_kept = record {
    of_done = done_late;
    closed = λ t u done late. around (own components_in t) u (own-add components_in t (component u)) (own_done t done) late;
    filled = filled_keeps config (AreFinishableButLast config) late_grows;
  }

-- Whatever a run leaves, the components that can't be open when the input ends are finished.
pub runs_end : (config : Config) (input : List ℕ) (tree : Tree) (left : List ℕ) → RunsTo config input tree left → AreFinishableButLast config tree
runs_end config input tree left r = run_keeps config (AreFinishableButLast config) (late_kept config) input tree left r
