-- If input is left after a run, each component has as many sections as it takes to be finished.
use Rattle.std.proofs.Common.{◌≡◌, ℕ, ◌+◌, ◌≤◌, ◌<◌, List, [], ◌∷◌, length, arith, refl, sym, subst, inl, inr, length-drop}
use Rattle.std.specs.List.{AllByRecursion}
use Rattle.std.proofs.lemmas.Bool.Decides.{nat_tests}
use Rattle.smith_input.specs.Choices.{ReadsAmong}
use Rattle.smith_format.specs.declared.config.Config.{Config}
use Rattle.smith_tree.specs.Open.{Open, items, root}
use Rattle.smith_tree.specs.Readable.{AreFinishable, IsFinishable}
use Rattle.smith_tree.specs.Tree.{Part, Tree, add, anywhere_in, component, components_in, ends, first}
use Rattle.smith_tree.specs.Tree.{inside, parts_of}
use Rattle.smith_tree.specs.declared.choices.Item.{Item}
use Rattle.smith_tree.specs.declared.choices.Item.TheVariants.{Finish}
use Rattle.smith_component.specs.Fills.{FillsAll}
use Rattle.smith_component.specs.Runs.{IsFollowed, RunsTo}
use Rattle.smith_component.specs.Turn.{Next, Turn, answered, building}
use Rattle.smith_component.proofs.Turning.{HoldsNext, StaysThrough, all_filled_keep, by_parts, turn_stays, turns_stay}
use Rattle.smith_component.proofs.Tree.{anywhere-add}
use Rattle.smith_component.proofs.Turn.{does_tail, finish_offered, tail_length}
use Rattle.smith_scopes.proofs.Plain.{all_back, all_both, all_front}

-- What a component keeps that has one more part, other than a component.
abbrev pub Grows : (Tree → Type 0) → Type 0
Grows P = (t : Tree) (p : Part) → anywhere_in components_in p ≡ [] → P t → P (add t p)

module _ (config : Config) (P : Tree → Type 0) (grows : Grows P) where
  abbrev Inner : Open → Type 0
  Inner stack = P stack.inner

  pub filled_keeps : (stack : Open) (b : List ℕ) (full : Tree) (rest : List ℕ) → FillsAll config stack b full rest → P stack.inner → P full
  filled_keeps = all_filled_keep config Inner (by_parts config Inner (λ stack p read h. grows stack.inner p read.flat h))

pub length-parts-add : (t : Tree) (p : Part) → length (parts_of (add t p)) ≡ length (parts_of t) + 1
length-parts-add ends p = refl
length-parts-add (first q t) p = omega (arith, length-parts-add t p)

module _ (config : Config) where
  -- The components in it are finished so.
  abbrev pub IsDone : Tree → Type 0
  IsDone t = AllByRecursion (IsFinishable config) (inside t)

  done_with : (t : Tree) (p : Part) → IsDone t → AllByRecursion (IsFinishable config) (anywhere_in components_in p) → IsDone (add t p)
  done_with t p done in_it = grind (arith, anywhere-add, all_both)

  done_grows : Grows IsDone
  done_grows t p flat done = done_with t p done (subst (AllByRecursion (IsFinishable config)) (sym flat) tt)

  finishable_grows : Grows (IsFinishable config)
  finishable_grows t p flat enough = omega (arith, enough, length-parts-add t p)

  abbrev pub AreDone : Open → Type 0
  AreDone stack = IsDone stack.inner × AllByRecursion IsDone stack.outer

  abbrev pub DoneNext : Next → Type 0
  DoneNext = HoldsNext AreDone (AreFinishable config)

  done_through : StaysThrough config AreDone (λ stack. IsFinishable config stack.inner) (IsFinishable config) (AreFinishable config)
  done_through = record {
    stays = by_parts config AreDone (λ stack p read done. (done_grows stack.inner p read.flat done.0, done.1));
    opens = λ stack offered done. (tt, all_both IsDone stack.outer (stack.inner ∷ []) done.1 (done.0, tt));
    fills = λ stack b full rest f enough done. filled_keeps config (IsFinishable config) finishable_grows stack b full rest f enough;
    closes = λ outers parent inner enough done.
        let back : AllByRecursion IsDone (parent ∷ []) = all_back IsDone outers (parent ∷ []) done.1 in
        (done_with parent (component inner) back.0 (enough, done.0), all_front IsDone outers (parent ∷ []) done.1);
    answers = λ t enough done. (enough, done.0);
  }

  -- No turn leaves more than there was.
  pub turn_shortens : (stack : Open) (left : List ℕ) (next : Next) (left2 : List ℕ) → Turn config stack left next left2 → length left2 ≤ length left
  turn_shortens stack left next left2 t = grind (arith, tail_length, does_tail, length-drop)

  -- if input is left, what is finished was offered to be
  pub finishes : (stack : Open) (left after : List ℕ) (item : Item) → 0 < length left → ReadsAmong (items config stack left) left item after → item ≡ Finish
      → IsFinishable config stack.inner
  finishes stack [] after item some r e = absurd (omega (arith, some))
  finishes stack (x ∷ xs) after item some r e = grind (arith, finish_offered, nat_tests)

  pub turn_done : (stack : Open) (left : List ℕ) (next : Next) (left2 : List ℕ) → 0 < length left → Turn config stack left next left2 → AreDone stack
      → DoneNext next
  turn_done stack left next left2 some t done =
      turn_stays done_through stack left next left2 t (finishes stack left t.after t.item some t.chooses) done

  all_finishable : (ts : List Tree) → config.finish_after ≡ 0 → AllByRecursion (IsFinishable config) ts
  all_finishable [] none = tt
  all_finishable (t ∷ ts) none = (omega (arith, none), all_finishable ts none)

-- If a run is followed by input, or no number of sections is asked, each component has that number.
pub runs_finish : (config : Config) (input : List ℕ) (tree : Tree) (left : List ℕ) → IsFollowed config left → RunsTo config input tree left
    → AreFinishable config tree
runs_finish config input tree left (inl none) r = all_finishable config (tree ∷ inside tree) none
runs_finish config input tree left (inr some) r =
    let At : List ℕ → Next → Type 0 = λ rest next. 0 < length rest → DoneNext config next in
    turns_stay config At
    (λ stack left next left2 t done more.
    let some : 0 < length left = omega (arith, more, turn_shortens config stack left next left2 t) in
    turn_done config stack left next left2 some t (done some))
    r.turns (building root) input (answered tree) left r.run (λ more. (tt, tt)) some
