-- What a run leads to can be generated: it can be read, and all that it uses was offered, besides that it is well formed and within the limits.
use Rattle.std.proofs.Common.{ℕ, List, [], ◌∷◌, sym, subst, ◌≡◌, true}
use Rattle.std.specs.List.{AllByRecursion}
use Rattle.smith_format.specs.Consistency.{IsConsistent}
use Rattle.smith_format.specs.declared.config.Config.{Config}
use Rattle.smith_tree.proofs.Offered.{offered_with}
use Rattle.smith_tree.specs.Offered.{IsOffered}
use Rattle.smith_tree.specs.Open.{Open}
use Rattle.smith_tree.specs.Readable.{CanBeGenerated, IsReadable, IsReadablePart, IsReadableRest}
use Rattle.smith_tree.specs.Tree.{Part, Tree, add, component, ends, first}
use Rattle.smith_component.specs.Runs.{RunsTo}
use Rattle.smith_component.specs.Sound.{IsReadSoFar}
use Rattle.smith_component.specs.Turn.{Next, Turn, answered, building}
use Rattle.smith_component.proofs.RunsSound.{runs_sound}
use Rattle.smith_component.proofs.Tree.{join, join-add, join-ends, tree_so_far-close}
use Rattle.smith_component.proofs.Turning.{HoldsNext, StaysThrough, by_parts, run_stays, turn_stays}
use Rattle.smith_scopes.proofs.Plain.{all_back, all_both, all_front}
use Rattle.smith_tree.proofs.Components.{valid_tree}
use Rattle.smith_component.specs.Building.{Building, open_of}
use Rattle.smith_component.specs.Steps.{IsStep, IsTurn, StaysSound, ValidatesIfDone}
use Rattle.smith_component.specs.declared.builder.Step.{Step}
use Rattle.smith_component.specs.declared.builder.Step.TheVariants.{StillBuilding, Finished}

-- A component stays readable with one more part that can be read after it.
rest_add : (t : Tree) (p : Part) (config : Config) (before : Tree) → IsReadableRest config t before → IsReadablePart config p (join before t)
    → IsReadableRest config (add t p) before
rest_add ends p config before r s = (subst (IsReadablePart config p) (join-ends before) s, tt)
rest_add (first q t) p config before r s =
    (r.0, rest_add t p config (add before q) r.1 (subst (IsReadablePart config p) (sym (join-add before q t)) s))

readable_add : (config : Config) (t : Tree) (p : Part) → IsReadable config t → IsReadablePart config p t → IsReadable config (add t p)
readable_add config t p r s = rest_add t p config ends r s

module _ (config : Config) where
  -- what is true of the answer
  abbrev pub WasRead : Tree → Type 0
  WasRead t = IsReadable config t × IsOffered config t

  read_through : StaysThrough config (IsReadSoFar config) (λ stack. Unit {0}) (λ t. Unit {0}) WasRead
  read_through = record {
    stays = by_parts config (IsReadSoFar config) (λ stack p read h. record {
      readable = (readable_add config stack.inner p h.readable.0 read.readable, h.readable.1);
      offered = offered_with config stack.outer stack.inner p h.offered read.offered;
    });
    opens = λ stack offered h. record {
      readable = (tt, all_both (IsReadable config) stack.outer (stack.inner ∷ []) h.readable.1 (h.readable.0, tt));
      offered = subst (IsOffered config) (sym (tree_so_far-close stack.outer stack.inner ends))
          (offered_with config stack.outer stack.inner (component ends) h.offered tt);
    };
    fills = λ stack b full rest f ready h. tt;
    closes = λ outers parent inner full h.
        let back : AllByRecursion (IsReadable config) (parent ∷ []) = all_back (IsReadable config) outers (parent ∷ []) h.readable.1 in
        record {
          readable = (
            readable_add config parent (component inner) back.0 h.readable.0,
            all_front (IsReadable config) outers (parent ∷ []) h.readable.1,
          );
          offered = subst (IsOffered config) (tree_so_far-close outers parent inner) h.offered;
        };
    answers = λ t full h. (h.readable.0, h.offered);
  }

  pub turn_read : (stack : Open) (left : List ℕ) (next : Next) (left2 : List ℕ) → Turn config stack left next left2 → IsReadSoFar config stack
      → HoldsNext (IsReadSoFar config) WasRead next
  turn_read stack left next left2 t h = turn_stays read_through stack left next left2 t (λ e. tt) h

-- A run leads to a component that can be generated.
pub runs_come : (config : Config) (input : List ℕ) (tree : Tree) (left : List ℕ) → IsConsistent config → RunsTo config input tree left
    → CanBeGenerated config tree
runs_come config input tree left consistent r =
    let s = runs_sound config input tree left consistent r in
    let read = run_stays (read_through config) (λ stack. tt) input tree left r (record { readable = (tt, tt); offered = tt }) in
    record { formed = s.0; limits = s.1; sized = s.2; readable = read.0; offered = read.1 }

-- a builder that goes on
pub read_after : (old : Building) (left : List ℕ) (new : Building) (left2 : List ℕ) → IsReadSoFar old.config (open_of old)
    → IsTurn old left (StillBuilding new) left2 → IsReadSoFar new.config (open_of new)
read_after old left new left2 so_far t =
    subst (λ (k : Config). IsReadSoFar k (open_of new)) (sym t.keeps)
    (turn_read old.config (open_of old) left (building (open_of new)) left2 t.turn so_far)

-- what is finished
pub step_after : (old : Building) (left : List ℕ) (step : Step) (left2 : List ℕ) → IsReadSoFar old.config (open_of old) → IsTurn old left step left2
    → IsStep old left step left2
step_after old left (StillBuilding b) left2 so_far t =
    record { turn = t.turn; keeps = t.keeps; sections = t.sections; values = t.values }
step_after old left (Finished c) left2 so_far t =
    let read = turn_read old.config (open_of old) left (answered c) left2 t.turn so_far in
    record {
      turn = t.turn;
      keeps = record { formed = t.keeps.1; limits = t.keeps.0; sized = t.keeps.2; readable = read.0; offered = read.1 };
      sections = t.sections;
      values = t.values;
    }

pub step_validates : (config : Config) (step : Step) → config.must_validate ≡ true → IsConsistent config → StaysSound config step → ValidatesIfDone step
step_validates config (StillBuilding b) valid consistent keeps = tt
step_validates config (Finished c) valid consistent keeps = valid_tree config c valid consistent keeps
