-- The limits and the input decide the answer, allocation failure aside: the component, its bytes and what is left, or the
-- refusal.
use Rattle.std.proofs.Common.{◌≡◌, ℕ, zero, suc, List, refl, sym, ap, ◌∙◌, subst, None, Some}
use Rattle.smith_input.proofs.Choices.{among_same}
use Rattle.smith_input.specs.declared.error.Error.{Error}
use Rattle.smith_input.specs.declared.error.Error.TheVariants.{InconsistentLimits, MinimumNotMet, ModuleRefused, TooLong, OutOfMemory, PartsDisagree}
use Rattle.smith_format.specs.Consistency.{IsConsistent}
use Rattle.smith_format.specs.declared.config.Config.{Config}
use Rattle.smith_tree.specs.Grammar.{Spells, component_text}
use Rattle.smith_tree.specs.Open.{Open, root}
use Rattle.smith_component.specs.Fills.{Lacks}
use Rattle.smith_component.specs.Refusals.{IsGenerateRefusal, LacksOn, RefusesModuleOn, RunReaches}
use Rattle.smith_tree.specs.Tree.{Tree}
use Rattle.smith_component.specs.Turn.{Next, building, answered, LacksAt, RefusesModuleAt, Turn}
use Rattle.smith_component.specs.Runs.{RunsTo, Turns}
use Rattle.smith_tree.specs.declared.choices.Item.TheVariants.{Finish, Module}
use Rattle.smith_component.proofs.Decided.{lacks_no_turn, lacks_same, moves, refuses_no_turn, runs_lack_none, runs_refuse_no_module, runs_to_same, turn_same}

-- A turn is stuck if none can be taken.
abbrev IsStuck : Config → Open → List ℕ → Type 0
IsStuck config stack left = (next : Next) (rest : List ℕ) → Turn config stack left next rest → ⊥

-- Two runs that get stuck get stuck at the same place.
stuck_same : (j k : ℕ) (config : Config) (now : Next) (left : List ℕ) (s t : Open) (b c : List ℕ) → Turns config now left (building s) b j
    → Turns config now left (building t) c k → IsStuck config s b → IsStuck config t c → (s ≡ t) × (b ≡ c)
stuck_same zero zero config now left s t b c (e, l) (f, m) p q = let g : building s ≡ building t = e ∙ sym f in (let z : s ≡ t = cc in z, l ∙ sym m)
stuck_same zero (suc k) config (answered u) left s t b c x y p q = absurd y
stuck_same zero (suc k) config (building now) left s t b c (e, l) (mid, left1, one, more) p q =
    let same : s ≡ now = cc in
    let P : Open → Type 0 = λ z. Turn config z left mid left1 in
    let Q : List ℕ → Type 0 = λ z. Turn config s z mid left1 in
    absurd (p mid left1 (subst Q (sym l) (subst P (sym same) one)))
stuck_same (suc j) zero config (answered u) left s t b c x y p q = absurd x
stuck_same (suc j) zero config (building now) left s t b c (mid, left1, one, more) (e, l) p q =
    let same : t ≡ now = cc in
    let P : Open → Type 0 = λ z. Turn config z left mid left1 in
    let Q : List ℕ → Type 0 = λ z. Turn config t z mid left1 in
    absurd (q mid left1 (subst Q (sym l) (subst P (sym same) one)))
stuck_same (suc j) (suc k) config (answered u) left s t b c x y p q = absurd x
stuck_same (suc j) (suc k) config (building now) left s t b c (mid, left1, one, more) (next, left2, other, rest) p q =
    stuck_same j k config mid left1 s t b c more (moves config next mid left2 left1 (building t) c k (turn_same other one) rest) p q

-- If a run is missing something, or if a core module is refused, no turn can be taken.
lacks_stuck : {config : Config} {rest : List ℕ} (stack : Open) (left : List ℕ) → LacksAt config rest stack left → IsStuck config stack left
lacks_stuck stack left lacks next rest t = lacks_no_turn lacks t

refuses_stuck : {config : Config} {rest : List ℕ} (stack : Open) (left : List ℕ) → RefusesModuleAt config rest stack left → IsStuck config stack left
refuses_stuck stack left refuses next rest t = refuses_no_turn refuses t

module _ (config : Config) (input : List ℕ) where
  -- What is true when one run is stuck is true when another is.
  at_other : (At Other : Open → List ℕ → Type 0) → ((stack : Open) (left : List ℕ) → At stack left → IsStuck config stack left)
      → ((stack : Open) (left : List ℕ) → Other stack left → IsStuck config stack left) → RunReaches config At input → (m : RunReaches config Other input)
      → At m.stack m.left
  at_other At Other p q l m =
      let same = stuck_same l.turns m.turns config (building root) input l.stack m.stack l.left m.left l.run m.run (p l.stack l.left l.there)
      (q m.stack m.left m.there) in
      subst (At m.stack) same.1 (subst (λ z. At z l.left) same.0 l.there)

  -- No input both is missing something and has a core module refused.
  apart : {rest left : List ℕ} → LacksOn config input rest → RefusesModuleOn config input left → ⊥
  apart {rest} {left} l m =
      let here = at_other (LacksAt config rest) (RefusesModuleAt config left) lacks_stuck refuses_stuck l m in
      let e : Finish ≡ Module = (among_same here.1 m.there.0).0 in
      cc

  -- Each of the two refusals leaves what is decided.
  lacks_leave : {rest left : List ℕ} → LacksOn config input rest → LacksOn config input left → rest ≡ left
  lacks_leave {rest} {left} l m =
      let here = at_other (LacksAt config rest) (LacksAt config left) lacks_stuck lacks_stuck l m in
      let after = (among_same here.1 m.there.1).1 in
      lacks_same (subst (λ z. Lacks config m.stack z rest) after here.2) m.there.2

  refuses_leave : {rest left : List ℕ} → RefusesModuleOn config input rest → RefusesModuleOn config input left → rest ≡ left
  refuses_leave {rest} {left} l m =
      (among_same (at_other (RefusesModuleAt config rest) (RefusesModuleAt config left) refuses_stuck refuses_stuck l m).0 m.there.0).1

  -- What is answered is not refused, allocation failure aside.
  pub answer_or_memory : (c : Tree) (left b : List ℕ) → IsConsistent config → RunsTo config input c left → Spells c b → (e : Error) (rest : List ℕ)
      → IsGenerateRefusal config input e rest → e ≡ OutOfMemory
  answer_or_memory c left b consistent run spells InconsistentLimits rest h = absurd (h.0 consistent)
  answer_or_memory c left b consistent run spells MinimumNotMet rest h = absurd (runs_lack_none config input c left rest run.turns run.run h.1)
  answer_or_memory c left b consistent run spells ModuleRefused rest h = absurd (runs_refuse_no_module config input c left rest run.turns run.run h.1)
  answer_or_memory c left b consistent run spells TooLong rest (same, t, other, long) =
      let d = runs_to_same config input t c rest left other run in
      let e : None ≡ Some b = sym long ∙ (ap component_text d.0 ∙ spells) in
      absurd (cc)
  answer_or_memory c left b consistent run spells OutOfMemory rest h = refl
  answer_or_memory c left b consistent run spells PartsDisagree rest h = absurd h

  -- which refusal it is, and what it leaves, if it is not for being out of memory
  abbrev Decided : Error → Error → List ℕ → List ℕ → Type 0
  Decided d e left rest = ¬ (d ≡ OutOfMemory) → ¬ (e ≡ OutOfMemory) → (d ≡ e) × (left ≡ rest)

  pub refusal_same : (d e : Error) (left rest : List ℕ) → IsGenerateRefusal config input d left → IsGenerateRefusal config input e rest
      → Decided d e left rest
  refusal_same InconsistentLimits InconsistentLimits left rest h k n m = (refl, h.1 ∙ sym k.1)
  refusal_same InconsistentLimits MinimumNotMet left rest h k n m = absurd (h.0 k.0)
  refusal_same InconsistentLimits ModuleRefused left rest h k n m = absurd (h.0 k.0)
  refusal_same InconsistentLimits TooLong left rest h k n m = absurd (h.0 k.0)
  refusal_same InconsistentLimits OutOfMemory left rest h k n m = absurd (m refl)
  refusal_same InconsistentLimits PartsDisagree left rest h k n m = absurd k
  refusal_same MinimumNotMet InconsistentLimits left rest h k n m = absurd (k.0 h.0)
  refusal_same MinimumNotMet MinimumNotMet left rest h k n m = (refl, lacks_leave h.1 k.1)
  refusal_same MinimumNotMet ModuleRefused left rest h k n m = absurd (apart h.1 k.1)
  refusal_same MinimumNotMet TooLong left rest h k n m = absurd (runs_lack_none config input k.1 rest left k.2.turns k.2.run h.1)
  refusal_same MinimumNotMet OutOfMemory left rest h k n m = absurd (m refl)
  refusal_same MinimumNotMet PartsDisagree left rest h k n m = absurd k
  refusal_same ModuleRefused InconsistentLimits left rest h k n m = absurd (k.0 h.0)
  refusal_same ModuleRefused MinimumNotMet left rest h k n m = absurd (apart k.1 h.1)
  refusal_same ModuleRefused ModuleRefused left rest h k n m = (refl, refuses_leave h.1 k.1)
  refusal_same ModuleRefused TooLong left rest h k n m = absurd (runs_refuse_no_module config input k.1 rest left k.2.turns k.2.run h.1)
  refusal_same ModuleRefused OutOfMemory left rest h k n m = absurd (m refl)
  refusal_same ModuleRefused PartsDisagree left rest h k n m = absurd k
  refusal_same TooLong InconsistentLimits left rest h k n m = absurd (k.0 h.0)
  refusal_same TooLong MinimumNotMet left rest h k n m = absurd (runs_lack_none config input h.1 left rest h.2.turns h.2.run k.1)
  refusal_same TooLong ModuleRefused left rest h k n m = absurd (runs_refuse_no_module config input h.1 left rest h.2.turns h.2.run k.1)
  refusal_same TooLong TooLong left rest h k n m = (refl, (runs_to_same config input h.1 k.1 left rest h.2 k.2).1)
  refusal_same TooLong OutOfMemory left rest h k n m = absurd (m refl)
  refusal_same TooLong PartsDisagree left rest h k n m = absurd k
  refusal_same OutOfMemory e left rest h k n m = absurd (n refl)
  refusal_same PartsDisagree e left rest h k n m = absurd h
