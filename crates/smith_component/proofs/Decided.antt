-- The input decides a run: what a turn does, and what it leaves; so that no run continues where another is refused.
use Rattle.std.proofs.Common.{◌≡◌, ℕ, zero, suc, List, length, sym, ap, ◌∙◌, subst, arith, inl, inr}
use Rattle.smith_input.specs.Choices.{ReadsAmong}
use Rattle.smith_input.proofs.Choices.{among_same}
use Rattle.smith_format.specs.declared.config.Config.{Config}
use Rattle.smith_core.proofs.StandInSame.{stand_in_same}
use Rattle.smith_component.specs.Canonicals.{grown}
use Rattle.smith_tree.specs.Marking.{marked_in}
use Rattle.smith_tree.specs.Open.{Open, items, root, with_inner}
use Rattle.smith_component.specs.Refusals.{RunReaches, LacksOn, RefusesModuleOn}
use Rattle.smith_format.specs.Piece.{bytes_of}
use Rattle.smith_tree.specs.Tree.{Tree, custom, core_module, core_types, types, imports, exports, add, imports_of, function_count}
use Rattle.smith_component.specs.Turn.{Next, building, answered, Closes, Does, Turn, LacksAt, RefusesModuleAt, with_part}
use Rattle.smith_component.specs.AddedSections.{Adds}
use Rattle.smith_component.specs.Fills.{Fills, FillsAll, Lacks, of_imports, of_functions}
use Rattle.smith_component.specs.Runs.{Turns, RunsTo}
use Rattle.smith_component.specs.declared.item.Counted.{Counted}
use Rattle.smith_component.specs.declared.item.Counted.TheVariants as counted
use Rattle.smith_tree.specs.declared.choices.Item.{Item}
use Rattle.smith_tree.specs.declared.choices.Item.TheVariants.{Finish, Custom, CoreTypes, Types, Imports, Canonical, Module, Component, Exports}
use Rattle.smith_component.proofs.SectionsSame.{canons_same, exports_same, imports_same}
use Rattle.smith_component.proofs.ReadsCoreTypes.{core_types_same}
use Rattle.smith_component.proofs.ReadsTypes.{types_same}
use Rattle.smith_component.proofs.Turn.{closes_same}
use Rattle.smith_tree.proofs.ReadsCustom.{custom_same}

-- sections with a minimum

adds_same : (what : Counted) (config : Config) (min : ℕ) (stack : Open) (b : List ℕ) (t u : Tree) (r q : List ℕ) → Adds what config min stack b t r
    → Adds what config min stack b u q → (t ≡ u) × (r ≡ q)
adds_same counted.Types config min stack b t u r q (xs, scope, reads, e) (ys, other, read, f) =
    let d = types_same config (marked_in config stack.outer) reads read in
    (e ∙ (ap (λ z. add stack.inner (types z)) d.0 ∙ sym f), d.1)
adds_same counted.Imports config min stack b t u r q (is, reads, e) (js, read, f) =
    let d = imports_same config stack reads read in
    (e ∙ (ap (λ z. add stack.inner (imports z)) d.0 ∙ sym f), d.1)
adds_same counted.Functions config min stack b t u r q (turns, next, reads, e) (others, last, read, f) =
    let d = canons_same config reads read in
    (e ∙ (ap grown d.1 ∙ sym f), d.0)

fill_same : (what : Counted) (config : Config) (stack : Open) (b : List ℕ) (t u : Tree) (r q : List ℕ) → Fills what config stack b t r
    → Fills what config stack b u q → (t ≡ u) × (r ≡ q)
fill_same what config stack b t u r q (inl (few, e, l)) (inl (some, f, k)) = (e ∙ sym f, l ∙ sym k)
fill_same what config stack b t u r q (inl (few, e, l)) (inr (lacks, a)) = absurd (omega (arith, few, lacks))
fill_same what config stack b t u r q (inr (lacks, a)) (inl (few, e, l)) = absurd (omega (arith, few, lacks))
fill_same what config stack b t u r q (inr (lacks, a)) (inr (lack, c)) = adds_same what config _ stack b t u r q a c

-- the same when what was filled before is known by equations
fill_then : (what : Counted) (config : Config) (stack : Open) (a c : Tree) (b d : List ℕ) (t u : Tree) (r q : List ℕ) → (a ≡ c) × (b ≡ d)
    → Fills what config (with_inner stack a) b t r → Fills what config (with_inner stack c) d u q → (t ≡ u) × (r ≡ q)
fill_then what config stack a c b d t u r q e f g =
    let P : Tree → Type 0 = λ z. Fills what config (with_inner stack z) b t r in
    let Q : List ℕ → Type 0 = λ z. Fills what config (with_inner stack c) z t r in
    fill_same what config (with_inner stack c) d t u r q (subst Q e.1 (subst P e.0 f)) g

module _ {config : Config} {stack : Open} {b : List ℕ} where
  filled_imports : {typed imported typed2 imported2 : Tree} {mid low mid2 low2 : List ℕ} → Fills counted.Types config stack b typed mid
      → Fills counted.Imports config (with_inner stack typed) mid imported low
      → Fills counted.Types config stack b typed2 mid2 → Fills counted.Imports config (with_inner stack typed2) mid2 imported2 low2
      → (imported ≡ imported2) × (low ≡ low2)
  filled_imports {typed} {imported} {typed2} {imported2} {mid} {low} {mid2} {low2} t i s j =
      fill_then counted.Imports config stack typed typed2 mid mid2 imported imported2 low low2
      (fill_same counted.Types config stack b typed typed2 mid mid2 t s) i j

  pub fills_same : {full other : Tree} {r q : List ℕ} → FillsAll config stack b full r → FillsAll config stack b other q → (full ≡ other) × (r ≡ q)
  fills_same {full} {other} {r} {q} f g =
      fill_then counted.Functions config stack f.imported g.imported f.low g.low full other r q (filled_imports f.types f.imports g.types g.imports) f.functions
      g.functions

  -- Nothing is missing of what can be filled.
  pub fills_lack : {full : Tree} {r rest : List ℕ} → FillsAll config stack b full r → Lacks config stack b rest → ⊥
  fills_lack f (of_imports t i less) = let e = filled_imports t i f.types f.imports in
      omega (arith, less, f.enough_imports, ap (λ z. length (imports_of z)) e.0)
  fills_lack {full} {r} {rest} f (of_functions {imported = imported} {full = other} {low = low} t i enough g less) =
      let e = fill_then counted.Functions config stack imported f.imported low f.low other full rest r (filled_imports t i f.types f.imports) g f.functions in
      omega (arith, less, f.enough_functions, ap (λ z. function_count z) e.0)

  -- What is missing something is left the same.
  pub lacks_same : {r q : List ℕ} → Lacks config stack b r → Lacks config stack b q → r ≡ q
  lacks_same (of_imports t i less) (of_imports s j few) = (filled_imports t i s j).1
  lacks_same (of_imports t i less) (of_functions s j enough g few) =
      absurd (omega (arith, less, enough, ap (λ z. length (imports_of z)) (filled_imports t i s j).0))
  lacks_same (of_functions t i enough g less) (of_imports s j few) =
      absurd (omega (arith, few, enough, ap (λ z. length (imports_of z)) (filled_imports t i s j).0))
  lacks_same {r} {q} (of_functions {imported = imported} {full = full} {low = low} t i enough g less)
      (of_functions {imported = other} {full = filled} {low = left} s j some h few) =
      (fill_then counted.Functions config stack imported other low left full filled r q (filled_imports t i s j) g h).1

-- What an item does is decided.
pub does_same : (config : Config) (item : Item) (stack : Open) (b : List ℕ) (n m : Next) (r q : List ℕ) → Does config item stack b n r
    → Does config item stack b m q → (n ≡ m) × (r ≡ q)
does_same config Finish stack b n m r q (full, f, c) (other, g, d) =
    let e = fills_same f g in
    let P : Tree → Type 0 = λ z. Closes (with_inner stack z) n in
    (closes_same (with_inner stack other) n m (subst P e.0 c) d, e.1)
does_same config Custom stack b n m r q (name, contents, reads, e) (other, held, read, f) =
    let d = custom_same reads read in
    (e ∙ ((λ i. with_part stack (custom (d.0 i) (d.1 i))) ∙ sym f), d.2)
does_same config CoreTypes stack b n m r q (xs, scope, reads, e) (ys, other, read, f) =
    let d = core_types_same config reads read in
    (e ∙ (ap (λ z. with_part stack (core_types z)) d.0 ∙ sym f), d.1)
does_same config Types stack b n m r q (t, a, e) (u, c, f) = let d = adds_same counted.Types config 0 stack b t u r q a c in
    (e ∙ (ap (λ z. building (with_inner stack z)) d.0 ∙ sym f), d.1)
does_same config Imports stack b n m r q (t, a, e) (u, c, f) = let d = adds_same counted.Imports config 0 stack b t u r q a c in
    (e ∙ (ap (λ z. building (with_inner stack z)) d.0 ∙ sym f), d.1)
does_same config Canonical stack b n m r q (t, a, e) (u, c, f) = let d = adds_same counted.Functions config 0 stack b t u r q a c in
    (e ∙ (ap (λ z. building (with_inner stack z)) d.0 ∙ sym f), d.1)
does_same config Module stack b n m r q (x, reads, e) (y, read, f) =
    let d = stand_in_same reads read in
    (e ∙ (ap (λ z. with_part stack (core_module (bytes_of z))) d.0 ∙ sym f), d.1)
does_same config Component stack b n m r q (l, e) (k, f) = (e ∙ sym f, l ∙ sym k)
does_same config Exports stack b n m r q (es, reads, e) (fs, read, f) =
    let d = exports_same config stack.outer stack.inner reads read in
    (e ∙ (ap (λ z. with_part stack (exports z)) d.0 ∙ sym f), d.1)

-- what was chosen does the same for both
does_at : {config : Config} {stack : Open} {left : List ℕ} {item : Item} {after : List ℕ} {next : Next} {rest : List ℕ}
    → ReadsAmong (items config stack left) left item after → (t : Turn config stack left next rest) → Does config item stack after next rest
does_at {config} {stack} {left} {item} {after} {next} {rest} c t =
    let e = among_same t.chooses c in
    let P : Item → Type 0 = λ z. Does config z stack t.after next rest in
    let Q : List ℕ → Type 0 = λ z. Does config item stack z next rest in
    subst Q e.1 (subst P e.0 t.does)

-- A turn is decided.
pub turn_same : {config : Config} {stack : Open} {left : List ℕ} {n m : Next} {r q : List ℕ} → Turn config stack left n r → Turn config stack left m q
    → (n ≡ m) × (r ≡ q)
turn_same {config} {stack} {left} {n} {m} {r} {q} x y = does_same config y.item stack y.after n m r q (does_at y.chooses x) y.does

-- The rest of a run is the same from where one turn leads as from where the other leads.
pub moves : (config : Config) (n m : Next) (a b : List ℕ) (next : Next) (rest : List ℕ) (k : ℕ) → (n ≡ m) × (a ≡ b) → Turns config n a next rest k
    → Turns config m b next rest k
moves config n m a b next rest k e t =
    let P : Next → Type 0 = λ z. Turns config z a next rest k in
    let Q : List ℕ → Type 0 = λ z. Turns config m z next rest k in
    subst Q e.1 (subst P e.0 t)

-- A run that is still building is the beginning of one that ends.
pub runs_along : (k : ℕ) (config : Config) (now : Next) (left : List ℕ) (stack : Open) (left2 : List ℕ) (c : Tree) (r : List ℕ) (j : ℕ)
    → Turns config now left (building stack) left2 k → Turns config now left (answered c) r j
    → (i : ℕ) × Turns config (building stack) left2 (answered c) r i
runs_along zero config now left stack left2 c r j (e, l) s = (j, moves config now (building stack) left left2 (answered c) r j (sym e, sym l) s)
runs_along (suc k) config (answered t) left stack left2 c r j none s = absurd none
runs_along (suc k) config (building now) left stack left2 c r zero t s = absurd (let e : answered c ≡ building now = s.0 in cc)
runs_along (suc k) config (building now) left stack left2 c r (suc j) (mid, left1, one, more) (next, left3, other, rest) =
    runs_along k config mid left1 stack left2 c r j more (moves config next mid left3 left1 (answered c) r j (turn_same other one) rest)

-- Two runs to a result lead to the same one.
pub runs_same : (k : ℕ) (config : Config) (now : Next) (left : List ℕ) (a c : Tree) (b r : List ℕ) (j : ℕ) → Turns config now left (answered a) b k
    → Turns config now left (answered c) r j → (a ≡ c) × (b ≡ r)
runs_same zero config (building now) left a c b r j t s = absurd (let e : answered a ≡ building now = t.0 in cc)
runs_same zero config (answered t) left a c b r zero x y = let e : answered a ≡ answered c = x.0 ∙ sym y.0 in (let z : a ≡ c = cc in z, x.1 ∙ sym y.1)
runs_same zero config (answered t) left a c b r (suc j) x y = absurd y
runs_same (suc k) config (answered t) left a c b r j x y = absurd x
runs_same (suc k) config (building now) left a c b r zero x y = absurd (let e : answered c ≡ building now = y.0 in cc)
runs_same (suc k) config (building now) left a c b r (suc j) (mid, left1, one, more) (next, left3, other, rest) =
    runs_same k config mid left1 a c b r j more (moves config next mid left3 left1 (answered c) r j (turn_same other one) rest)

pub runs_to_same : (config : Config) (input : List ℕ) (a c : Tree) (b r : List ℕ) → RunsTo config input a b → RunsTo config input c r → (a ≡ c) × (b ≡ r)
runs_to_same config input a c b r x y = runs_same x.turns config (building root) input a c b r y.turns x.run y.run

-- No run continues from where a turn is refused.

pub lacks_no_turn : {config : Config} {stack : Open} {left q : List ℕ} {next : Next} {rest : List ℕ} → LacksAt config q stack left
    → Turn config stack left next rest → ⊥
lacks_no_turn {config} {stack} {left} {q} {next} {rest} (after, choice, lacks) t =
    let d : Does config Finish stack after next rest = does_at choice t in
    fills_lack d.1 lacks

pub refuses_no_turn : {config : Config} {stack : Open} {left after : List ℕ} {next : Next} {rest : List ℕ} → RefusesModuleAt config after stack left
    → Turn config stack left next rest → ⊥
refuses_no_turn {config} {stack} {left} {after} {next} {rest} (choice, crossed) t =
    let d : Does config Module stack after next rest = does_at choice t in
    omega (arith, crossed, d.1.ordered)

never_comes : (At : Open → List ℕ → Type 0) (config : Config) (input : List ℕ) (c : Tree) (r : List ℕ) (k : ℕ)
    → ((stack : Open) (left : List ℕ) (next : Next) (rest : List ℕ) → At stack left → Turn config stack left next rest → ⊥)
    → Turns config (building root) input (answered c) r k → RunReaches config At input → ⊥
never_comes At config input c r k never run l =
    let h = runs_along l.turns config (building root) input l.stack l.left c r k l.run run in
    stuck h.0 h.1
  where
    stuck : (j : ℕ) → Turns config (building l.stack) l.left (answered c) r j → ⊥
    stuck zero s = let e : answered c ≡ building l.stack = s.0 in cc
    stuck (suc j) (mid, left1, one, more) = never l.stack l.left mid left1 l.there one

pub runs_lack_none : (config : Config) (input : List ℕ) (c : Tree) (r rest : List ℕ) (k : ℕ) → Turns config (building root) input (answered c) r k
    → LacksOn config input rest → ⊥
runs_lack_none config input c r rest k = never_comes (LacksAt config rest) config input c r k (λ stack left n x l t. lacks_no_turn l t)

pub runs_refuse_no_module : (config : Config) (input : List ℕ) (c : Tree) (r rest : List ℕ) (k : ℕ) → Turns config (building root) input (answered c) r k
    → RefusesModuleOn config input rest → ⊥
runs_refuse_no_module config input c r rest k = never_comes (RefusesModuleAt config rest) config input c r k (λ stack left n x m t. refuses_no_turn m t)
