-- The script of the parts of a component leads to that component, and the script of a plan to that plan.
use Rattle.std.proofs.Common.{◌≡◌, ℕ, suc, List, [], ◌∷◌, ◌++◌, length, arith, ap, sym, subst, ◌∙◌, refl, inl, inr, append_assoc, append-nil, length-append}
use Rattle.std.specs.List.{AllByRecursion}
use Rattle.smith_format.specs.Consistency.{IsConsistent}
use Rattle.smith_format.specs.declared.config.Config.{Config}
use Rattle.smith_tree.specs.Limits.{Maxima, Minima, OwnLimits}
use Rattle.smith_tree.specs.Open.{Open, root, scopes_in, tree_so_far}
use Rattle.smith_tree.specs.Readable.{AreFinishable, CanBeGenerated, IsFinishable, IsReadableRest}
use Rattle.smith_tree.specs.Script.{item_of, script, script_from, script_item, script_part}
use Rattle.smith_tree.specs.Spaces.{types_of}
use Rattle.smith_tree.specs.Tree.{Tree, ends, first, Part, custom, core_module, core_types, component, types, canons, imports, exports, add, inside}
use Rattle.smith_tree.specs.WellFormed.{Formed}
use Rattle.smith_tree.specs.declared.choices.Item.TheVariants.{Finish, Component}
use Rattle.smith_component.specs.Runs.{Turns}
use Rattle.smith_component.specs.Turn.{Next, Turn, answered, building, with_part}
use Rattle.smith_component.proofs.CanonsRead.{Spoken}
use Rattle.smith_component.proofs.Marks.{OfferedRest, offered_inside, offered_past}
use Rattle.smith_component.proofs.PartsRead.{spoken_past, Stands}
use Rattle.smith_component.proofs.Script.{closing_turn, flat_turn, limits_front, limits_past, offered_from, opening_turn}
use Rattle.smith_component.proofs.Sound.{scopes_from-snoc}
use Rattle.smith_component.proofs.Tree.{all_inner, join, join-add, join-ends, tree_so_far-close}
use Rattle.smith_scopes.proofs.Plain.{all_back, all_front}

-- The rest of a component that can be generated, when these components are open around it and these parts precede it.
pub record Known (config : Config) (outer : List Tree) (before t : Tree) : Type 0 where
  pub spoken : AllByRecursion (Spoken config) (types_of before)
  pub readable : IsReadableRest config t before
  pub stands : Stands config (suc (length outer)) t
  pub formed : Formed t (scopes_in outer) before
  pub offered : OfferedRest config outer before t
  pub maxima : Maxima config (tree_so_far outer (join before t))

module _ (config : Config) (outer : List Tree) (before : Tree) where
  -- after one more part
  pub known_past : (p : Part) (t : Tree) → Known config outer before (first p t) → Known config outer (add before p) t
  known_past p t k = record {
    spoken = spoken_past config p (scopes_in outer) before k.readable.0 k.formed.0 k.spoken;
    readable = k.readable.1;
    stands = k.stands.1;
    formed = k.formed.1;
    offered = offered_past p t config outer before k.offered;
    maxima = limits_past p t config outer before k.maxima;
  }

  -- the limits with the next part
  pub with_next : (p : Part) (t : Tree) → Known config outer before (first p t) → Maxima config (tree_so_far outer (add before p))
  with_next p t k = limits_front t config outer (add before p) (limits_past p t config outer before k.maxima)

  -- within a component
  pub known_inside : (u t : Tree) → Known config outer before (first (component u) t) → Known config (outer ++ before ∷ []) ends u
  known_inside u t k =
      let longer : length (outer ++ before ∷ []) ≡ suc (length outer) = omega (arith, length-append outer (before ∷ [])) in
      record {
        spoken = tt;
        readable = k.readable.0;
        stands = subst (λ n. Stands config (suc n) u) (sym longer) k.stands.0;
        formed = subst (λ ss. Formed u ss ends) (sym (scopes_from-snoc outer before [])) k.formed.0;
        offered = offered_inside u config outer before k.offered.0;
        maxima = subst (Maxima config) (sym (tree_so_far-close outer before u)) (with_next (component u) t k);
      }

-- after some of the parts
pub known_behind : (t s : Tree) (config : Config) (outer : List Tree) (before : Tree) → Known config outer before (join t s)
    → Known config outer (join before t) s
known_behind ends s config outer before k = subst (λ x. Known config outer x s) (sym (join-ends before)) k
known_behind (first p t) s config outer before k =
    subst (λ x. Known config outer x s) (join-add before p t)
    (known_behind t s config outer (add before p) (known_past config outer before p (join t s) k))

-- A component that is finished meets the minima, and input may be left then.
pub record Ends (config : Config) (t : Tree) : Type 0 where
  pub minima : Minima config t
  pub finishable : IsFinishable config t

pub all_end : (config : Config) (ts : List Tree) → AllByRecursion (Minima config) ts → AllByRecursion (IsFinishable config) ts
    → AllByRecursion (Ends config) ts
all_end config [] m f = tt
all_end config (t ∷ ts) m f = (record { minima = m.0; finishable = f.0 }, all_end config ts m.1 f.1)

-- the script of the rest of a component, but for the choice to finish it
abbrev pub script_parts : Tree → Config → List Tree → Tree → List ℕ
script_parts ends config outer before = []
script_parts (first p t) config outer before = (script_item config outer before (item_of p) ++ script_part p config outer before)
    ++ script_parts t config outer (add before p)

pub script_parts-add : (t : Tree) (p : Part) (config : Config) (outer : List Tree) (before : Tree) → script_parts (add t p) config outer before
    ≡ script_parts t config outer before ++ (script_item config outer (join before t) (item_of p) ++ script_part p config outer (join before t))
script_parts-add ends p config outer before = grind (arith, append-nil, join-ends)
script_parts-add (first q t) p config outer before =
    let last : Tree → List ℕ = λ x. script_item config outer x (item_of p) ++ script_part p config outer x in
    let here : List ℕ = script_item config outer before (item_of q) ++ script_part q config outer before in
    let more : List ℕ = script_parts t config outer (add before q) in
    ap (λ z. here ++ z) (script_parts-add t p config outer (add before q) ∙ ap (λ x. more ++ last x) (join-add before q t))
    ∙ sym (append_assoc here more (last (join before (first q t))))

pub script_split : (t : Tree) (config : Config) (outer : List Tree) (before : Tree)
    → script_from t config outer before ≡ script_parts t config outer before ++ script_item config outer (join before t) Finish
script_split ends config outer before = ap (λ x. script_item config outer x Finish) (sym (join-ends before))
script_split (first p t) config outer before =
    let here : List ℕ = script_item config outer before (item_of p) ++ script_part p config outer before in
    let more : List ℕ = script_parts t config outer (add before p) in
    ap (λ z. here ++ z) (script_split t config outer (add before p)
    ∙ ap (λ x. more ++ script_item config outer x Finish) (join-add before p t))
    ∙ sym (append_assoc here more (script_item config outer (join before (first p t)) Finish))

-- Turns in a row lead from these open components and bytes to what follows and the bytes left then.
abbrev pub Leads : Config → Open → List ℕ → Next → List ℕ → Type 0
Leads config stack b next left = (k : ℕ) × Turns config (building stack) b next left k

pub turn_leads : {config : Config} {stack mid : Open} {b rest left : List ℕ} {next : Next} → Turn config stack b (building mid) rest
    → Leads config mid rest next left → Leads config stack b next left
turn_leads {config} {stack} {mid} {b} {rest} turn m = (suc m.0, (building mid, rest, turn, m.1))

module _ (config : Config) (consistent : IsConsistent config) (outer : List Tree) (before : Tree) (rest : List ℕ) (next : Next) (left : List ℕ) where
  -- the script of a part other than a component, if the script of the parts after it leads to the rest
  flat_leads : (p : Part) (t s : Tree) → ¬ (item_of p ≡ Component) → Known config outer before (join (first p t) s)
      → (Known config outer (add before p) (join t s) → Leads config (record { outer = outer; inner = join (add before p) t }) rest next left
      → Leads config (record { outer = outer; inner = add before p }) (script_parts t config outer (add before p) ++ rest) next left)
      → Leads config (record { outer = outer; inner = join before (first p t) }) rest next left
      → Leads config (record { outer = outer; inner = before }) (script_parts (first p t) config outer before ++ rest) next left
  flat_leads p t s flat k onward m =
      let stack : Open = record { outer = outer; inner = before } in
      let here : List ℕ = script_item config outer before (item_of p) ++ script_part p config outer before in
      let later : List ℕ = script_parts t config outer (add before p) in
      let with_p = with_next config outer before p (join t s) k in
      let own : OwnLimits config (add before p) = all_inner (OwnLimits config) outer (add before p) with_p.each in
      let turn : Turn config stack (here ++ (later ++ rest)) (with_part stack p) (later ++ rest) =
      flat_turn config consistent stack (later ++ rest) p flat with_p k.readable.0 k.stands.0 k.formed.0 k.offered.0 own k.spoken in
      let leads = onward (known_past config outer before p (join t s) k)
      (subst (λ x. Leads config (record { outer = outer; inner = x }) rest next left) (sym (join-add before p t)) m) in
      subst (λ z. Leads config stack z next left) (sym (append_assoc here later rest)) (turn_leads turn leads)

  -- the script of a component, when its parts' script leads to it, and then the rest
  component_leads : (u t : Tree) (later : List ℕ) → Known config outer before (first (component u) t) → Ends config u
      → ((tail : List ℕ) → Leads config (record { outer = outer ++ before ∷ []; inner = u }) tail next left
      → Leads config (record { outer = outer ++ before ∷ []; inner = ends }) (script_parts u config (outer ++ before ∷ []) ends ++ tail) next left)
      → Leads config (record { outer = outer; inner = add before (component u) }) (later ++ rest) next left
      → Leads config (record { outer = outer; inner = before })
      (((script_item config outer before Component ++ script_from u config (outer ++ before ∷ []) ends) ++ later) ++ rest) next left
  component_leads u t later k end inner m =
      let stack : Open = record { outer = outer; inner = before } in
      let around : List Tree = outer ++ before ∷ [] in
      let choice : List ℕ = script_item config outer before Component in
      let whole : List ℕ = script_from u config around ends in
      let these : List ℕ = script_parts u config around ends in
      let last : List ℕ = script_item config around u Finish in
      let closed : Open = record { outer = outer; inner = add before (component u) } in
      let closing : Turn config (record { outer = around; inner = u }) (last ++ (later ++ rest)) (building closed) (later ++ rest) =
      closing_turn config (record { outer = around; inner = u }) (building closed) (later ++ rest) end.minima end.finishable
      (inr (outer, before, refl, refl)) in
      let opened = inner (last ++ (later ++ rest)) (turn_leads closing m) in
      let opening = opening_turn config stack (these ++ (last ++ (later ++ rest)))
      (offered_from config outer before u (with_next config outer before (component u) t k)) in
      let same : ((choice ++ whole) ++ later) ++ rest ≡ choice ++ (these ++ (last ++ (later ++ rest))) =
      append_assoc (choice ++ whole) later rest ∙ append_assoc choice whole (later ++ rest)
      ∙ ap (λ z. choice ++ (z ++ (later ++ rest))) (script_split u config around ends)
      ∙ ap (λ z. choice ++ z) (append_assoc these last (later ++ rest)) in
      subst (λ z. Leads config stack z next left) (sym same) (turn_leads opening opened)

-- The script of some of the parts leads to the component with these parts, whatever follows.
pub reach_parts : (t s : Tree) (config : Config) (consistent : IsConsistent config) (outer : List Tree) (before : Tree) (rest : List ℕ) (next : Next)
    (left : List ℕ) → Known config outer before (join t s) → AllByRecursion (Ends config) (inside t)
    → Leads config (record { outer = outer; inner = join before t }) rest next left
    → Leads config (record { outer = outer; inner = before }) (script_parts t config outer before ++ rest) next left
reach_parts ends s config consistent outer before rest next left k each m =
    subst (λ x. Leads config (record { outer = outer; inner = x }) rest next left) (join-ends before) m
reach_parts (first (custom name contents) t) s config consistent outer before rest next left k each m =
    flat_leads config consistent outer before rest next left (custom name contents) t s (λ e. cc) k
    (λ known n. reach_parts t s config consistent outer (add before (custom name contents)) rest next left known each n) m
reach_parts (first (core_module text) t) s config consistent outer before rest next left k each m =
    flat_leads config consistent outer before rest next left (core_module text) t s (λ e. cc) k
    (λ known n. reach_parts t s config consistent outer (add before (core_module text)) rest next left known each n) m
reach_parts (first (core_types ts) t) s config consistent outer before rest next left k each m =
    flat_leads config consistent outer before rest next left (core_types ts) t s (λ e. cc) k
    (λ known n. reach_parts t s config consistent outer (add before (core_types ts)) rest next left known each n) m
reach_parts (first (component u) t) s config consistent outer before rest next left k each m =
    let p : Part = component u in
    let in_it : AllByRecursion (Ends config) (u ∷ inside u) = all_front (Ends config) (u ∷ inside u) (inside t) each in
    let around : List Tree = outer ++ before ∷ [] in
    let known : Known config around ends (join u ends) =
    subst (Known config around ends) (sym (join-ends u)) (known_inside config outer before u (join t s) k) in
    component_leads config consistent outer before rest next left u (join t s) (script_parts t config outer (add before p)) k in_it.0
    (λ tail n. reach_parts u ends config consistent around ends tail next left known in_it.1 n)
    (reach_parts t s config consistent outer (add before p) rest next left (known_past config outer before p (join t s) k)
    (all_back (Ends config) (u ∷ inside u) (inside t) each)
    (subst (λ x. Leads config (record { outer = outer; inner = x }) rest next left) (sym (join-add before p t)) m))
reach_parts (first (types ts) t) s config consistent outer before rest next left k each m =
    flat_leads config consistent outer before rest next left (types ts) t s (λ e. cc) k
    (λ known n. reach_parts t s config consistent outer (add before (types ts)) rest next left known each n) m
reach_parts (first (canons fs) t) s config consistent outer before rest next left k each m =
    flat_leads config consistent outer before rest next left (canons fs) t s (λ e. cc) k
    (λ known n. reach_parts t s config consistent outer (add before (canons fs)) rest next left known each n) m
reach_parts (first (imports is) t) s config consistent outer before rest next left k each m =
    flat_leads config consistent outer before rest next left (imports is) t s (λ e. cc) k
    (λ known n. reach_parts t s config consistent outer (add before (imports is)) rest next left known each n) m
reach_parts (first (exports es) t) s config consistent outer before rest next left k each m =
    flat_leads config consistent outer before rest next left (exports es) t s (λ e. cc) k
    (λ known n. reach_parts t s config consistent outer (add before (exports es)) rest next left known each n) m

pub known_plan : (config : Config) (plan : Tree) → CanBeGenerated config plan → Stands config 1 plan → Known config [] ends plan
known_plan config plan c stands = record {
  spoken = tt;
  readable = c.readable;
  stands = stands;
  formed = c.formed;
  offered = c.offered;
  maxima = c.limits.maxima;
}

pub reach : (config : Config) (plan : Tree) (rest : List ℕ) → IsConsistent config → CanBeGenerated config plan → AreFinishable config plan
    → Stands config 1 plan
    → (k : ℕ) × Turns config (building root) (script config plan ++ rest) (answered plan) rest k
reach config plan rest consistent c finishable stands =
    let all : AllByRecursion (Ends config) (plan ∷ inside plan) = all_end config (plan ∷ inside plan) c.limits.minima finishable in
    let these : List ℕ = script_parts plan config [] ends in
    let last : List ℕ = script_item config [] plan Finish in
    let known : Known config [] ends (join plan ends) = subst (Known config [] ends) (sym (join-ends plan)) (known_plan config plan c stands) in
    let closing : Turn config (record { outer = []; inner = plan }) (last ++ rest) (answered plan) rest =
    closing_turn config (record { outer = []; inner = plan }) (answered plan) rest all.0.minima all.0.finishable (inl (refl, refl)) in
    let same : script config plan ++ rest ≡ these ++ (last ++ rest) =
    ap (λ z. z ++ rest) (script_split plan config [] ends) ∙ append_assoc these last rest in
    subst (λ z. Leads config root z (answered plan) rest) (sym same)
    (reach_parts plan ends config consistent [] ends (last ++ rest) (answered plan) rest known all.1 (1, (answered plan, rest, closing, (refl, refl))))
