-- The script of an item, of a part and of the choice to finish is read as a turn that does so.
use Rattle.std.proofs.Common.{◌≡◌, ℕ, suc, ◌+◌, ◌<◌, List, [], ◌∷◌, ◌++◌, length, arith, sym, subst, refl, true}
use Rattle.std.proofs.Common.{append_assoc}
use Rattle.std.specs.Bool.{Decides}
use Rattle.std.specs.List.{AllByRecursion}
use Rattle.std.specs.Prelude.{slice_get, Some}
use Rattle.std.proofs.lemmas.Bool.Decides.{nat_tests}
use Rattle.std.proofs.lemmas.Option.{slice_get_within}
use denote.Enum.Bare.{same_true, true_same}
use Rattle.smith_input.specs.Choices.{ReadsAmong}
use Rattle.smith_input.specs.Script.{rank_of, pick}
use Rattle.smith_input.proofs.Choices.{rank_found, among_read}
use Rattle.smith_input.proofs.Offered.{offers_found}
use Rattle.smith_input.proofs.Picks.{pick-byte}
use Rattle.smith_format.specs.Consistency.{IsConsistent}
use Rattle.smith_format.specs.declared.config.Config.{Config}
use Rattle.smith_syntax.specs.Scope.{Scope}
use Rattle.smith_tree.specs.TypeNeeds.{declaring}
use Rattle.smith_tree.specs.Marking.{marked_in, marked_inner}
use Rattle.smith_tree.specs.Offered.{OfferedPart}
use Rattle.smith_tree.specs.Spaces.{spaces_of, types_of}
use Rattle.smith_tree.specs.Tree.{Tree, ends, first, Part, custom, core_module, core_types, component, types, canons, imports, exports, add}
use Rattle.smith_tree.specs.Tree.{no_depth, most}
use Rattle.smith_tree.specs.WellFormed.{Formed, FormedPart}
use Rattle.smith_tree.specs.Limits.{OwnLimits, Maxima, Minima}
use Rattle.smith_tree.specs.Open.{Open, item_offers, items, items_with_input, is_finish_offered, is_module_offered, is_component_offered}
use Rattle.smith_tree.specs.Open.{is_export_offered, scopes_in, tree_so_far}
use Rattle.smith_component.specs.Turn.{Next, Closes, Does, Turn, with_open, with_part}
use Rattle.smith_tree.specs.Script.{Continues, item_of, script_item, script_part}
use Rattle.smith_tree.specs.Readable.{IsFinishable, IsReadablePart, IsReadableRest}
use Rattle.smith_tree.specs.contracts.choices.Item.{the_type}
use Rattle.smith_tree.specs.contracts.choices.ItemPartialEq.TheImpl.{ghosts as equal}
use Rattle.smith_tree.specs.declared.choices.Item.{Item}
use Rattle.smith_tree.specs.declared.choices.Item.TheVariants.{Finish, Custom, CoreTypes, Types, Imports, Canonical, Module, Component, Exports}
use Rattle.smith_component.proofs.Tree.{all_before, all_inner, depth-outer, depth-so_far, join-add, join-ends, join, formed_front}
use Rattle.smith_component.proofs.CanonsRead.{Spoken}
use Rattle.smith_component.proofs.PartsRead.{fills_nothing, spoken_past, custom_part, core_types_part, types_part, imports_part, canons_part, exports_part}
use Rattle.smith_component.proofs.PartsRead.{module_part, PartStands}
use Rattle.smith_component.proofs.Fits.{own_limits-front, own_limits_swap}
use Rattle.smith_component.proofs.Sound.{module_count-so_far, component_count-so_far, instance_count-so_far}
use Rattle.smith_component.proofs.Turn.{items_some}

item_Decides : (a b : Item) → Decides (equal.eq a b) (a ≡ b)
item_Decides a b = (same_true the_type tt a b, true_same the_type a b)

-- The script of an item that is offered is read as that item.
pub item_read : (config : Config) (outer : List Tree) (inner : Tree) (item : Item) (place : ℕ) (rest : List ℕ)
    → slice_get (items_with_input config (record { outer = outer; inner = inner })) place ≡ Some item
    → ReadsAmong (items config (record { outer = outer; inner = inner }) (script_item config outer inner item ++ rest))
    (script_item config outer inner item ++ rest) item rest
item_read config outer inner item place rest e =
    let stack : Open = record { outer = outer; inner = inner } in
    let xs : List Item = items_with_input config stack in
    let some = items_some config stack in
    let at : ℕ = rank_of equal.eq xs item in
    let below : at < length xs = slice_get_within xs at item (rank_found equal.eq item_Decides xs item place e) in
    let byte : pick (length xs) at ≡ at ∷ [] = pick-byte (length xs) at (omega (arith, some.0)) (omega (arith, some.1)) in
    let P : List ℕ → Type 0 = λ b. ReadsAmong (items config stack (b ++ rest)) (b ++ rest) item rest in
    let Q : List ℕ → Type 0 = λ b. ReadsAmong xs (b ++ rest) item rest in
    subst P (sym byte) (subst Q byte (among_read equal.eq item_Decides xs item place rest (omega (arith, some.1)) e))

-- What has at most what it may have has so in front.
pub limits_front : (t : Tree) (config : Config) (outer : List Tree) (a : Tree) → Maxima config (tree_so_far outer (join a t))
    → Maxima config (tree_so_far outer a)
limits_front ends config outer a l = subst (λ x. Maxima config (tree_so_far outer x)) (join-ends a) l
limits_front (first p t) config outer a l =
    let m = limits_front t config outer (add a p) (subst (λ x. Maxima config (tree_so_far outer x)) (sym (join-add a p t)) l) in
    record {
      each = all_before (OwnLimits config) (own_limits_swap config) outer a p (own_limits-front config a p) m.each;
      modules = omega (arith, m.modules, module_count-so_far outer a p);
      components = omega (arith, m.components, component_count-so_far outer a p);
      instances = omega (arith, m.instances, instance_count-so_far outer a p);
      depth = omega (arith, m.depth, depth-so_far no_depth outer a p);
      declared = omega (arith, m.declared, depth-so_far (most declaring) outer a p);
    }

-- A component that the limits allow is offered.
pub offered_from : (config : Config) (outer : List Tree) (inner u : Tree) → Maxima config (tree_so_far outer (add inner (component u)))
    → is_component_offered config (record { outer = outer; inner = inner }) ≡ true
offered_from config outer inner u l = grind (arith, depth-so_far, depth-outer, component_count-so_far, nat_tests)

-- A core module that the limits allow is offered.
module_offered : (config : Config) (outer : List Tree) (inner : Tree) (text : List ℕ) → Maxima config (tree_so_far outer (add inner (core_module text)))
    → is_module_offered config (record { outer = outer; inner = inner }) ≡ true
module_offered config outer inner text l = grind (arith, module_count-so_far, nat_tests)

-- what holds after one more part
pub limits_past : (p : Part) (t : Tree) (config : Config) (outer : List Tree) (before : Tree) → Maxima config (tree_so_far outer (join before (first p t)))
    → Maxima config (tree_so_far outer (join (add before p) t))
limits_past p t config outer before l = subst (λ x. Maxima config (tree_so_far outer x)) (sym (join-add before p t)) l

-- Turns of a script by themselves.

-- if something that is offered is there, its script and what follows is a turn
turn_of : (config : Config) (stack : Open) (item : Item) (place : ℕ) (said rest : List ℕ) (next : Next)
    → slice_get (items_with_input config stack) place ≡ Some item → Does config item stack (said ++ rest) next rest
    → Turn config stack ((script_item config stack.outer stack.inner item ++ said) ++ rest) next rest
turn_of config stack item place said rest next named does =
    let choice : List ℕ = script_item config stack.outer stack.inner item in
    subst (λ z. Turn config stack z next rest) (sym (append_assoc choice said rest))
    (record { item = item; after = said ++ rest; chooses = item_read config stack.outer stack.inner item place (said ++ rest) named; does = does })

-- the types of a plan can be said
spoken_in : (t : Tree) (config : Config) (outer : List Scope) (before : Tree) → IsReadableRest config t before → Formed t outer before
    → AllByRecursion (Spoken config) (types_of before) → AllByRecursion (Spoken config) (types_of (join before t))
spoken_in ends config outer before readable formed spoken = subst (λ x. AllByRecursion (Spoken config) (types_of x)) (sym (join-ends before)) spoken
spoken_in (first p t) config outer before readable formed spoken =
    subst (λ x. AllByRecursion (Spoken config) (types_of x)) (join-add before p t)
    (spoken_in t config outer (add before p) readable.1 formed.1 (spoken_past config p outer before readable.0 formed.0 spoken))

module _ (config : Config) (consistent : IsConsistent config) (stack : Open) where
  -- The script of a part other than a component is a turn that adds it.
  pub flat_turn : (rest : List ℕ) (p : Part) → ¬ (item_of p ≡ Component) → Maxima config (tree_so_far stack.outer (add stack.inner p))
      → IsReadablePart config p stack.inner → PartStands config (suc (length stack.outer)) p → FormedPart p (scopes_in stack.outer) stack.inner
      → OfferedPart p config (spaces_of stack.inner) (marked_in config stack.outer) (marked_inner config stack.outer stack.inner)
      → OwnLimits config (add stack.inner p)
      → AllByRecursion (Spoken config) (types_of stack.inner) → Turn config stack
      ((script_item config stack.outer stack.inner (item_of p) ++ script_part p config stack.outer stack.inner) ++ rest) (with_part stack p) rest
  flat_turn rest (custom name contents) flat m readable stands formed offered own spoken =
      let last = offers_found (item_offers config stack) 1 true Custom refl refl in
      turn_of config stack Custom last.0 _ rest _ last.1 (custom_part config stack rest name contents readable stands formed offered own)
  flat_turn rest (core_module text) flat m readable stands formed offered own spoken =
      let last = offers_found (item_offers config stack) 6 _ Module refl (module_offered config stack.outer stack.inner text m) in
      turn_of config stack Module last.0 _ rest _ last.1 (module_part config stack rest text readable stands formed offered own)
  flat_turn rest (core_types ts) flat m readable stands formed offered own spoken =
      let last = offers_found (item_offers config stack) 2 true CoreTypes refl refl in
      turn_of config stack CoreTypes last.0 _ rest _ last.1
      (core_types_part config stack rest consistent ts readable stands formed offered own)
  flat_turn rest (component t) flat m readable stands formed offered own spoken = absurd (flat refl)
  flat_turn rest (types ts) flat m readable stands formed offered own spoken =
      let last = offers_found (item_offers config stack) 3 true Types refl refl in
      turn_of config stack Types last.0 _ rest _ last.1
      (types_part config stack rest consistent ts m readable stands formed offered own)
  flat_turn rest (canons fs) flat m readable stands formed offered own spoken =
      let last = offers_found (item_offers config stack) 5 true Canonical refl refl in
      turn_of config stack Canonical last.0 _ rest _ last.1
      (canons_part config stack rest consistent spoken fs readable stands formed offered own)
  flat_turn rest (imports is) flat m readable stands formed offered own spoken =
      let last = offers_found (item_offers config stack) 4 true Imports refl refl in
      turn_of config stack Imports last.0 _ rest _ last.1
      (imports_part config stack rest consistent is m readable stands formed offered own)
  flat_turn rest (exports es) flat m readable stands formed offered own spoken =
      let some : 0 < config.max_exports = readable.0 in
      let is : is_export_offered config ≡ true = grind (arith, nat_tests, some) in
      let last = offers_found (item_offers config stack) 8 _ Exports refl is in
      turn_of config stack Exports last.0 _ rest _ last.1 (exports_part config stack rest consistent es readable stands formed offered own)

  pub part_turn : (p : Part) (rest : List ℕ) → ¬ (item_of p ≡ Component) → Continues config stack p
      → PartStands config (suc (length stack.outer)) p
      → Turn config stack ((script_item config stack.outer stack.inner (item_of p) ++ script_part p config stack.outer stack.inner) ++ rest) (with_part stack p)
      rest
  part_turn p rest flat c stands =
      let formed = formed_front stack.inner p (scopes_in stack.outer) ends c.formed in
      let own : OwnLimits config (add stack.inner p) = all_inner (OwnLimits config) stack.outer (add stack.inner p) c.maxima.each in
      let spoken = spoken_in stack.inner config (scopes_in stack.outer) ends c.before formed.0 tt in
      flat_turn rest p flat c.maxima c.readable stands formed.1 c.offered own spoken

pub opening_turn : (config : Config) (stack : Open) (rest : List ℕ) → is_component_offered config stack ≡ true
    → Turn config stack (script_item config stack.outer stack.inner Component ++ rest) (with_open stack) rest
opening_turn config stack rest offered =
    let last = offers_found (item_offers config stack) 7 _ Component refl offered in
    record { item = Component; after = rest; chooses = item_read config stack.outer stack.inner Component last.0 rest last.1; does = (refl, refl) }

pub closing_turn : (config : Config) (stack : Open) (next : Next) (rest : List ℕ) → Minima config stack.inner → IsFinishable config stack.inner
    → Closes stack next
    → Turn config stack (script_item config stack.outer stack.inner Finish ++ rest) next rest
closing_turn config stack next rest enough finishable closes =
    let is : is_finish_offered config stack.inner ≡ true = grind (arith, nat_tests, finishable) in
    let offered = offers_found (item_offers config stack) 0 _ Finish refl is in
    record {
      item = Finish;
      after = rest;
      chooses = item_read config stack.outer stack.inner Finish offered.0 rest offered.1;
      does = (stack.inner, fills_nothing config stack rest enough, closes);
    }
