-- The next component inside a component, section by section.
use Rattle.std.proofs.Common.{◌≡◌, ℕ, zero, suc, ◌+◌, ◌-◌, ◌<◌, ◌≤◌, true, false, Option, None, Some, ap, sym, refl, subst, ◌∙◌, arith, nat_lt}
use Rattle.std.proofs.Common.{⊎_elim, List, drop, get_or, length, map}
use Rattle.std.specs.Option.{is_some}
use Rattle.std.proofs.lemmas.Bool.{cases_lt}
use Rattle.std.proofs.lemmas.Bool.Decides.{nat_tests}
use Rattle.smith_tree.specs.Tree.{Part, Tree, ends, first, tree_of}
use Rattle.smith_tree.specs.Tree as section
use Rattle.smith_edit.specs.Items.{part_items, tree_items}
use Rattle.smith_edit.specs.Search.{IsFirst}
use Rattle.smith_edit.specs.Simpler.{component_at, component_in}
use Rattle.smith_input.proofs.Lists.{map_drop, map_dropped}
use Rattle.smith_read.specs.PartNodes.{shown_part_node}
use Rattle.smith_read.specs.declared.nodes.PartNode.{PartNode}

-- sections

abbrev pub FirstIn : Part → ℕ → ℕ → Option ℕ → Type 0
FirstIn p = IsFirst (part_items p + 1) (λ k. component_in k p)

abbrev pub FirstAmong : Tree → ℕ → ℕ → Option ℕ → Type 0
FirstAmong t = IsFirst (tree_items t) (λ k. component_at k t)

-- the item is in this section, or after it

at_here : (p : Part) (t : Tree) (k : ℕ) → k < part_items p + 1 → component_at k (first p t) ≡ component_in k p
at_here p t k h = let test : nat_lt k (part_items p + 1) ≡ true = grind (arith, nat_tests) in rw test refl

at_later : (p : Part) (t : Tree) (k : ℕ) → part_items p + 1 ≤ k → component_at k (first p t) ≡ component_at (k - (part_items p + 1)) t
at_later p t k h = let test : nat_lt k (part_items p + 1) ≡ false = grind (arith, nat_tests) in rw test refl

pub found_here : (p : Part) (t : Tree) (number from first_number : ℕ) → FirstIn p number from (Some first_number)
    → FirstAmong (first p t) number from (Some first_number)
found_here p t number from m (k, within, is, after, some, before) = (
  k,
  omega (arith, within),
  is,
  after,
  λ none. some (sym (at_here p t k within) ∙ none),
  λ j low high. at_here p t j (omega (arith, high, within)) ∙ before j low high,
)

later_none : (p : Part) (t : Tree) (number from : ℕ) → FirstIn p number from None → (k : ℕ)
    → ((j : ℕ) → from ≤ number + (part_items p + 1) + j → j < k → component_at j t ≡ None)
    → (j : ℕ) → from ≤ number + j → j < k + (part_items p + 1) → component_at j (first p t) ≡ None
later_none p t number from here k rest j low high =
    ⊎_elim
    (λ lt. at_here p t j lt ∙ here j low lt)
    (λ ge. at_later p t j ge ∙ rest (j - (part_items p + 1)) (omega (arith, low, ge)) (omega (arith, high, ge)))
    (cases_lt j (part_items p + 1))

pub found_later : (p : Part) (t : Tree) (number from : ℕ) (o : Option ℕ) → FirstIn p number from None
    → FirstAmong t (number + (part_items p + 1)) from o → FirstAmong (first p t) number from o
found_later p t number from None here rest = λ j low high. later_none p t number from here (tree_items t) rest j low (omega (arith, high))
found_later p t number from (Some m) here (k, within, is, after, some, before) = (
  k + (part_items p + 1),
  omega (arith, within),
  omega (arith, is),
  after,
  λ none. some (back k ∙ none),
  λ j low high. later_none p t number from here k before j low high,
)
  where
    back : (k : ℕ) → component_at k t ≡ component_at (k + (part_items p + 1)) (first p t)
    back k = let same : k + (part_items p + 1) - (part_items p + 1) ≡ k = omega arith in
        sym (at_later p t (k + (part_items p + 1)) (omega arith) ∙ ap (λ j. component_at j t) same)

-- a component as a section

pub itself_first : (t : Tree) (number from : ℕ) → from ≤ number → FirstIn (section.component t) number from (Some number)
itself_first t number from h = (0, omega arith, omega arith, h, λ none. absurd cc, λ j low high. absurd (omega (arith, high)))

inside_none : (t : Tree) (number from : ℕ) → number < from → (k : ℕ) → ((j : ℕ) → from ≤ number + 1 + j → j < k → component_at j t ≡ None)
    → (j : ℕ) → from ≤ number + j → j < k + 1 → component_in j (section.component t) ≡ None
inside_none t number from h k rest zero low high = absurd (omega (arith, h, low))
inside_none t number from h k rest (suc j) low high = rest j (omega (arith, low)) (omega (arith, high))

pub inside_first : (t : Tree) (number from : ℕ) (o : Option ℕ) → number < from → FirstAmong t (number + 1) from o
    → FirstIn (section.component t) number from o
inside_first t number from None h rest = inside_none t number from h (tree_items t) rest
inside_first t number from (Some m) h (k, within, is, after, some, before) = (
  suc k,
  omega (arith, within),
  omega (arith, is),
  after,
  some,
  λ j low high. inside_none t number from h k before j low (omega (arith, high)),
)

-- one section after another

abbrev pub rest_of : List PartNode → ℕ → Tree
rest_of nodes i = tree_of (map shown_part_node (drop i nodes))

module _ (from next : ℕ) (nodes : List PartNode) (i : ℕ) (Whole : Option ℕ → Type 0)
    (so_far : (o : Option ℕ) → FirstAmong (rest_of nodes i) next from o → Whole o) where
  module _ (x : PartNode) (lt : i < length nodes) (at : x ≡ get_or nodes i x) where
    next_section : rest_of nodes i ≡ first (shown_part_node x) (rest_of nodes (i + 1))
    next_section = ap tree_of (map_drop shown_part_node nodes i x lt at)

    pub found_step : (o : Option ℕ) → is_some o ≡ true → FirstIn (shown_part_node x) next from o → Whole o
    found_step None some h = absurd cc
    found_step (Some m) some h =
        so_far (Some m)
        (subst (λ t. FirstAmong t next from (Some m)) (sym next_section) (found_here (shown_part_node x) (rest_of nodes (i + 1)) next from m h))

    pub passed_step : (o : Option ℕ) → is_some o ≡ false → FirstIn (shown_part_node x) next from o
        → (after : ℕ) → after ≡ next + (part_items (shown_part_node x) + 1)
        → (r : Option ℕ) → FirstAmong (rest_of nodes (i + 1)) after from r → Whole r
    passed_step (Some m) none h = λ after e r more. absurd cc
    passed_step None none h = λ after e r more. so_far r
        (subst (λ t. FirstAmong t next from r) (sym next_section)
        (found_later (shown_part_node x) (rest_of nodes (i + 1)) next from r h (subst (λ n. FirstAmong (rest_of nodes (i + 1)) n from r) e more)))

  pub end_step : length nodes ≤ i → Whole None
  end_step h = so_far None
      (subst (λ t. FirstAmong t next from None) (sym (ap tree_of (map_dropped shown_part_node nodes i h))) (λ j low high. absurd (omega (arith, high))))
