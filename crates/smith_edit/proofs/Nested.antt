-- The component that is sought, section by section.
use Rattle.std.proofs.Common.{◌≡◌, ℕ, zero, suc, ◌+◌, ◌<◌, ◌≤◌, false, Option, None, Some, ap, sym, refl, ◌∙◌, arith, ⊎_elim}
use Rattle.std.proofs.lemmas.Bool.{cases_lt}
use Rattle.std.proofs.lemmas.Bool.Decides.{nat_tests}
use Rattle.smith_tree.specs.Tree.{Part, Tree}
use Rattle.smith_edit.specs.Items.{part_items, tree_items}
use Rattle.smith_read.specs.Search.{is_here, past}
use Rattle.smith_edit.specs.Search.{found}
use Rattle.smith_edit.specs.Simpler.{component_at, component_in, itself_or}
use Rattle.smith_read.specs.declared.search.Search.{Search}
use Rattle.smith_read.specs.declared.search.Search.TheVariants.{Ahead, Over}
use Rattle.smith_read.proofs.Seeking.{ahead_one, among_less, among_more}
use Rattle.std.proofs.Common.{◌-◌, List}
use Rattle.std.specs.Option.{option_map}
use Rattle.smith_tree.specs.Tree.{ends, first, exports_of, imports_of}
use Rattle.smith_tree.specs.WellFormed.{export_names, import_names}
use Rattle.smith_edit.specs.Simpler.{sections_of, sections_simplified, simplified}
use Rattle.smith_read.proofs.Seeking.{past_less}
use Rattle.smith_edit.proofs.Seeking.{turn_there}

module _ {A : Type 0} where
  abbrev by_place : Option ℕ → (ℕ → Option A) → Option A
  by_place o g = elim o [ None ↦ None | Some k ↦ g k ]

  found_less : (n m : ℕ) (g : ℕ → Option A) → m < n → found n (Ahead m) g ≡ g m
  found_less n m g h = ap (λ o. by_place o g) (among_less n m h)

  found_more : (n m : ℕ) (g : ℕ → Option A) → n ≤ m → found n (Ahead m) g ≡ None
  found_more n m g h = ap (λ o. by_place o g) (among_more n m h)

-- in a section, and in sections

abbrev pub look_in : Search → Part → Option Tree
look_in s p = found (part_items p + 1) s (λ k. component_in k p)

abbrev pub look : Search → Tree → Option Tree
look s t = found (tree_items t) s (λ k. component_at k t)

module _ {A : Type 0} (whole : Option A) (g : ℕ → Option A) where
  later_by : (n m : ℕ) → found (n + 1) (Ahead (suc m)) (itself_or whole g) ≡ found n (Ahead m) g
  later_by n m = grind (arith, found_less, found_more, cases_lt)

  later_of : (n m : ℕ) → is_here (Ahead m) ≡ false → found (n + 1) (Ahead m) (itself_or whole g) ≡ found n (past 1 (Ahead m)) g
  later_of n zero h = absurd (grind (arith, nat_tests))
  later_of n (suc m) h = later_by n m ∙ sym (ap (λ s. found n s g) (ahead_one m))

  pub found_later : (n : ℕ) (s : Search) → is_here s ≡ false → found (n + 1) s (itself_or whole g) ≡ found n (past 1 s) g
  found_later n (Ahead m) h = later_of n m h
  found_later n Over h = refl

-- There is no simpler component past the last item.

sections_beyond : (is es : List (List ℕ)) (k : ℕ) (t : Tree) → tree_items t ≤ k → sections_simplified is es k t ≡ None
sections_beyond is es k ends h = refl
sections_beyond is es k (first p t) h =
    turn_there k (part_items p + 1) _ _ (omega arith)
    ∙ ap (option_map (λ u. first p u)) (sections_beyond is es (k - (part_items p + 1)) t (omega arith))

component_beyond : (k : ℕ) (t : Tree) → tree_items t ≤ k → component_at k t ≡ None
component_beyond k ends h = refl
component_beyond k (first p t) h = turn_there k (part_items p + 1) _ _ (omega arith) ∙ component_beyond (k - (part_items p + 1)) t (omega arith)

-- the nested component, or else the whole
abbrev pub or_sections : Option Tree → Option Tree → Option Tree
or_sections o p = elim o [ None ↦ p | Some u ↦ Some u ]

pub simplified_beyond : (k : ℕ) (t : Tree) → tree_items t ≤ k → None ≡ simplified k t
simplified_beyond k t h =
    sym (ap (λ o. or_sections o (sections_of k t)) (component_beyond k t h) ∙ sections_beyond (import_names (imports_of t)) (export_names (exports_of t)) k t h)

pub still_ahead : (n k j : ℕ) → Ahead j ≡ past n (Ahead k) → n ≤ k
still_ahead n k j h = ⊎_elim (λ lt. let not : Ahead j ≡ Over = h ∙ past_less n k lt in absurd cc) (λ ge. ge) (cases_lt k n)
