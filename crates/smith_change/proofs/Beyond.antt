-- Beyond the last place nothing is changed.
use Rattle.std.proofs.Common.{◌≡◌, ℕ, ◌-◌, ◌/◌, ◌%◌, ◌≤◌, Option, Some, None, ◌∷◌, ap, sym, refl, ◌∙◌, arith, ⊎_elim}
use Rattle.std.proofs.lemmas.Bool.{cases_lt}
use Rattle.std.specs.Option.{option_map}
use Rattle.smith_tree.specs.Tree.{Tree, ends, first, parts_of, tree_of}
use Rattle.smith_change.specs.Changes.{Leads, changed, changes, if_other}
use Rattle.smith_change.specs.Parts.{part_changed, part_places, places, sections_changed}
use Rattle.smith_change.specs.Rows.{entry_alternative, in_turn, unnamed}
use Rattle.smith_read.specs.Search.{past}
use Rattle.smith_read.specs.declared.search.Search.{Search}
use Rattle.smith_read.specs.declared.search.Search.TheVariants.{Ahead, Over}
use Rattle.smith_change.proofs.Passing.{ArePassed}
use Rattle.smith_read.proofs.Seeking.{past_less}
use Rattle.smith_change.proofs.Seeking.{turn_there}

pub sections_beyond : (a k : ℕ) (t : Tree) → places t ≤ k → sections_changed a k t ≡ None
sections_beyond a k ends ge = refl
sections_beyond a k (first p t) ge =
    let own : Option Tree = option_map tree_of (entry_alternative unnamed a (p ∷ parts_of t)) in
    let here : ℕ → Option Tree = λ j. option_map (λ q. first q t) (part_changed a j p) in
    let there : ℕ → Option Tree = λ j. option_map (λ u. first p u) (sections_changed a j t) in
    turn_there 1 k (λ j. own) (in_turn (part_places p) here there) (omega (arith, ge))
    ∙ turn_there (part_places p) (k - 1) here there (omega (arith, ge))
    ∙ ap (option_map (first p)) (sections_beyond a (k - 1 - part_places p) t (omega (arith, ge)))

-- The place was not reached.
pub never_reached : (a n left : ℕ) (t : Tree) (s : Search) → s ≡ past (places t) (Ahead n) → s ≡ Ahead left → None ≡ sections_changed a n t
never_reached a n left t s on ahead =
    ⊎_elim
    (λ lt. let bad : Over ≡ Ahead left = sym (past_less (places t) n lt) ∙ (sym on ∙ ahead) in absurd cc)
    (λ ge. sym (sections_beyond a n t ge))
    (cases_lt n (places t))

pub changed_beyond : (n : ℕ) (t : Tree) → changes t ≤ n → changed n t ≡ None
changed_beyond n t ge =
    let far : places t ≤ n / 16 = omega (arith, ge) in
    ap (if_other t) (sections_beyond (n % 16) (n / 16) t far)

pub none_at_all : (t : Tree) (from to : ℕ) → ArePassed t from to → changes t ≤ to → (n : ℕ) → from ≤ n → ¬ Leads t n
none_at_all t from to before_to beyond n after leads =
    ⊎_elim
    (λ less. before_to n after less leads)
    (λ more. let bad : None ≡ Some leads.1.other = sym (changed_beyond n t (omega (arith, beyond, more))) ∙ leads.1.is in absurd cc)
    (cases_lt n to)
