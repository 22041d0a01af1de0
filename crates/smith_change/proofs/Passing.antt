-- Changes that lead to nothing, passed one after another.
use Rattle.std.proofs.Common.{◌≡◌, ℕ, ◌+◌, ◌<◌, ◌≤◌, None, arith, subst, ⊎_elim}
use Rattle.std.proofs.lemmas.Bool.{cases_lt}
use Rattle.smith_tree.specs.Tree.{Tree}
use Rattle.smith_change.specs.Changes.{IsLead, Leads}

-- None from the first number on and before the second leads to anything.
abbrev pub ArePassed : Tree → ℕ → ℕ → Type 0
ArePassed t from to = (n : ℕ) → from ≤ n → n < to → ¬ Leads t n

pub none_yet : (t : Tree) (from : ℕ) → ArePassed t from from
none_yet t from n after before = absurd (omega (arith, after, before))

pub one_more : (t : Tree) (from to : ℕ) → ArePassed t from to → IsLead t to None → ArePassed t from (to + 1)
one_more t from to before_to none n after before =
    ⊎_elim
    (λ less. before_to n after less)
    (λ more. let same : to ≡ n = omega (arith, before, more) in subst (λ m. ¬ Leads t m) same none)
    (cases_lt n to)

pub ruleset passing = (none_yet, one_more)
