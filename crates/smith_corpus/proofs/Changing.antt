-- A number past those of all places leads to nothing.
use Rattle.std.proofs.Common.{◌≡◌, ◌↔◌, false, true, ℕ, ◌<◌, ◌≤◌, Option, Some, None, arith, ⊎_elim}
use Rattle.std.specs.Prelude.{IsSome}
use Rattle.std.proofs.lemmas.Bool.{cases_lt}
use Rattle.smith_tree.specs.Tree.{Tree}
use Rattle.smith_change.specs.Changes.{Leads, changes}
use Rattle.smith_change.specs.declared.kinds.PlaceKind.{PlaceKind}
use Rattle.smith_change.proofs.Beyond.{none_at_all}
use Rattle.smith_change.proofs.Passing.{none_yet}

pub no_place : (t : Tree) (n : ℕ) (place : Option PlaceKind) → place ≡ None → (IsSome place ↔ (n < changes t)) → ¬ Leads t n
no_place t n (Some kind) none there leads = absurd cc
no_place t n None none there leads =
    ⊎_elim
    (λ less. let bad : false ≡ true = there.1 less in absurd cc)
    (λ more. none_at_all t n n (none_yet t n) (omega (arith, more)) n (omega arith) leads)
    (cases_lt n (changes t))
