-- Steps that lead to no wanted component, passed one after another.
use Rattle.std.proofs.Common.{◌≡◌, ℕ, zero, suc, [], ◌∷◌, ◌+◌, ◌-◌, ◌<◌, ◌≤◌, List, Some, None, false, true, arith, nat_lt, sym, subst, ap, ◌∙◌, ⊎_elim}
use Rattle.std.proofs.lemmas.Bool.{cases_lt}
use Rattle.std.proofs.lemmas.Bool.Decides.{nat_tests}
use Rattle.std.specs.Prelude.{if◌then◌else◌}
use Rattle.std.specs.List.{AllByRecursion}
use Rattle.smith_format.specs.declared.config.Config.{Config}
use Rattle.smith_tree.specs.Limits.{OwnLimits}
use Rattle.smith_tree.specs.Tree.{Tree, inside}
use Rattle.smith_component.proofs.RunsSound.{runs_sound}
use Rattle.smith_edit.proofs.FewerEntries.{maxima_kept}
use Rattle.smith_edit.proofs.SimplerEntries.{maxima_simplified}
use Rattle.smith_edit.proofs.Nested.{simplified_beyond}
use Rattle.smith_edit.specs.Counts.{KeepsOwnMaxima}
use Rattle.smith_edit.specs.Edits.{without, without_items}
use Rattle.smith_edit.specs.Items.{tree_items}
use Rattle.smith_edit.specs.Simpler.{component_at, simplified}
use Rattle.smith_reduce.specs.Smaller.{HowMany, Leads, passed, stepped, steps}
use Rattle.smith_reduce.specs.Wanted.{AreCountsAllowed, ArePassed, IsLead, IsWanted}
use Rattle.smith_reduce.specs.declared.steps.Wanted.{Wanted}
use Rattle.smith_reduce.specs.declared.steps.Wanted.TheVariants as wanted

pub none_yet : (want : Wanted) (t : Tree) (from : ℕ) → ArePassed want t from from
none_yet want t from n after before = absurd (omega (arith, after, before))

pub more_passed : (want : Wanted) (t : Tree) (from to more : ℕ) → ArePassed want t from to → ArePassed want t to (to + more)
    → ArePassed want t from (to + more)
more_passed want t from to more before_to then_more n after before =
    ⊎_elim (λ less. before_to n after less) (λ later. then_more n later before) (cases_lt n to)

pub one_alone : (want : Wanted) (t : Tree) (n : ℕ) → IsLead want t n None → ArePassed want t n (n + 1)
one_alone want t n none m after before =
    let same : n ≡ m = omega (arith, after, before) in
    subst (λ k. ¬ Leads (IsWanted want) t k) same none

-- There are no more steps.

stepped_beyond : (t : Tree) (n : ℕ) → steps t ≤ n → None ≡ stepped n t
stepped_beyond t n beyond =
    let test : nat_lt n (tree_items t) ≡ false = grind (arith, nat_tests) in
    rw test (simplified_beyond (n - tree_items t) t (omega arith))

pub none_beyond : (want : Wanted) (t : Tree) (n : ℕ) → steps t ≤ n → ¬ Leads (IsWanted want) t n
none_beyond want t n beyond leads = let bad : None ≡ Some leads.1.smaller = stepped_beyond t n beyond ∙ leads.1.is in absurd cc

pub none_at_all : (want : Wanted) (t : Tree) (from to : ℕ) → ArePassed want t from to → steps t ≤ to
    → (n : ℕ) → from ≤ n → ¬ Leads (IsWanted want) t n
none_at_all want t from to before_to beyond n after =
    ⊎_elim (λ less. before_to n after less) (λ more. none_beyond want t n (omega (arith, beyond, more))) (cases_lt n to)

-- Steps that lead to a wanted component, counted one after another.

pub run_passed : (want : Wanted) (t : Tree) (from c more : ℕ) → HowMany (Leads (IsWanted want) t) from c → ArePassed want t from (from + more)
    → HowMany (Leads (IsWanted want) t) (from + more) c
run_passed want t from c zero many none = subst (λ n. HowMany (Leads (IsWanted want) t) n c) (omega arith) many
run_passed want t from c (suc more) many none =
    let before = run_passed want t from c more many (λ n after less. none n after (omega (arith, less))) in
    let here = none (from + more) (omega arith) (omega arith) in
    subst (λ n. HowMany (Leads (IsWanted want) t) n c) (omega arith) (passed here before)

pub passed_up_to : (want : Wanted) (t : Tree) (from to c : ℕ) → HowMany (Leads (IsWanted want) t) from c → from ≤ to
    → ((n : ℕ) → from ≤ n → n < to → ¬ Leads (IsWanted want) t n) → HowMany (Leads (IsWanted want) t) to c
passed_up_to want t from to c many low none =
    let is : from + (to - from) ≡ to = omega (arith, low) in
    subst (λ n. HowMany (Leads (IsWanted want) t) n c) is
    (run_passed want t from c (to - from) many (λ n after less. none n after (omega (arith, less, low))))

-- a step that leads to one is not beyond all
pub leads_within : (want : Wanted) (t : Tree) (n : ℕ) → Leads (IsWanted want) t n → n + 1 ≤ steps t
leads_within want t n leads =
    ⊎_elim (λ less. omega (arith, less)) (λ beyond. absurd (none_beyond want t n beyond leads)) (cases_lt n (steps t))

-- Steps that counts say lead to none.

own_kept : (config : Config) (t : Tree) → OwnLimits config t → KeepsOwnMaxima config t
own_kept config t own =
    record { types = own.types; core_types = own.core_types; imports = own.imports; functions = own.functions; exports = own.exports }

each_kept : (config : Config) (ts : List Tree) → AllByRecursion (OwnLimits config) ts → AllByRecursion (KeepsOwnMaxima config) ts
each_kept config [] all = tt
each_kept config (t ∷ ts) all = (own_kept config t all.0, each_kept config ts all.1)

-- what is generated keeps maxima
pub wanted_allowed : (want : Wanted) (t : Tree) → IsWanted want t → AreCountsAllowed want t
wanted_allowed (wanted.Generated config) t has =
    let most = (runs_sound config.now has.0 t [] has.1.consistent has.1.runs).1.maxima in
    record {
      each = each_kept config.now (t ∷ inside t) most.each;
      modules = most.modules;
      components = most.components;
      instances = most.instances;
    }
wanted_allowed wanted.WellFormed t has = tt

less_allowed : (want : Wanted) (low k high : ℕ) (t less : Tree) → low ≤ k → k ≤ high → without k t ≡ Some less → AreCountsAllowed want less
    → AreCountsAllowed want (without_items low high t)
less_allowed (wanted.Generated config) low k high t less from to e keeps = maxima_kept config.now low k high t less from to e keeps
less_allowed wanted.WellFormed low k high t less from to e keeps = tt

simpler_allowed : (want : Wanted) (k : ℕ) (t simpler : Tree) → component_at k t ≡ None → simplified k t ≡ Some simpler
    → AreCountsAllowed want simpler → AreCountsAllowed want t
simpler_allowed (wanted.Generated config) k t simpler none e keeps = maxima_simplified config.now k t simpler none e keeps
simpler_allowed wanted.WellFormed k t simpler none e keeps = tt

pub removals_pass : (want : Wanted) (t : Tree) (low count : ℕ) → 0 < count → low + count ≤ tree_items t
    → ¬ AreCountsAllowed want (without_items low (low + (count - 1)) t) → ArePassed want t low (low + count)
removals_pass want t low count some within not n after before leads =
    let test : nat_lt n (tree_items t) ≡ true = grind (arith, nat_tests) in
    let removed : stepped n t ≡ without n t = ap (λ b. if b then without n t else simplified (n - tree_items t) t) test in
    let is : without n t ≡ Some leads.1.smaller = sym removed ∙ leads.1.is in
    not
    (less_allowed want low n (low + (count - 1)) t leads.1.smaller after (omega (arith, some, before)) is
    (wanted_allowed want leads.1.smaller leads.1.has))

pub simpler_pass : (want : Wanted) (t : Tree) (at to : ℕ) → ((j : ℕ) → at ≤ j → j < to → component_at j t ≡ None) → ¬ AreCountsAllowed want t
    → ArePassed want t (tree_items t + at) (tree_items t + to)
simpler_pass want t at to none not n after before leads =
    let test : nat_lt n (tree_items t) ≡ false = grind (arith, nat_tests) in
    let is : simplified (n - tree_items t) t ≡ Some leads.1.smaller = rw test at leads.1.is in
    let place : component_at (n - tree_items t) t ≡ None = none (n - tree_items t) (omega (arith, after)) (omega (arith, after, before)) in
    not (simpler_allowed want (n - tree_items t) t leads.1.smaller place is (wanted_allowed want leads.1.smaller leads.1.has))
