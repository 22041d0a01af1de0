use Rattle.std.proofs.Common.{arith, ◌≡◌, ◌≤◌, ◌<◌, List, ℕ, sym, subst, ◌∙◌, length}
use Rattle.smith_input.specs.declared.error.Error.{Error}
use Rattle.smith_format.specs.declared.config.Config.{Config}
use Rattle.smith_component.specs.BuilderView.{building_of, stack_of}
use Rattle.smith_component.specs.Building.{Building, open_of}
use Rattle.smith_tree.specs.Open.{with_inner}
use Rattle.smith_component.specs.Refusals.{IsFillRefusal}
use Rattle.smith_tree.specs.Tree.{Tree, imports_of, function_count}
use Rattle.smith_component.specs.Fills.{Fills, FillsAll, of_imports, of_functions}
use Rattle.smith_component.specs.declared.item.Counted.{Counted}
use Rattle.smith_component.specs.declared.item.Counted.TheVariants as counted
use Rattle.smith_component.proofs.Finishing.{refused, moved, filled_minima}
use Rattle.smith_component.proofs.Items.{grows_trans}
use Rattle.smith_component.proofs.builder.Progress.fill.Goals as goal

-- What is filled, in the terms of the builder that all began with.
from_first : (what : Counted) (a b : Building) {mid low : List ℕ} {t : Tree} → b.config ≡ a.config → b.outer ≡ a.outer
    → Fills what b.config (open_of b) mid t low → Fills what a.config (with_inner (open_of a) (open_of b).inner) mid t low
from_first what a b {mid} {low} {t} c o f = moved (λ k s. Fills what k s mid t low) a b c o f

pub returns-in_err-check_minimum-clause-refuses : goal.returns-in_err-check_minimum-clause-refuses
returns-in_err-check_minimum-clause-refuses c =
    let v = building_of c.args.self.now in
    let typed = building_of c.fill_one.new.self in
    let imported = building_of c.fill_one-2.new.self in
    let t = c.in_ok-fill_one.ensures in
    let i = c.in_ok-fill_one-2.ensures in
    let e = c.in_err-check_minimum.ensures in
    let filled = from_first counted.Imports v typed t.grows.keeps t.grows.sections.outer i.filled in
    let few = subst (λ (k : Config). length (imports_of (open_of imported).inner) < k.min_imports) (i.grows.keeps ∙ t.grows.keeps) e.1 in
    let P : Error → Type 0 = λ x. IsFillRefusal v.config (open_of v) c.args.u.now x c.fill_one-2.new.u in
    refused _ _ P c.from_residual-in_err-check_minimum.ensures.1 (subst P (sym e.0) (of_imports t.filled filled few))

pub returns-in_err-check_minimum-2-clause-refuses : goal.returns-in_err-check_minimum-2-clause-refuses
returns-in_err-check_minimum-2-clause-refuses c =
    let v = building_of c.args.self.now in
    let typed = building_of c.fill_one.new.self in
    let imported = building_of c.fill_one-2.new.self in
    let full = building_of c.fill_one-3.new.self in
    let t = c.in_ok-fill_one.ensures in
    let i = c.in_ok-fill_one-2.ensures in
    let f = c.in_ok-fill_one-3.ensures in
    let e = c.in_err-check_minimum-2.ensures in
    let is = from_first counted.Imports v typed t.grows.keeps t.grows.sections.outer i.filled in
    let fs = from_first counted.Functions v imported (i.grows.keeps ∙ t.grows.keeps) (i.grows.sections.outer ∙ t.grows.sections.outer) f.filled in
    let enough = subst (λ (k : Config). k.min_imports ≤ length (imports_of (open_of imported).inner)) (i.grows.keeps ∙ t.grows.keeps)
    c.in_ok-check_minimum.ensures in
    let few = subst (λ (k : Config). function_count (open_of full).inner < k.min_funcs) (f.grows.keeps ∙ (i.grows.keeps ∙ t.grows.keeps)) e.1 in
    let P : Error → Type 0 = λ x. IsFillRefusal v.config (open_of v) c.args.u.now x c.fill_one-3.new.u in
    refused _ _ P c.from_residual-in_err-check_minimum-2.ensures.1 (subst P (sym e.0) (of_functions t.filled is enough fs few))

-- all that is filled, at the end
all_filled : (c : goal.In_ok-check_minimum-2) → FillsAll c.args.self.now.config (stack_of c.args.self.now) c.args.u.now (stack_of c.fill_one-3.new.self).inner
    c.fill_one-3.new.u
all_filled c = grind (arith, from_first)

pub returns-clause-fills : goal.returns-clause-fills
returns-clause-fills c = grind (arith, all_filled, filled_minima, grows_trans)
