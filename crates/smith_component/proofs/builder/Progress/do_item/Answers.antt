use Rattle.std.proofs.Common.{◌≡◌, ℕ, List, sym, subst}
use Rattle.std.proofs.lemmas.Result.{IfErr-weaker}
use Rattle.std.specs.Prelude.{None}
use Rattle.smith_input.specs.Choices.{ReadsAmong}
use Rattle.smith_component.specs.BuilderView.{stack_of}
use Rattle.smith_tree.specs.Open.{items}
use Rattle.smith_component.specs.Steps.{DoesItem}
use Rattle.smith_component.specs.declared.builder.Progress.{Progress}
use Rattle.smith_tree.specs.declared.choices.Item.{Item}
use Rattle.smith_component.proofs.Items.{canonicals_do, imports_do, types_do}
use Rattle.smith_component.proofs.Refusals.{finish_refused}
use Rattle.smith_component.proofs.builder.Progress.do_item.Goals as goal
use Rattle.smith_component.proofs.builder.Progress.do_item.Goals.{in-Custom+in_ok-add_custom-in-Custom, in-CoreTypes+in_ok-add_core_types-in-CoreTypes}
use Rattle.smith_component.proofs.builder.Progress.do_item.Goals.{in-Types+in_ok-add_types-in-Types, in-Imports+in_ok-add_imports-in-Imports}
use Rattle.smith_component.proofs.builder.Progress.do_item.Goals.{in-Canonical+in_ok-add_canonicals-in-Canonical, in-Module+in_ok-add_module-in-Module}
use Rattle.smith_component.proofs.builder.Progress.do_item.Goals.{in-Component+in_ok-open_component-in-Component, in-Exports+in_ok-add_exports-in-Exports}

pub returns-in-Finish-clause-refuses : goal.returns-in-Finish-clause-refuses
returns-in-Finish-clause-refuses c left chosen =
    let config = c.args.self.now.config in
    let stack = stack_of c.args.self.now in
    let finishes = subst (λ i. ReadsAmong (items config stack left) left i c.args.u.now) c.in-Finish.is chosen in
    IfErr-weaker c.finish.result _ _ (finish_refused config stack left c.finish.new.u c.args.u.now finishes) c.finish.ensures.refuses

-- what an arm did
done : (chosen item : Item) (old new last : Progress) (b rest left : List ℕ) → chosen ≡ item → last ≡ new → left ≡ rest → DoesItem item old b new None rest
    → DoesItem chosen old b last None left
done chosen item old new last b rest left e f g d =
    subst (λ i. DoesItem i old b last None left) (sym e) (subst (λ p. DoesItem item old b p None left) (sym f) (subst (DoesItem item old b new None) (sym g) d))

pub returns-clause-does : goal.returns-clause-does
returns-clause-does c =
    elim c.match-item.branch [
      | in-Custom+in_ok-add_custom-in-Custom w ↦
          done _ _ _ _ _ _ _ _ w.in-Custom.is w.self-is w.u-is w.in_ok-add_custom-in-Custom.ensures.does
      | in-CoreTypes+in_ok-add_core_types-in-CoreTypes w ↦
          done _ _ _ _ _ _ _ _ w.in-CoreTypes.is w.self-is w.u-is w.in_ok-add_core_types-in-CoreTypes.ensures.does
      | in-Types+in_ok-add_types-in-Types w ↦
          done _ _ _ _ _ _ _ _ w.in-Types.is w.self-is w.u-is
          (types_do c.args.self.now w.add_types.new.self c.args.u.now w.add_types.new.u w.in_ok-add_types-in-Types.ensures.grows
          w.in_ok-add_types-in-Types.ensures.added)
      | in-Imports+in_ok-add_imports-in-Imports w ↦
          done _ _ _ _ _ _ _ _ w.in-Imports.is w.self-is w.u-is
          (imports_do c.args.self.now w.add_imports.new.self c.args.u.now w.add_imports.new.u w.in_ok-add_imports-in-Imports.ensures.grows
          w.in_ok-add_imports-in-Imports.ensures.added)
      | in-Canonical+in_ok-add_canonicals-in-Canonical w ↦
          done _ _ _ _ _ _ _ _ w.in-Canonical.is w.self-is w.u-is
          (canonicals_do c.args.self.now w.add_canonicals.new.self c.args.u.now w.add_canonicals.new.u w.in_ok-add_canonicals-in-Canonical.ensures.grows
          w.in_ok-add_canonicals-in-Canonical.ensures.added)
      | in-Module+in_ok-add_module-in-Module w ↦
          done _ _ _ _ _ _ _ _ w.in-Module.is w.self-is w.u-is w.in_ok-add_module-in-Module.ensures.does
      | in-Component+in_ok-open_component-in-Component w ↦
          done _ _ _ _ _ _ _ _ w.in-Component.is w.self-is w.u-is (w.in_ok-open_component-in-Component.ensures.does c.args.u.now)
      | in-Exports+in_ok-add_exports-in-Exports w ↦
          done _ _ _ _ _ _ _ _ w.in-Exports.is w.self-is w.u-is w.in_ok-add_exports-in-Exports.ensures.does
    ]
