use Rattle.std.proofs.Common.{refl, subst, sym}
use Rattle.smith_core.specs.StandIn.{ReadsStandIn}
use Rattle.smith_core.specs.declared.module.parts.ModuleParts.{ModuleParts}
use Rattle.smith_component.specs.BuilderView.{building_of, stack_of}
use Rattle.smith_component.specs.declared.builder.Progress.{Progress}
use Rattle.smith_tree.specs.declared.choices.Item.TheVariants.{Module}
use Rattle.smith_component.proofs.Items.{grown_does, part_added}
use Rattle.smith_component.proofs.Sound.{addable_module, module_offered_is}
use Rattle.smith_component.proofs.builder.Progress.add_module.Goals as goal

pub add_section-requires : goal.add_section-requires
add_section-requires c =
    record {
      sound = c.requires.sound;
      quiet = record { spaces = λ s. refl; marked = λ s outer own. refl; imports = refl; canons = refl; exports = refl };
      addable = addable_module _ _ _ (module_offered_is c.args.self.now.config (stack_of c.args.self.now) c.requires.offered);
    }

pub returns-clause-does : goal.returns-clause-does
returns-clause-does c =
    let new : Progress = c.add_section.new.self in
    let boxed = c.in_ok-embedded.embedded in
    let R : ModuleParts → Type 0 = λ m. ReadsStandIn c.args.self.now.config c.args.u.now m c.new_internal.new.u in
    let reads = subst R (sym c.in_ok-embedded.ensures.ok) c.in_ok-module.ensures.reads in
    let g = c.in_ok-add_section.ensures in
    grown_does Module c.args.self.now new c.args.u.now c.new_internal.new.u g.grows
    (boxed.value, reads, part_added _ _ _ g) (building_of new, refl, record { embedded = boxed; added = g.last; reads = reads })
