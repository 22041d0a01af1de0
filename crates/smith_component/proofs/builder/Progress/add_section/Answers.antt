use Rattle.std.proofs.Common.{sym, ap, ◌∙◌, refl, arith}
use Rattle.smith_syntax.specs.Marked.{first_marked}
use Rattle.smith_component.specs.BuilderView.{stack_of}
use Rattle.smith_tree.specs.Spaces.{spaces_of}
use Rattle.smith_component.proofs.Items.{section_added}
use Rattle.smith_component.proofs.builder.Progress.add_section.Goals as goal

pub overflow_add-self : goal.overflow_add-self
overflow_add-self c = grind arith

pub returns : goal.returns
returns c =
    let b = c.args.self.now in
    let q = c.requires.quiet in
    let i = c.requires.sound in
    let spaces = spaces_of (stack_of b).inner in
    section_added b b.scopes _ c.push.new.self c.args.section i (record { outer = refl; depth = refl }) c.in_ok-push.ensures.items c.push.ensures.tables
    c.requires.addable (ap first_marked i.0.scopes_are ∙ sym (q.marked spaces _ _)) (record {
      functions = ap (λ s. s.functions) (q.spaces spaces);
      core_functions = ap (λ s. s.core_functions) (q.spaces spaces);
      imports = q.imports;
      canons = q.canons;
      exports = q.exports;
    }) (omega (arith, c.module_count-modules.ensures)) refl refl
