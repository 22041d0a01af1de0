use Rattle.std.proofs.Common.{sym, ap, subst, refl, ◌∙◌, ◌++◌, ◌∷◌, [], List, map, arith, inl, inr}
use Rattle.std.proofs.lemmas.List.{map-append}
use Rattle.std.specs.List.{AllByRecursion}
use Rattle.smith_syntax.specs.Marked.{empty_marked, first_marked}
use Rattle.smith_scopes.specs.Scopes.{inward_marked, last_of}
use Rattle.smith_scopes.proofs.Stack.{keeps_last, opened_marked}
use Rattle.smith_component.specs.BuilderView.{stack_of}
use Rattle.smith_tree.specs.Marking.{marked_in, marked_inner}
use Rattle.smith_tree.proofs.Marking.{marked_keeps}
use Rattle.smith_component.specs.Shown.{shown_sections}
use Rattle.smith_component.specs.Sound.{Sound}
use Rattle.smith_component.specs.Tables.{IsTabled}
use Rattle.smith_component.specs.Turn.{building}
use Rattle.smith_component.specs.declared.builder.open.OpenComponent.{OpenComponent}
use Rattle.smith_component.specs.declared.component.Section.{Section}
use Rattle.smith_component.proofs.SectionValues.{outer_popped, trees_of}
use Rattle.smith_component.proofs.Sound.{sound_open, totalled_open, component_offered_is, marked_in-snoc}
use Rattle.smith_scopes.proofs.Plain.{all_both}
use Rattle.smith_component.proofs.builder.Progress.open_component.Goals as goal

pub overflow_add-self : goal.overflow_add-self
overflow_add-self c = grind (arith, component_offered_is)

pub returns-clause-does : goal.returns-clause-does
returns-clause-does c bytes =
    let b = c.args.self.now in
    let i = c.requires.sound in
    let stack = stack_of b in
    let o = component_offered_is b.config stack c.requires.offered in
    let pushed = c.push_reserved.ensures.items ∙ ap (λ xs. xs ++ c.replace-around.result ∷ []) c.reserve.ensures.items in
    let outer = outer_popped _ _ _ pushed
    ∙ ap (λ x. trees_of b.outer.items ++ shown_sections x.sections.items ∷ []) c.replace-around.ensures.value in
    let new : OpenComponent = c.new-opened.result in
    let fresh = c.replace-around.ensures.after in
    let inner = ap (λ x. shown_sections x.sections.items) fresh ∙ ap shown_sections c.new-opened.ensures.items in
    let around = pushed ∙ ap (λ x. b.outer.items ++ x ∷ []) c.replace-around.ensures.value in
    let sections : OpenComponent → List Section = λ x. x.sections.items in
    let below = ap (map sections) around ∙ map-append sections b.outer.items (b.inner ∷ []) in
    let tables : IsTabled new = c.new-opened.ensures.tabled in
    let keeps = keeps_last b.scopes
    ∙ (ap (λ ss. (first_marked ss).keeps) i.0.scopes_are ∙ marked_keeps b.config (marked_in b.config stack.outer) stack.inner) in
    record {
      does = (refl, λ j. building (record { outer = outer j; inner = inner j }));
      values = tt;
      sound = (
        record {
          sound = subst (λ us. Sound b.config (record { outer = us; inner = shown_sections c.replace-around.new.dest.sections.items })) (sym outer)
              (subst (λ t. Sound b.config (record { outer = stack.outer ++ stack.inner ∷ []; inner = t })) (sym inner)
              (sound_open b.config stack.outer stack.inner o.0 o.1 i.0.sound));
          scopes_are =
              opened_marked b.scopes _ (last_of b.scopes).keeps c.in_ok-open_scope.ensures.ok
              ∙ (ap (λ k. empty_marked k ∷ inward_marked b.scopes) keeps
              ∙ (ap (λ ss. empty_marked b.config.must_validate ∷ ss) (i.0.scopes_are ∙ (sym (marked_in-snoc b.config stack.outer stack.inner)
              ∙ ap (marked_in b.config) (sym outer)))
              ∙ ap (λ t. marked_inner b.config (trees_of c.push_reserved.new.self.items) t
              ∷ marked_in b.config (trees_of c.push_reserved.new.self.items)) (sym inner)));
          totalled = totalled_open stack.outer _ stack.inner _ b.totals _ outer inner refl refl refl i.0.totalled;
        },
        (
          subst IsTabled (sym fresh) tables,
          subst (AllByRecursion IsTabled) (sym around) (all_both IsTabled b.outer.items (b.inner ∷ []) i.1.1 (i.1.0, tt)),
        ),
      );
      keeps = refl;
      sections = inr (inl (record { outer = below; inner = ap sections fresh ∙ c.new-opened.ensures.items }));
    }
