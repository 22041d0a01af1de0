use Rattle.std.proofs.Common.{◌≡◌, ◌++◌, ◌∷◌, [], List, map, sym, subst, ap, ◌∙◌, refl, arith, length, length-append, append-nil}
use Rattle.std.proofs.lemmas.List.{map-append}
use Rattle.std.specs.List.{AllByRecursion}
use Rattle.smith_scopes.specs.Scopes.{last_of}
use Rattle.smith_scopes.proofs.Stack.{length-inward_marked, closed_marked}
use Rattle.smith_component.specs.Tables.{IsTabled}
use Rattle.smith_tree.specs.Marking.{marked_in, marked_inner}
use Rattle.smith_tree.proofs.Marking.{marked_add}
use Rattle.smith_component.specs.Shown.{shown_sections}
use Rattle.smith_component.specs.Sound.{Sound}
use Rattle.smith_tree.specs.Tree.{Tree, add, component}
use Rattle.smith_component.specs.declared.builder.open.OpenComponent.{OpenComponent}
use Rattle.smith_component.specs.declared.component.Section.{Section}
use Rattle.smith_component.specs.declared.component.Section.TheVariants.{Component as inner_section}
use Rattle.smith_component.proofs.SectionValues.{none_open, outer_popped, trees_of, is_tabled_added}
use Rattle.smith_component.proofs.Sound.{root_kept, sound_close, totalled_close, closes, marked_in-snoc, length-marked_from, same_tail}
use Rattle.smith_scopes.proofs.Plain.{all_back, all_front}
use Rattle.smith_component.proofs.builder.Progress.close.Goals as goal

-- no component is open if none was taken
none_around : (xs : List OpenComponent) → length xs ≡ 0 → map (λ (c : OpenComponent). c.sections.items) xs ≡ []
none_around [] h = refl
none_around (x ∷ xs) h = absurd (omega arith)

-- the component around the inner one, with that as its last part
around_grown : (pushed parent : OpenComponent) (finished : Tree) (t : Tree) → pushed ≡ parent
    → t ≡ add (shown_sections pushed.sections.items) (component finished) → t ≡ add (shown_sections parent.sections.items) (component finished)
around_grown pushed parent finished t e h = h ∙ ap (λ (o : OpenComponent). add (shown_sections o.sections.items) (component finished)) e

pub close_scope-requires : goal.close_scope-requires
close_scope-requires c =
    let b = c.args.self.now in
    let outer : List Tree = trees_of b.outer.items in
    let some = outer_popped _ _ _ c.in-Some.ensures.items in
    omega (
      arith,
      length-inward_marked b.scopes,
      ap length c.requires.sound.0.scopes_are,
      length-marked_from b.config outer [],
      ap length some,
      length-append (trees_of c.pop.new.self.items) (shown_sections c.in-Some.parent.sections.items ∷ []),
    )

pub returns-in_ok-push-in-Some-clause-closes : goal.returns-in_ok-push-in-Some-clause-closes
returns-in_ok-push-in-Some-clause-closes c =
    let b = c.args.self.now in
    let i = c.requires.sound in
    let outers : List Tree = trees_of c.pop.new.self.items in
    let parent : Tree = shown_sections c.in-Some.parent.sections.items in
    let inner : Tree = shown_sections b.inner.sections.items in
    let around = outer_popped _ _ _ c.in-Some.ensures.items in
    let finished : c.of-component.result ≡ inner = c.of-component.ensures
    ∙ ap (λ (o : OpenComponent). shown_sections o.sections.items) c.replace-finished.ensures.value in
    let new = around_grown _ _ _ _ c.replace-finished.ensures.after c.in_ok-push-in-Some.ensures.ok ∙ ap (λ t. add parent (component t)) finished in
    let before = closed_marked b.scopes c.close_scope.new.self (last_of b.scopes) c.close_scope.ensures.value in
    let rest = same_tail _ _ _ _ (sym before ∙ (i.0.scopes_are ∙ ap (λ us. marked_inner b.config us inner ∷ marked_in b.config us) around)) in
    let enough = c.requires.minima in
    let all = subst (AllByRecursion IsTabled) c.in-Some.ensures.items i.1.1 in
    let last = all_back IsTabled c.pop.new.self.items (c.in-Some.parent ∷ []) all in
    let tables = c.push.ensures.tables ∙ ap (λ (o : OpenComponent). o.tables) c.replace-finished.ensures.after in
    let items = c.in_ok-push-in-Some.ensures.items ∙ ap (λ (o : OpenComponent). o.sections.items ++ inner_section c.of-component.result ∷ [])
    c.replace-finished.ensures.after in
    let sections : OpenComponent → List Section = λ o. o.sections.items in
    let under = ap (map sections) c.in-Some.ensures.items ∙ map-append sections c.pop.new.self.items (c.in-Some.parent ∷ []) in
    let whole = finished ∙ ap shown_sections (sym (append-nil b.inner.sections.items)) in
    record {
      closes = closes _ _ _ _ _ around new;
      sound = (
        record {
          sound = subst (λ t. Sound b.config (record { outer = outers; inner = t })) (sym new)
              (sound_close b.config outers parent inner enough (subst (λ us. Sound b.config (record { outer = us; inner = inner })) around i.0.sound));
          scopes_are = rest
              ∙ (marked_in-snoc b.config outers parent
              ∙ ap (λ s. s ∷ marked_in b.config outers)
              (sym (ap (marked_inner b.config outers) new ∙ marked_add b.config (marked_in b.config outers) parent (component inner))));
          totalled = totalled_close outers _ parent inner _ b.totals around new i.0.totalled;
        },
        (
          is_tabled_added c.in-Some.parent c.push.new.self _ items tables refl refl refl refl refl last.0,
          all_front IsTabled c.pop.new.self.items (c.in-Some.parent ∷ []) all,
        ),
      );
      keeps = refl;
      sections = record {
        parent = sections c.in-Some.parent;
        more = [];
        outer = under;
        inner = items ∙ ap (λ t. sections c.in-Some.parent ++ inner_section t ∷ []) whole;
      };
    }

pub returns-in-None-clause-closes : goal.returns-in-None-clause-closes
returns-in-None-clause-closes c = grind (arith, closes, none_open, root_kept, none_around, append-nil)
