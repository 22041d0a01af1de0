use Rattle.std.proofs.Common.{◌∙◌, List, [], length, refl, sym, subst, ap, arith, append-nil, rules}
use Rattle.std.specs.Prelude.{Option}
use Rattle.smith_input.proofs.Loops.{Onward, begins, ends_early, ends_full, goes_on, stops}
use Rattle.smith_input.proofs.Reading.{tail_same}
use Rattle.smith_scopes.specs.Scopes.{own_marked}
use Rattle.smith_syntax.specs.Marked.{first_marked}
use Rattle.smith_tree.proofs.Marking.{marked_add}
use Rattle.smith_tree.specs.Marking.{marked_in}
use Rattle.smith_syntax.specs.declared.deftype.Import.{Import}
use Rattle.smith_types.specs.MakingTypes.{HoldsExterns}
use Rattle.smith_component.specs.BuilderView.{IsSound, stack_of}
use Rattle.smith_component.specs.SectionsState.{ImportsOne, ImportsState}
use Rattle.smith_tree.specs.Open.{Open}
use Rattle.smith_component.specs.SectionValues.{NoImportValue, ReadsImportValue, externs_of}
use Rattle.smith_tree.specs.Tree.{imports}
use Rattle.smith_component.specs.declared.builder.Progress.{Progress}
use Rattle.smith_component.proofs.SectionsState.{around_then}
use Rattle.smith_component.proofs.Growth.{functions_counted}
use Rattle.smith_component.proofs.Loops.{turn_left}
use Rattle.smith_component.proofs.Sound.{own_limits_of, totalled_part}
use Rattle.smith_component.proofs.TracksStack.{tabled_added}
use Rattle.smith_component.proofs.builder.Progress.read_imports.Goals as goal

-- before the first import
first : (b : Progress) (i : IsSound b)
    → ImportsState b.config (stack_of b) (externs_of b.inner.sections.items) [] (own_marked b.scopes) b.totals b.inner.tables
first b i =
    let stack : Open = stack_of b in
    record {
      scope_is = ap first_marked i.0.scopes_are ∙ sym (marked_add b.config (marked_in b.config stack.outer) stack.inner (imports []));
      totalled = totalled_part b.config stack.outer stack.inner _ b.totals b.totals (imports []) refl refl (omega arith) (omega arith) (omega arith)
          i.0.totalled;
      tabled = tabled_added stack.inner _ (imports []) refl refl refl refl refl i.1.0.tabled;
      externs = subst (HoldsExterns b.inner.tables.imports) (sym (append-nil (externs_of b.inner.sections.items))) i.1.0.externs;
    }

pub loop-done-init : goal.loop-done-init
loop-done-init c =
    let b = c.args.self.now in
    let i = c.requires.sound in
    let none = c.new-imports.ensures.items in
    let o = own_limits_of b.config (stack_of b) i.0.sound in
    let spaces = functions_counted (stack_of b).inner in
    let tabled = i.1.0.tabled in
    let before = externs_of b.inner.sections.items in
    let S : List Import → Type 0 = λ is. ImportsState b.config (stack_of b) before is (own_marked b.scopes) b.totals b.inner.tables in
    let O : List Import → Type 0 = λ is. Onward (NoImportValue b.config (stack_of b))
    (ReadsImportValue b.config (stack_of b) before) b.config.loop_bits c.args.min c.args.max []
    c.args.u.now is 0 is c.args.u.now in
    record {
      tail = tail_same c.args.u.now;
      within = omega (arith, spaces.most, o.exports, tabled.counts, ap length tabled.functions);
      onward = subst O (sym none) (begins _ _ _ _ _ _ _ [] refl);
      around = record { outer = refl; depth = refl };
      importing = subst S (sym none) (first b i);
    }

pub returns-then-not-more_of-clause-reads : goal.returns-then-not-more_of-clause-reads
returns-then-not-more_of-clause-reads c = stops _ _ _ _ _ _ _ _ _ _ _ _ _ c.if-not-more_of.true c.more_of.ensures c.loop-done.invariant.onward

pub returns-in_default-clause-reads : goal.returns-in_default-clause-reads
returns-in_default-clause-reads c =
    let b = c.args.self.now in
    let l = c.loop-done in
    let P : Option Import → Type 0 =
    λ i. ImportsOne b.config (stack_of b) (externs_of b.inner.sections.items) l.imports.items (own_marked c.read_import.new.scopes)
    c.read_import.new.totals c.read_import.new.tables c.more_of.new.self i c.read_import.new.u in
    let none = subst P c.in_default.is
    (c.in_ok-import.ensures.imports (stack_of b) (externs_of b.inner.sections.items) l.imports.items l.invariant.importing) in
    ends_early _ _ _ _ _ _ _ _ _ _ _ _ _ _ _ c.if-not-more_of.false c.more_of.ensures none.0 l.invariant.onward

pub returns-in_default-clause-counts : goal.returns-in_default-clause-counts
returns-in_default-clause-counts c =
    let b = c.args.self.now in
    let l = c.loop-done in
    let P : Option Import → Type 0 =
    λ i. ImportsOne b.config (stack_of b) (externs_of b.inner.sections.items) l.imports.items (own_marked c.read_import.new.scopes)
    c.read_import.new.totals c.read_import.new.tables c.more_of.new.self i c.read_import.new.u in
    let none = subst P c.in_default.is
    (c.in_ok-import.ensures.imports (stack_of b) (externs_of b.inner.sections.items) l.imports.items l.invariant.importing) in
    record {
      only = refl;
      around = around_then l.invariant.around c.in_ok-import.ensures.around;
      counted = none.1;
    }

pub returns-in_err-push-clause-input : goal.returns-in_err-push-clause-input
returns-in_err-push-clause-input c = record {
  tail = turn_left c.in_ok-import.ensures.input.tail c.more_of.ensures c.loop-done.invariant.tail;
  memory = search rules;
}

pub returns-in_err-import-clause-input : goal.returns-in_err-import-clause-input
returns-in_err-import-clause-input c = record {
  tail = turn_left c.read_import.ensures.input.tail c.more_of.ensures c.loop-done.invariant.tail;
  memory = search rules;
}

pub returns-in_default-clause-input : goal.returns-in_default-clause-input
returns-in_default-clause-input c = record {
  tail = turn_left c.read_import.ensures.input.tail c.more_of.ensures c.loop-done.invariant.tail;
  memory = tt;
}

pub returns-clause-reads : goal.returns-clause-reads
returns-clause-reads c = ends_full _ _ _ _ _ _ _ _ _ _ _ c.loop-done-test.false c.loop-done.invariant.onward

pub loop-done-preserved : goal.loop-done-preserved
loop-done-preserved c =
    let b = c.args.self.now in
    let l = c.loop-done in
    let stack = stack_of b in
    let before = externs_of b.inner.sections.items in
    let so_far : List Import = l.imports.items in
    let all = c.in_ok-push.ensures.items in
    let P : Option Import → Type 0 =
    λ i. ImportsOne b.config stack before so_far (own_marked c.read_import.new.scopes) c.read_import.new.totals c.read_import.new.tables
    c.more_of.new.self i c.read_import.new.u in
    let one = subst P c.in-Some.is (c.in_ok-import.ensures.imports stack before so_far l.invariant.importing) in
    let R : List Import → Type 0 = λ z. ReadsImportValue b.config stack before so_far c.more_of.new.self c.in-Some.import c.read_import.new.u z in
    record {
      tail = turn_left c.in_ok-import.ensures.input.tail c.more_of.ensures l.invariant.tail;
      within = c.in_ok-import.ensures.within;
      onward = goes_on _ _ _ _ _ _ _ _ _ _ _ _ _ _ _ _ _ c.if-not-more_of.false c.more_of.ensures (subst R (sym all) one.0) all l.invariant.onward;
      around = around_then l.invariant.around c.in_ok-import.ensures.around;
      importing = subst (λ z. ImportsState b.config stack before z (own_marked c.read_import.new.scopes) c.read_import.new.totals c.read_import.new.tables)
          (sym all) one.1;
    }
