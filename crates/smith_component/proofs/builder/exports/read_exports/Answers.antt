use Rattle.std.proofs.Common.{◌≡◌, List, [], ◌∷◌, ◌++◌, length, length-append, map, sym, subst, ap, ◌∙◌, arith}
use Rattle.std.proofs.lemmas.List.{map-append}
use Rattle.std.specs.Prelude.{Option}
use Rattle.smith_input.proofs.Loops.{begins, ends_early, ends_full, goes_on, stops}
use Rattle.smith_input.proofs.Reading.{tail_same}
use Rattle.smith_scopes.specs.Scopes.{own_marked}
use Rattle.smith_component.specs.ExportReading.{ReadsExport}
use Rattle.smith_component.specs.SectionsState.{ExportsOne, ExportsState}
use Rattle.smith_tree.specs.Shown.{shown_export}
use Rattle.smith_tree.specs.Tree.{ExportEntry, Tree}
use Rattle.smith_tree.specs.declared.entries.Export.{Export}
use Rattle.smith_component.proofs.SectionsState.{around_then}
use Rattle.smith_component.proofs.Loops.{turn_left}
use Rattle.smith_component.proofs.builder.exports.read_exports.Goals as goal

pub loop-done-init : goal.loop-done-init
loop-done-init c = grind (arith, tail_same, begins)

pub returns-then-not-more_of-clause-reads : goal.returns-then-not-more_of-clause-reads
returns-then-not-more_of-clause-reads c outer t h = grind (arith, stops)

pub returns-in_default-clause-reads : goal.returns-in_default-clause-reads
returns-in_default-clause-reads c outer t h =
    let l = c.loop-done in
    let config = c.args.config.now in
    let es : List ExportEntry = map shown_export l.exports.items in
    let P : Option Export → Type 0 =
    λ e. ExportsOne config outer t es (own_marked c.read_export.new.scopes) c.read_export.new.tables c.more_of.new.self e c.read_export.new.u in
    let none = subst P c.in_default.is (c.in_ok-export.ensures.exports outer t es (l.invariant.exporting outer t h)) in
    record {
      reads = ends_early _ _ _ _ _ _ _ _ _ _ _ _ _ _ _ c.if-not-more_of.false c.more_of.ensures none.0 (l.invariant.onward outer t h);
      state = none.1;
    }

pub returns-in_default-clause-around : goal.returns-in_default-clause-around
returns-in_default-clause-around c = around_then c.loop-done.invariant.around c.in_ok-export.ensures.around

pub returns-clause-reads : goal.returns-clause-reads
returns-clause-reads c outer t h = record {
  reads = ends_full _ _ _ _ _ _ _ _ _ _ _ c.loop-done-test.false (c.loop-done.invariant.onward outer t h);
  state = c.loop-done.invariant.exporting outer t h;
}

pub loop-done-preserved : goal.loop-done-preserved
loop-done-preserved c =
    let l = c.loop-done in
    let config = c.args.config.now in
    let own = own_marked c.read_export.new.scopes in
    let x : Export = c.in-Some.export in
    let es : List ExportEntry = map shown_export l.exports.items in
    let items = c.in_ok-push.ensures.items in
    let all : map shown_export c.push.new.self.items ≡ es ++ shown_export x ∷ [] =
    ap (map shown_export) items ∙ map-append shown_export l.exports.items (x ∷ []) in
    let P : List Tree → Tree → Option Export → Type 0 =
    λ outer t e. ExportsOne config outer t es own c.read_export.new.tables c.more_of.new.self e c.read_export.new.u in
    let one = λ (outer : List Tree) (t : Tree) (h : ExportsState config outer t [] (own_marked c.args.scopes.now) c.args.tables.now).
    subst (P outer t) c.in-Some.is
    (c.in_ok-export.ensures.exports outer t es (l.invariant.exporting outer t h)) in
    record {
      tail = turn_left c.in_ok-export.ensures.input.tail c.more_of.ensures l.invariant.tail;
      few = omega (arith, ap length items, length-append l.exports.items (x ∷ []), l.invariant.few);
      imports = c.in_ok-export.ensures.tables.imports ∙ l.invariant.imports;
      known = c.in_ok-export.ensures.tables.known;
      room = omega (arith, c.in_ok-export.ensures.tables.most, l.invariant.room, c.loop-done-test.true);
      around = around_then l.invariant.around c.in_ok-export.ensures.around;
      onward = λ outer t h.
          let R : List ExportEntry → Type 0 = λ z. ReadsExport config outer t es c.more_of.new.self (shown_export x) c.read_export.new.u z in
          goes_on _ _ _ _ _ _ _ _ _ _ _ _ _ _ _ _ _ c.if-not-more_of.false c.more_of.ensures (subst R (sym all) (one outer t h).0) all
          (l.invariant.onward outer t h);
      exporting = λ outer t h. subst (λ z. ExportsState config outer t z own c.read_export.new.tables) (sym all) (one outer t h).1;
    }
