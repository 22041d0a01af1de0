use Rattle.std.proofs.Common.{◌≡◌, ℕ, ◌-◌, ◌∷◌, [], refl, sym, subst, ap, ◌∙◌, arith, length, map, List, append-nil, ◌<◌}
use Rattle.std.proofs.lemmas.List.{length-map}
use Rattle.std.specs.BTreeSet.{btree_set_len}
use Rattle.std.specs.List.{AllByRecursion}
use Rattle.smith_input.specs.Loops.{Loop}
use Rattle.smith_syntax.specs.Scope.{Scope}
use Rattle.smith_syntax.specs.Marked.{first_marked, scope_in}
use Rattle.smith_tree.proofs.Marking.{marked_add, scope_marked}
use Rattle.smith_tree.specs.Marking.{marked_in, marked_inner}
use Rattle.smith_scopes.proofs.Stack.{own_scope_is}
use Rattle.smith_types.specs.MakingTypes.{HoldsExterns}
use Rattle.smith_scopes.specs.Scopes.{own_marked, own_scope}
use Rattle.smith_component.specs.BuilderView.{IsSound, stack_of}
use Rattle.smith_component.specs.ExportReading.{NoExport, ReadsExport, ReadsExports}
use Rattle.smith_component.specs.SectionsState.{ExportsState}
use Rattle.smith_tree.specs.Open.{Open, with_inner}
use Rattle.smith_component.specs.SectionValues.{externs_of}
use Rattle.smith_tree.specs.Shown.{shown_export}
use Rattle.smith_component.specs.Sound.{Sound}
use Rattle.smith_tree.specs.Spaces.{types_of}
use Rattle.smith_tree.specs.Tree.{ExportEntry, Tree, exports, exports_of}
use Rattle.smith_component.specs.declared.component.Section.{Section}
use Rattle.smith_tree.specs.WellFormed.{scope_of}
use Rattle.smith_component.specs.declared.builder.Progress.{Progress}
use Rattle.smith_component.specs.declared.component.Section.TheVariants.{Exports}
use Rattle.smith_tree.specs.declared.choices.Item.TheVariants as item
use Rattle.smith_component.proofs.Growth.{functions_counted, spaces-add}
use Rattle.smith_component.proofs.Items.{grown_does, grows, part_added}
use Rattle.smith_component.proofs.ReadsExports.{exports_addable}
use Rattle.smith_component.proofs.SectionValues.{externs_push, tabled_as}
use Rattle.smith_component.proofs.Sound.{own_limits_of, part_sound, totalled_part}
use Rattle.smith_component.proofs.Tables.{own_bare, tabled_quiet}
use Rattle.smith_component.proofs.Tree.{function_count-add}
use Rattle.smith_component.proofs.builder.Progress.add_exports.Goals as goal

-- there are as many names as exports
names_held : (b : Progress) → IsSound b → btree_set_len b.inner.tables.exports ≡ length (exports_of (stack_of b).inner)
names_held b i = i.1.0.tabled.exports.size ∙ length-map (exports_of (stack_of b).inner) (λ (e : ExportEntry). e.name)

-- before the first export
first : (b : Progress) → IsSound b → ExportsState b.config (stack_of b).outer (stack_of b).inner [] (own_marked b.scopes) b.inner.tables
first b i = grind (arith, spaces-add, marked_add, tabled_quiet, function_count-add, own_bare)

pub overflow_sub-room : goal.overflow_sub-room
overflow_sub-room c =
    let b = c.args.self.now in
    let i = c.requires.sound in
    let o = own_limits_of b.config (stack_of b) i.0.sound in
    omega (arith, c.len.ensures, names_held b i, o.exports)

pub read_exports-requires : goal.read_exports-requires
read_exports-requires c =
    let b = c.args.self.now in
    let i = c.requires.sound in
    let inner : Tree = (stack_of b).inner in
    let o = own_limits_of b.config (stack_of b) i.0.sound in
    let spaces = functions_counted inner in
    let tabled = i.1.0.tabled in
    let known : AllByRecursion (λ ty. ty < length (types_of inner)) b.inner.tables.functions.items =
    subst (AllByRecursion (λ ty. ty < length (types_of inner))) (sym tabled.functions) tabled.grounded.known in
    let own : own_scope b.scopes ≡ scope_of inner =
    own_scope_is b.scopes ∙ (ap (λ ms. scope_in (first_marked ms)) i.0.scopes_are ∙ scope_marked b.config (marked_in b.config (stack_of b).outer) inner) in
    record {
      known = subst (λ (s : Scope). AllByRecursion (λ ty. ty < length s.types) b.inner.tables.functions.items) (sym own) known;
      room = omega (arith, ap length tabled.functions, spaces.most, o.functions, o.exports, c.len.ensures, names_held b i, i.0.sound.consistent.funcs);
    }

pub returns-clause-does : goal.returns-clause-does
returns-clause-does c =
    let b = c.args.self.now in
    let stack : Open = stack_of b in
    let i = c.requires.sound in
    let es : List ExportEntry = map shown_export c.in_ok-exports.exports.items in
    let section : Section = Exports (record { exports = c.in_ok-exports.exports }) in
    let new = c.in_ok-push.ensures.ok in
    let R : ℕ → Type 0 =
    λ n. Loop (NoExport b.config stack.outer stack.inner)
    (ReadsExport b.config stack.outer stack.inner) b.config.loop_bits 0 n 0 [] c.args.u.now es c.read_exports.new.u es in
    let count : c.len.result ≡ length (exports_of stack.inner) = omega (arith, c.len.ensures, names_held b i) in
    let room : b.config.max_exports - c.len.result ≡ b.config.max_exports - length (exports_of stack.inner) =
    ap (λ n. b.config.max_exports - n) count in
    let exported = c.in_ok-exports.ensures.reads stack.outer stack.inner (first b i) in
    let reads : ReadsExports b.config stack.outer stack.inner c.args.u.now es c.read_exports.new.u =
    subst R room exported.reads in
    let after = exported.state in
    let items = ap externs_of c.in_ok-push.ensures.items ∙ externs_push b.inner.sections.items section in
    let same : externs_of c.push.new.self.sections.items ≡ externs_of b.inner.sections.items = items ∙ append-nil (externs_of b.inner.sections.items) in
    let held : HoldsExterns c.read_exports.new.tables.imports (externs_of b.inner.sections.items) =
    subst (λ ns. HoldsExterns ns (externs_of b.inner.sections.items)) (sym c.in_ok-exports.ensures.imports) i.1.0.externs in
    let scopes = c.read_exports.new.scopes in
    let made : Progress = record b { scopes = scopes; inner = c.push.new.self } in
    let own = after.scope_is ∙ ap (λ t. marked_inner b.config stack.outer t) (sym new) in
    let sound = subst (λ t. Sound b.config (with_inner stack t)) (sym new)
    (part_sound b.config stack (exports es) (exports_addable b.config stack i.0.sound reads) i.0.sound) in
    let totalled = totalled_part b.config stack.outer stack.inner _ b.totals b.totals (exports es) refl new (omega arith) (omega arith) (omega arith)
    i.0.totalled in
    let tabled = tabled_as c.push.new.self c.read_exports.new.tables _ _ c.push.ensures.tables new same after.tabled held in
    let grown = grows b scopes b.totals c.push.new.self (section ∷ []) i c.in_ok-push.ensures.items sound own c.in_ok-exports.ensures.around totalled tabled in
    grown_does item.Exports b made c.args.u.now c.read_exports.new.u grown
    (es, reads, part_added b made section (record { grows = grown; last = c.in_ok-push.ensures.items })) tt
