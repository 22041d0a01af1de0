use Rattle.std.proofs.Common.{◌≡◌, ◌<◌, refl, rules, sym, ap, ◌∙◌, subst, arith, true, false, append-nil, length, length-drop}
use Rattle.std.proofs.lemmas.Result.{IfOk-weaker}
use Rattle.smith_input.proofs.Reading.{tail_trans, more_tail}
use Rattle.smith_syntax.specs.Entries.{FullDecl, function, in_order}
use Rattle.smith_syntax.specs.Marked.{mark}
use Rattle.smith_syntax.specs.Shown.{full_type}
use Rattle.smith_syntax.specs.WellFormed.{import_of}
use Rattle.smith_syntax.specs.declared.deftype.DefType.{DefType}
use Rattle.smith_syntax.specs.declared.deftype.DefType.TheVariants.{Func}
use Rattle.smith_syntax.proofs.Shown.{component_import, full_defined, full_func, instance_type_decl}
use Rattle.smith_types.specs.Declarations.{in_instance}
use Rattle.smith_types.specs.Made.{Made, MadeDeclaration, made_alias, made_core_type, made_export, made_import, made_type}
use Rattle.smith_scopes.specs.Scopes.{AddsMarked, inward_marked, own_marked, outer_marked}
use Rattle.smith_types.specs.MakingTypes.{AddsDeclaration, Declares, HoldsNames, IsMarkOf, declaring, defs_in}
use Rattle.smith_types.specs.declared.make.scoped.TypeBody.{TypeBody}
use Rattle.smith_types.specs.declared.make.scoped.TypeBody.TheVariants.{Component, Instance}
use Rattle.smith_types.proofs.Declaring.{closed_again, import_declared, length-last_types, same_changed, same_trans, type_declared}
use Rattle.smith_types.proofs.MadeFits.{declaration_fits}
use Rattle.smith_types.proofs.MakingTypes.{alias_within, exports_nothing, names_stay, scoped_marked, type_made}
use Rattle.smith_types.proofs.Progressing.{adds_to_component, adds_to_instance, stops, spends, is_full, goes_on}
use Rattle.smith_scopes.proofs.Stack.{keeps_last, length-inward_marked}
use Rattle.smith_types.proofs.make.+making.Goals as goal

pub items::read_component_declaration-returns-in-Some-clause-made : goal.items::read_component_declaration-returns-in-Some-clause-made
items::read_component_declaration-returns-in-Some-clause-made t c = λ imported exported held other.
    let reads = rw c.in-Some.is at (c.in_ok-import.ensures.reads imported held) in
    let P : FullDecl → Type 0 = λ d. MadeDeclaration c.args.making.now.config.now true (outer_marked c.args.scopes.now)
    (record { own = own_marked c.args.scopes.now; imports = imported; exports = exported }) c.args.u.now c.args.fuel.now
    d c.read_import.new.u c.args.fuel.now in
    subst P (sym (component_import c.in-Some.import)) (made_import refl reads refl)

pub items::read_component_declaration-returns-clause-imports : goal.items::read_component_declaration-returns-clause-imports
items::read_component_declaration-returns-clause-imports t c = λ imported held.
    let none = rw c.in_default.is at (c.in_ok-import.ensures.names imported held) in
    names_stay c.read_import.new.imports imported _ (ap import_of c.from.ensures.shown ∙ c.in_ok-decl.ensures.names.no_import)
    (rw (append-nil imported) at none)

pub items::read_declaration-read_type_decl-requires : goal.items::read_declaration-read_type_decl-requires
items::read_declaration-read_type_decl-requires t c =
    let scopes = c.args.scopes.now in
    let possible = rw c.in-Type.is at c.read_declaration_item.ensures.possible in
    let shallow : length scopes < c.args.making.now.config.now.max_nesting_depth =
    omega (arith, possible, length-drop 1 (inward_marked scopes), length-inward_marked scopes) in
    (omega arith, (shallow, c.requires.room.few.types))

pub items::read_declaration-returns-in-Export-clause-made : goal.items::read_declaration-returns-in-Export-clause-made
items::read_declaration-returns-in-Export-clause-made t c = λ importing so_far imports start held none.
    IfOk-weaker c.read_export.result _ _
    (λ d r. made_export none (rw c.in-Export.is at c.read_declaration_item.ensures.reads) r refl) (c.read_export.ensures.reads so_far held)

pub items::read_declaration-returns-in-Alias-clause-made : goal.items::read_declaration-returns-in-Alias-clause-made
items::read_declaration-returns-in-Alias-clause-made t c = λ importing so_far imports start held none.
    IfOk-weaker c.read_outer_alias.result _ _
    (λ d r. made_alias none (rw c.in-Alias.is at c.read_declaration_item.ensures.reads) (alias_within _ _ _ _ r) refl) c.read_outer_alias.ensures.reads

pub items::read_declaration-returns-in-CoreType-clause-made : goal.items::read_declaration-returns-in-CoreType-clause-made
items::read_declaration-returns-in-CoreType-clause-made t c = λ importing so_far imports start held none.
    IfOk-weaker c.read_core_type.result _ _
    (λ d m. made_core_type none (rw c.in-CoreType.is at c.read_declaration_item.ensures.reads) m.1 m.2) c.read_core_type.ensures.made

pub items::read_declaration-returns-in-Type-clause-made : goal.items::read_declaration-returns-in-Type-clause-made
items::read_declaration-returns-in-Type-clause-made t c = λ importing so_far imports start held none.
    IfOk-weaker c.read_type_decl.result _ _
    (λ d m. made_type none (rw c.in-Type.is at c.read_declaration_item.ensures.reads) m.1 m.2) c.read_type_decl.ensures.made

pub items::read_declaration-returns-in-Alias-clause-names : goal.items::read_declaration-returns-in-Alias-clause-names
items::read_declaration-returns-in-Alias-clause-names t c =
    IfOk-weaker c.read_outer_alias.result _ _ (λ d. exports_nothing _ _) c.read_outer_alias.ensures.nameless

pub items::read_declaration-returns-in-CoreType-clause-names : goal.items::read_declaration-returns-in-CoreType-clause-names
items::read_declaration-returns-in-CoreType-clause-names t c =
    IfOk-weaker c.read_core_type.result _ _ (λ d. exports_nothing _ _) c.read_core_type.ensures.nameless

pub items::read_declaration-returns-in-Type-clause-names : goal.items::read_declaration-returns-in-Type-clause-names
items::read_declaration-returns-in-Type-clause-names t c = IfOk-weaker c.read_type_decl.result _ _ (λ d. exports_nothing _ _) c.read_type_decl.ensures.nameless

pub kinds::read_type-returns-clause-made : goal.kinds::read_type-returns-clause-made
kinds::read_type-returns-clause-made t c =
    let P : DefType → Type 0 = λ ty. Made c.args.making.now.config.now (own_marked c.args.scopes.now) (outer_marked c.args.scopes.now) c.args.u.now
    c.args.fuel.now (full_type ty) c.read_type_of.new.u c.read_type_of.new.fuel in
    subst P (sym c.in_ok-shared.ensures.ok)
    (type_made c.args.making.now.config.now (own_marked c.args.scopes.now) (outer_marked c.args.scopes.now) _ _ _ c.read_type_kind-kind.result c.args.fuel.now
    c.burn.new.fuel _ _ c.burn.ensures c.read_type_kind-kind.ensures.spent c.read_type_kind-kind.ensures.chosen c.in_ok-made.ensures.made)

pub items::read_type_decl-push_marked-requires : goal.items::read_type_decl-push_marked-requires
items::read_type_decl-push_marked-requires t c = omega (
  arith,
  length-last_types c.read_type.new.scopes,
  ap (λ s. length (own_marked s).types) c.in_ok-ty.ensures.scopes,
  c.requires.room,
)

pub items::read_type_decl-returns-clause-scopes : goal.items::read_type_decl-returns-clause-scopes
items::read_type_decl-returns-clause-scopes t c =
    let adds = subst (λ s. AddsMarked s c.in_ok-entry.entry.value c.in_ok-ty.mark c.push_marked.new.self) c.in_ok-ty.ensures.scopes
    c.in_ok-push_marked.ensures.ok in
    record {
      declares = type_declared c.args.scopes.now c.push_marked.new.self _ c.in_ok-ty.ty.value c.in_ok-ty.mark _ adds c.in_ok-entry.ensures.cases
          (instance_type_decl c.in_ok-ty.ty) c.in_ok-ty.ensures.mark;
      outer = same_changed adds;
    }

pub scoped::read_declarations-returns-in_err-declare-clause-input : goal.scoped::read_declarations-returns-in_err-declare-clause-input
scoped::read_declarations-returns-in_err-declare-clause-input t c = record {
  tail = tail_trans c.declare.ensures.input.tail (tail_trans (more_tail c.more_of.ensures) c.loop-done.invariant.tail);
  memory = search rules;
}

pub scoped::read_declarations-returns-then-not-more_of-clause-made : goal.scoped::read_declarations-returns-then-not-more_of-clause-made
scoped::read_declarations-returns-then-not-more_of-clause-made t c =
    stops c.loop-done.invariant.progress _ c.more_of.result c.more_of.ensures c.if-not-more_of.true

pub scoped::read_declarations-returns-then-fuel-eq0-clause-made : goal.scoped::read_declarations-returns-then-fuel-eq0-clause-made
scoped::read_declarations-returns-then-fuel-eq0-clause-made t c =
    spends c.loop-done.invariant.progress _ c.more_of.result c.burn.new.fuel c.more_of.ensures c.if-not-more_of.false c.burn.ensures c.if-fuel-eq0.true

pub scoped::read_declarations-loop-done-preserved : goal.scoped::read_declarations-loop-done-preserved
scoped::read_declarations-loop-done-preserved t c =
    let p = c.loop-done.invariant.progress in
    let adds = c.in_ok-declare.ensures.made p.so_far p.own_is p.names in
    let size = (declaration_fits adds.made).takes.within in
    record {
      progress = goes_on p _ _ c.more_of.result c.burn.new.fuel _ _ _ c.more_of.ensures c.if-not-more_of.false c.burn.ensures
          (omega (arith, c.if-fuel-eq0.false)) adds;
      outer = same_trans c.loop-done.invariant.outer c.in_ok-declare.ensures.outer;
      fuel = omega (arith, size, c.burn.ensures, c.loop-done.invariant.fuel);
      tail = tail_trans c.in_ok-declare.ensures.input.tail (tail_trans (more_tail c.more_of.ensures) c.loop-done.invariant.tail);
    }

pub scoped::read_declarations-returns-clause-made : goal.scoped::read_declarations-returns-clause-made
scoped::read_declarations-returns-clause-made t c = is_full c.loop-done.invariant.progress (omega (arith, c.loop-done-test.false))

pub scoped::declare-returns-in_ok-push-in-Component-clause-made : goal.scoped::declare-returns-in_ok-push-in-Component-clause-made
scoped::declare-returns-in_ok-push-in-Component-clause-made t c = λ s own held.
    let k = c.in_ok-def-in-Component.ensures {u = tt} in
    let h = subst (λ (d : TypeBody). HoldsNames d s) c.in-Component.is held in
    let P : TypeBody → Type 0 = λ d. AddsDeclaration c.args.making.now.config.now c.args.scopes.now c.read_component_declaration.new.scopes s d
    (Component record { names = c.read_component_declaration.new.names; defs = c.push.new.self })
    c.args.u.now c.args.fuel.now c.read_component_declaration.new.u c.read_component_declaration.new.fuel in
    subst P (sym c.in-Component.is)
    (adds_to_component _ _ _ s c.in-Component.body _ c.in_ok-def-in-Component.def _ _ _ _ own (k.made s.imports s.exports h.0 h.1) k.scopes.declares
    (k.imports s.imports h.0) (k.exports s.exports h.1) (c.in_ok-push-in-Component.ensures {u = tt}).items)

pub scoped::declare-returns-in_ok-push-in-Instance-clause-made : goal.scoped::declare-returns-in_ok-push-in-Instance-clause-made
scoped::declare-returns-in_ok-push-in-Instance-clause-made t c = λ s own held.
    let k = c.in_ok-decl-in-Instance.ensures {u = tt} in
    let h = subst (λ (d : TypeBody). HoldsNames d s) c.in-Instance.is held in
    let P : TypeBody → Type 0 = λ d. AddsDeclaration c.args.making.now.config.now c.args.scopes.now c.read_declaration.new.scopes s d
    (Instance record { exports = c.read_declaration.new.exports; defs = c.push-in-Instance.new.self })
    c.args.u.now c.args.fuel.now c.read_declaration.new.u c.read_declaration.new.fuel in
    subst P (sym c.in-Instance.is)
    (adds_to_instance _ _ _ s c.in-Instance.body _ c.in_ok-decl-in-Instance.decl _ _ _ _ own (k.made false s.exports s.imports _ h (in_instance refl))
    k.scopes.declares (k.names.gains s.exports h) (c.in_ok-push-in-Instance.ensures {u = tt}).items)

pub scoped::read_scoped_type-returns-in_err-made-clause-scopes : goal.scoped::read_scoped_type-returns-in_err-made-clause-scopes
scoped::read_scoped_type-returns-in_err-made-clause-scopes t c = closed_again c.args.scopes.now c.open_inner.new.scopes c.read_declarations-made.new.scopes
    c.close_scope.new.self _ _ c.in_ok-open_inner.ensures.ok.opened c.read_declarations-made.ensures.outer c.close_scope.ensures.value

pub scoped::read_scoped_type-returns-clause-scopes : goal.scoped::read_scoped_type-returns-clause-scopes
scoped::read_scoped_type-returns-clause-scopes t c = closed_again c.args.scopes.now c.open_inner.new.scopes c.read_declarations-made.new.scopes
    c.close_scope.new.self _ _ c.in_ok-open_inner.ensures.ok.opened c.read_declarations-made.ensures.outer c.close_scope.ensures.value

pub items::read_component_declaration-returns-in-Some-clause-scopes : goal.items::read_component_declaration-returns-in-Some-clause-scopes
items::read_component_declaration-returns-in-Some-clause-scopes t c =
    let P : FullDecl → Type 0 = λ d. Declares c.args.scopes.now c.note_import.new.self d in
    record {
      declares = subst P (sym (component_import c.in-Some.import)) (import_declared _ _ _ _ c.in-Some.import.ty c.note_import.ensures);
      outer = same_changed c.note_import.ensures;
    }

pub kinds::read_type_of-returns-in_ok-ty-in-Defined-clause-mark : goal.kinds::read_type_of-returns-in_ok-ty-in-Defined-clause-mark
kinds::read_type_of-returns-in_ok-ty-in-Defined-clause-mark t c = λ keeps.
    let scopes = c.args.scopes.now in
    c.defined_mark-mark.ensures (keeps_last scopes ∙ keeps)
    ∙ ap (λ e. mark e (own_marked scopes) (outer_marked scopes)) (sym (full_defined c.in_ok-ty-in-Defined.ty))

pub kinds::read_type_of-returns-in_ok-new-in-Function-clause-mark : goal.kinds::read_type_of-returns-in_ok-new-in-Function-clause-mark
kinds::read_type_of-returns-in_ok-new-in-Function-clause-mark t c = λ keeps.
    let scopes = c.args.scopes.now in
    let func : full_type (Func c.in_ok-new-in-Function.field-0) ≡ function c.in_ok-func-in-Function.func =
    full_func c.in_ok-new-in-Function.field-0 ∙ ap function c.in_ok-new-in-Function.ensures.ok in
    c.function_mark-mark.ensures (keeps_last scopes ∙ keeps) ∙ ap (λ e. mark e (own_marked scopes) (outer_marked scopes)) (sym func)

pub kinds::read_type-returns-clause-mark : goal.kinds::read_type-returns-clause-mark
kinds::read_type-returns-clause-mark t c =
    let P : DefType → Type 0 = λ ty. IsMarkOf c.args.scopes.now (full_type ty) c.in_ok-made.mark in
    subst P (sym c.in_ok-shared.ensures.ok) c.in_ok-made.ensures.mark

pub scoped::read_scoped_type-returns-clause-mark : goal.scoped::read_scoped_type-returns-clause-mark
scoped::read_scoped_type-returns-clause-mark t c =
    let made = c.in_ok-made.ensures.made in
    scoped_marked c.args.importing c.args.scopes.now c.open_inner.new.scopes c.read_declarations-made.new.scopes _ _ _
    c.in_ok-open_inner.ensures.ok.around made.closed c.closed_mark-mark.ensures
    (c.finish.ensures ∙ ap (λ b. declaring b (in_order (defs_in c.in_ok-made.field-0))) made.of)
