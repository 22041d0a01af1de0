use Rattle.std.proofs.Common.{◌≡◌, ℕ, Bool, true, false, Option, ap, map, refl, subst, sym, ◌∙◌}
use Rattle.std.specs.Option.{IsSome, option_map}
use Rattle.std.specs.Prelude.{IfOk}
use Rattle.smith_syntax.specs.Entries.{Decl, Entry, component_type, core_type_decl, defined, export_decl, function, import_decl, in_order, instance_type}
use Rattle.smith_syntax.specs.Entries.{type_decl}
use Rattle.smith_syntax.specs.Shown.{shown_defined}
use Rattle.smith_read.specs.Nodes.{shown_core_node}
use Rattle.smith_read.specs.Search.{past, sought}
use Rattle.smith_read.specs.TypeNodes.{shown_decl_node, shown_type_node}
use Rattle.smith_read.specs.declared.search.Search.{Search}
use Rattle.smith_read.specs.declared.type_nodes.DeclNode.{DeclNode}
use Rattle.smith_read.specs.declared.type_nodes.TypeNode.{TypeNode}
use Rattle.smith_read.proofs.Seeking.{past_past}
use Rattle.smith_read.proofs.ShownNodes.{shown_alias, shown_component, shown_core, shown_core_alias, shown_declared, shown_export, shown_function}
use Rattle.smith_read.proofs.ShownNodes.{shown_import, shown_instance, shown_values}
use Rattle.smith_change.specs.Alternatives.{only}
use Rattle.smith_change.specs.CoreTypes.{core_changed, core_places}
use Rattle.smith_change.specs.Members.{defined_changed, defined_places, signature_changed, signature_places}
use Rattle.smith_change.specs.Owners.{may_import}
use Rattle.smith_change.specs.Types.{decl_changed, decl_places, decls_changed, decls_places, entry_changed, entry_places, without_imports}
use Rattle.smith_change.proofs.InRow.{after_these, moved_end, moved_here, moved_step, seek_end, seek_fails, seek_here, seek_start, seek_step}
use Rattle.smith_change.proofs.RowsOf.{decl_row}
use Rattle.smith_change.proofs.Seeking.{found_later, found_made, made_of_some, past_here, sought_here}
use Rattle.smith_change.proofs.types.+changing.Goals as goal
use Rattle.smith_format.proofs.Results.{ok_then}

-- what is found of a type, and of a declaration

abbrev Found : Entry → Option TypeNode → Search → ℕ → Type 0
Found e r s a = option_map shown_type_node r ≡ sought (entry_places e) s (λ k. entry_changed a k e) e

abbrev FoundDecl : Bool → Decl → Option DeclNode → Search → ℕ → Type 0
FoundDecl importing d r s a = option_map shown_decl_node r ≡ sought (decl_places d) s (λ k. decl_changed importing a k d) d

pub change_declarations-returns-then-step-clause-declarations : goal.change_declarations-returns-then-step-clause-declarations
change_declarations-returns-then-step-clause-declarations t c =
    let row = decl_row (may_import c.args.owner) c.args.change.alternative in
    ok_then _ _ c.change_entry.result
    (λ r e. seek_here row c.loop-index.search c.args.nodes.now c.loop-index.index c.index-nodes-index.result c.loop-index-test.true
    c.index-nodes-index.is (λ v. v.items) c.loop-index.done.items r _ (sym c.step.ensures.here ∙ c.if-step.true) e c.loop-index.invariant.declarations)
    c.change_entry.ensures

pub change_declarations-loop-index-preserved : goal.change_declarations-loop-index-preserved
change_declarations-loop-index-preserved t c =
    let row = decl_row (may_import c.args.owner) c.args.change.alternative in
    let found = sym (ap (option_map shown_decl_node) c.in-Some.is) ∙ c.in_ok-declaration.ensures.declaration in
    let moved = c.in_ok-declaration.ensures.moved (subst IsSome (sym c.in-Some.is) refl) in
    record {
      declarations = seek_step row c.loop-index.search c.args.nodes.now c.loop-index.index c.index-nodes-index.result c.loop-index-test.true
          c.index-nodes-index.is c.step.new.self c.change_declaration.new.search c.loop-index.done.items c.push.new.self.items c.in-Some.declaration _
          (sym c.step.ensures.here ∙ c.if-step.false) c.step.ensures.moved found moved c.in_ok-push.ensures.items c.loop-index.invariant.declarations;
      moved = moved_step row c.loop-index.search c.args.nodes.now c.loop-index.index c.index-nodes-index.result c.loop-index-test.true
          c.index-nodes-index.is c.step.new.self c.change_declaration.new.search _ c.step.ensures.moved moved c.loop-index.invariant.moved;
    }

pub change_declarations-returns-clause-declarations : goal.change_declarations-returns-clause-declarations
change_declarations-returns-clause-declarations t c =
    let row = decl_row (may_import c.args.owner) c.args.change.alternative in
    seek_end row c.loop-index.search c.args.nodes.now c.loop-index.index (map shown_decl_node c.loop-index.done.items) _ c.loop-index-test.false
    c.loop-index.invariant.declarations

pub change_declarations-loop-index-init : goal.change_declarations-loop-index-init
change_declarations-loop-index-init t c =
    let row = decl_row (may_import c.args.owner) c.args.change.alternative in
    let all = map shown_decl_node c.args.nodes.now in
    record {
      declarations = ap (λ done. after_these row (map shown_decl_node done) c.args.search.now all) c.new-done.ensures.items
          ∙ seek_start row c.args.search.now (in_order all);
      moved = refl;
    }

pub change_declarations-returns-then-step-clause-moved : goal.change_declarations-returns-then-step-clause-moved
change_declarations-returns-then-step-clause-moved t c =
    let row = decl_row (may_import c.args.owner) c.args.change.alternative in
    ok_then _ _ c.change_entry.result
    (λ r e is. moved_here row c.loop-index.search c.args.nodes.now c.loop-index.index c.index-nodes-index.result c.loop-index-test.true
    c.index-nodes-index.is c.step.new.self _ (sym c.step.ensures.here ∙ c.if-step.true) c.step.ensures.moved c.loop-index.invariant.moved)
    c.change_entry.ensures

pub change_declarations-returns-in_default-clause-declarations : goal.change_declarations-returns-in_default-clause-declarations
change_declarations-returns-in_default-clause-declarations t c =
    let row = decl_row (may_import c.args.owner) c.args.change.alternative in
    let found = sym (ap (option_map shown_decl_node) c.in_default.is) ∙ c.in_ok-declaration.ensures.declaration in
    seek_fails row c.loop-index.search c.args.nodes.now c.loop-index.index c.index-nodes-index.result c.loop-index-test.true
    c.index-nodes-index.is c.step.new.self c.loop-index.done.items _ (sym c.step.ensures.here ∙ c.if-step.false) c.step.ensures.moved found
    c.loop-index.invariant.declarations

pub change_declarations-returns-in_default-clause-moved : goal.change_declarations-returns-in_default-clause-moved
change_declarations-returns-in_default-clause-moved t c = λ is. absurd cc

pub change_declarations-returns-clause-moved : goal.change_declarations-returns-clause-moved
change_declarations-returns-clause-moved t c = λ is.
    moved_end (decl_row (may_import c.args.owner) c.args.change.alternative) c.loop-index.search c.args.nodes.now c.loop-index.index _
    c.loop-index-test.false c.loop-index.invariant.moved

pub change_type-returns-in_ok-change_defined-in-Defined-clause-ty : goal.change_type-returns-in_ok-change_defined-in-Defined-clause-ty
change_type-returns-in_ok-change_defined-in-Defined-clause-ty t c =
    let s = c.args.search.now in
    let a = c.args.change.alternative in
    let x = shown_defined c.in-Defined.ty in
    subst (λ e. Found e c.map.result s a) (sym (ap shown_type_node c.in-Defined.is ∙ shown_values c.in-Defined.ty))
    (found_made shown_type_node defined shown_defined _ (λ v r e. ap shown_type_node e
    ∙ shown_values v) (defined_places x) (λ k. defined_changed a k x) x s c.in_ok-change_defined-in-Defined.field-0 c.map.result
    c.map.ensures.cases (c.in_ok-change_defined-in-Defined.ensures {u = tt}).ty)

pub change_type-returns-in_ok-change_defined-in-Defined-clause-moved : goal.change_type-returns-in_ok-change_defined-in-Defined-clause-moved
change_type-returns-in_ok-change_defined-in-Defined-clause-moved t c = λ there.
    subst (λ e. c.change_defined.new.search ≡ past (entry_places e) c.args.search.now) (sym (ap shown_type_node c.in-Defined.is ∙ shown_values c.in-Defined.ty))
    ((c.in_ok-change_defined-in-Defined.ensures {u = tt}).moved (made_of_some _ c.in_ok-change_defined-in-Defined.field-0 c.map.result c.map.ensures.cases
    there))

pub change_type-returns-in_ok-change_signature-in-Func-clause-ty : goal.change_type-returns-in_ok-change_signature-in-Func-clause-ty
change_type-returns-in_ok-change_signature-in-Func-clause-ty t c =
    let s = c.args.search.now in
    let a = c.args.change.alternative in
    let x = c.in-Func.ty in
    subst (λ e. Found e c.map-in-Func.result s a) (sym (ap shown_type_node c.in-Func.is ∙ shown_function c.in-Func.ty))
    (found_made shown_type_node function (λ f. f) _ (λ v r e. ap shown_type_node e
    ∙ shown_function v) (signature_places x) (λ k. signature_changed a k x) x s c.in_ok-change_signature-in-Func.field-0 c.map-in-Func.result
    c.map-in-Func.ensures.cases (c.in_ok-change_signature-in-Func.ensures {u = tt}).ty)

pub change_type-returns-in_ok-change_signature-in-Func-clause-moved : goal.change_type-returns-in_ok-change_signature-in-Func-clause-moved
change_type-returns-in_ok-change_signature-in-Func-clause-moved t c = λ there.
    subst (λ e. c.change_signature.new.search ≡ past (entry_places e) c.args.search.now) (sym (ap shown_type_node c.in-Func.is ∙ shown_function c.in-Func.ty))
    ((c.in_ok-change_signature-in-Func.ensures {u = tt}).moved (made_of_some _ c.in_ok-change_signature-in-Func.field-0 c.map-in-Func.result
    c.map-in-Func.ensures.cases there))

pub change_type-returns-in_ok-nodes-in-Component-clause-ty : goal.change_type-returns-in_ok-nodes-in-Component-clause-ty
change_type-returns-in_ok-nodes-in-Component-clause-ty t c =
    let s = c.args.search.now in
    let a = c.args.change.alternative in
    let x = in_order (map shown_decl_node c.deref-in-Component.result.now) in
    subst (λ e. Found e c.map-in-Component.result s a)
    (sym (ap shown_type_node c.in-Component.is ∙ shown_component c.in-Component.nodes
    ∙ ap (λ ns. component_type (in_order (map shown_decl_node ns))) (sym c.deref-in-Component.ensures.value)))
    (found_later shown_type_node component_type (λ v. in_order (map shown_decl_node v.items)) _ (λ v r e. ap shown_type_node e
    ∙ shown_component v) (decls_places x)
    (λ k. decls_changed true a k x) x c.step.new.self c.in_ok-nodes-in-Component.nodes c.map-in-Component.result c.map-in-Component.ensures.cases
    (without_imports x (only a (instance_type x))) s
    (sym c.step.ensures.here ∙ c.if-step.false) c.step.ensures.moved (c.in_ok-nodes-in-Component.ensures {u = tt}).declarations)

pub change_type-returns-in_ok-nodes-in-Component-clause-moved : goal.change_type-returns-in_ok-nodes-in-Component-clause-moved
change_type-returns-in_ok-nodes-in-Component-clause-moved t c = λ there.
    let inside = decls_places (in_order (map shown_decl_node c.deref-in-Component.result.now)) in
    subst (λ e. c.change_declarations.new.search ≡ past (entry_places e) c.args.search.now)
    (sym (ap shown_type_node c.in-Component.is ∙ shown_component c.in-Component.nodes
    ∙ ap (λ ns. component_type (in_order (map shown_decl_node ns))) (sym c.deref-in-Component.ensures.value)))
    ((c.in_ok-nodes-in-Component.ensures {u = tt}).moved (made_of_some _ c.in_ok-nodes-in-Component.nodes c.map-in-Component.result
    c.map-in-Component.ensures.cases there)
    ∙ ap (past inside) c.step.ensures.moved ∙ past_past inside 1 c.args.search.now)

pub change_type-returns-then-step-clause-ty : goal.change_type-returns-then-step-clause-ty
change_type-returns-then-step-clause-ty t c =
    let s = c.args.search.now in
    let a = c.args.change.alternative in
    let x = in_order (map shown_decl_node c.deref.result.now) in
    subst (λ e. IfOk c.as_instance.result (λ r. Found e r s a))
    (sym (ap shown_type_node c.in-Component.is ∙ shown_component c.in-Component.nodes
    ∙ ap (λ ns. component_type (in_order (map shown_decl_node ns))) (sym c.deref.ensures.value)))
    (ok_then _ _ c.as_instance.result
    (λ r e. e ∙ sym (sought_here (decls_places x) (without_imports x (only a (instance_type x))) (λ k. option_map component_type (decls_changed true a k x))
    (component_type x) s
    (sym c.step.ensures.here ∙ c.if-step.true))) c.as_instance.ensures)

pub change_type-returns-then-step-clause-moved : goal.change_type-returns-then-step-clause-moved
change_type-returns-then-step-clause-moved t c =
    let s = c.args.search.now in
    let inside = decls_places (in_order (map shown_decl_node c.deref.result.now)) in
    ok_then _ _ c.as_instance.result
    (λ r e there. subst (λ e. c.step.new.self ≡ past (entry_places e) s)
    (sym (ap shown_type_node c.in-Component.is ∙ shown_component c.in-Component.nodes
    ∙ ap (λ ns. component_type (in_order (map shown_decl_node ns))) (sym c.deref.ensures.value)))
    (c.step.ensures.moved ∙ past_here inside s (sym c.step.ensures.here ∙ c.if-step.true))) c.as_instance.ensures

pub change_type-returns-in_ok-nodes-in-Instance-clause-ty : goal.change_type-returns-in_ok-nodes-in-Instance-clause-ty
change_type-returns-in_ok-nodes-in-Instance-clause-ty t c =
    let s = c.args.search.now in
    let a = c.args.change.alternative in
    let x = in_order (map shown_decl_node c.deref-in-Instance.result.now) in
    subst (λ e. Found e c.map-in-Instance.result s a)
    (sym (ap shown_type_node c.in-Instance.is ∙ shown_instance c.in-Instance.nodes
    ∙ ap (λ ns. instance_type (in_order (map shown_decl_node ns))) (sym c.deref-in-Instance.ensures.value)))
    (found_later shown_type_node instance_type (λ v. in_order (map shown_decl_node v.items)) _ (λ v r e. ap shown_type_node e
    ∙ shown_instance v) (decls_places x)
    (λ k. decls_changed false a k x) x c.step-in-Instance.new.self c.in_ok-nodes-in-Instance.nodes c.map-in-Instance.result c.map-in-Instance.ensures.cases
    (only a (component_type x)) s
    (sym c.step-in-Instance.ensures.here ∙ c.if-step-2.false) c.step-in-Instance.ensures.moved (c.in_ok-nodes-in-Instance.ensures {u = tt}).declarations)

pub change_type-returns-in_ok-nodes-in-Instance-clause-moved : goal.change_type-returns-in_ok-nodes-in-Instance-clause-moved
change_type-returns-in_ok-nodes-in-Instance-clause-moved t c = λ there.
    let inside = decls_places (in_order (map shown_decl_node c.deref-in-Instance.result.now)) in
    subst (λ e. c.change_declarations-in-Instance.new.search ≡ past (entry_places e) c.args.search.now)
    (sym (ap shown_type_node c.in-Instance.is ∙ shown_instance c.in-Instance.nodes
    ∙ ap (λ ns. instance_type (in_order (map shown_decl_node ns))) (sym c.deref-in-Instance.ensures.value)))
    ((c.in_ok-nodes-in-Instance.ensures {u = tt}).moved (made_of_some _ c.in_ok-nodes-in-Instance.nodes c.map-in-Instance.result
    c.map-in-Instance.ensures.cases there)
    ∙ ap (past inside) c.step-in-Instance.ensures.moved ∙ past_past inside 1 c.args.search.now)

pub change_type-returns-then-step-2-clause-ty : goal.change_type-returns-then-step-2-clause-ty
change_type-returns-then-step-2-clause-ty t c =
    let s = c.args.search.now in
    let a = c.args.change.alternative in
    let x = in_order (map shown_decl_node c.deref-then-step-2.result.now) in
    subst (λ e. IfOk c.as_component.result (λ r. Found e r s a))
    (sym (ap shown_type_node c.in-Instance.is ∙ shown_instance c.in-Instance.nodes
    ∙ ap (λ ns. instance_type (in_order (map shown_decl_node ns))) (sym c.deref-then-step-2.ensures.value)))
    (ok_then _ _ c.as_component.result
    (λ r e. e ∙ sym (sought_here (decls_places x) (only a (component_type x)) (λ k. option_map instance_type (decls_changed false a k x)) (instance_type x) s
    (sym c.step-in-Instance.ensures.here ∙ c.if-step-2.true))) c.as_component.ensures)

pub change_type-returns-then-step-2-clause-moved : goal.change_type-returns-then-step-2-clause-moved
change_type-returns-then-step-2-clause-moved t c =
    let s = c.args.search.now in
    let inside = decls_places (in_order (map shown_decl_node c.deref-then-step-2.result.now)) in
    ok_then _ _ c.as_component.result
    (λ r e there. subst (λ e. c.step-in-Instance.new.self ≡ past (entry_places e) s)
    (sym (ap shown_type_node c.in-Instance.is ∙ shown_instance c.in-Instance.nodes
    ∙ ap (λ ns. instance_type (in_order (map shown_decl_node ns))) (sym c.deref-then-step-2.ensures.value)))
    (c.step-in-Instance.ensures.moved ∙ past_here inside s (sym c.step-in-Instance.ensures.here ∙ c.if-step-2.true))) c.as_component.ensures

pub change_declaration-returns-in_ok-changed-in-Core-clause-declaration : goal.change_declaration-returns-in_ok-changed-in-Core-clause-declaration
change_declaration-returns-in_ok-changed-in-Core-clause-declaration t c =
    let s = c.args.search.now in
    let a = c.args.change.alternative in
    let x = shown_core_node c.in-Core.ty in
    subst (λ e. FoundDecl (may_import c.args.owner) e c.map.result s a) (sym (ap shown_decl_node c.in-Core.is ∙ shown_core c.in-Core.ty))
    (found_made shown_decl_node (λ t. core_type_decl t tt) shown_core_node _ (λ v r e. ap shown_decl_node e
    ∙ shown_core v) (core_places x) (λ k. core_changed a k x) x s c.in_ok-changed-in-Core.field-0 c.map.result
    c.map.ensures.cases (c.in_ok-changed-in-Core.ensures {u = tt}).entry)

pub change_declaration-returns-in_ok-changed-in-Core-clause-moved : goal.change_declaration-returns-in_ok-changed-in-Core-clause-moved
change_declaration-returns-in_ok-changed-in-Core-clause-moved t c = λ there.
    subst (λ e. c.changed.new.search ≡ past (decl_places e) c.args.search.now) (sym (ap shown_decl_node c.in-Core.is ∙ shown_core c.in-Core.ty))
    ((c.in_ok-changed-in-Core.ensures {u = tt}).moved (made_of_some _ c.in_ok-changed-in-Core.field-0 c.map.result c.map.ensures.cases there))

pub change_declaration-returns-in_ok-change_type-in-Type-clause-declaration : goal.change_declaration-returns-in_ok-change_type-in-Type-clause-declaration
change_declaration-returns-in_ok-change_type-in-Type-clause-declaration t c =
    let s = c.args.search.now in
    let a = c.args.change.alternative in
    let x = shown_type_node c.in-Type.ty in
    subst (λ e. FoundDecl (may_import c.args.owner) e c.map-in-Type.result s a) (sym (ap shown_decl_node c.in-Type.is ∙ shown_declared c.in-Type.ty))
    (found_made shown_decl_node type_decl shown_type_node _ (λ v r e. ap shown_decl_node e
    ∙ shown_declared v) (entry_places x) (λ k. entry_changed a k x) x s c.in_ok-change_type-in-Type.field-0 c.map-in-Type.result
    c.map-in-Type.ensures.cases (c.in_ok-change_type-in-Type.ensures {u = tt}).ty)

pub change_declaration-returns-in_ok-change_type-in-Type-clause-moved : goal.change_declaration-returns-in_ok-change_type-in-Type-clause-moved
change_declaration-returns-in_ok-change_type-in-Type-clause-moved t c = λ there.
    subst (λ e. c.change_type.new.search ≡ past (decl_places e) c.args.search.now) (sym (ap shown_decl_node c.in-Type.is ∙ shown_declared c.in-Type.ty))
    ((c.in_ok-change_type-in-Type.ensures {u = tt}).moved (made_of_some _ c.in_ok-change_type-in-Type.field-0 c.map-in-Type.result
    c.map-in-Type.ensures.cases there))

pub change_declaration-returns-in-TypeAlias-clause-declaration : goal.change_declaration-returns-in-TypeAlias-clause-declaration
change_declaration-returns-in-TypeAlias-clause-declaration t c =
    subst (λ e. FoundDecl (may_import c.args.owner) e c.change_type_alias.result c.args.search.now c.args.change.alternative)
    (sym (ap shown_decl_node c.in-TypeAlias.is ∙ shown_alias c.in-TypeAlias.count c.in-TypeAlias.index)) c.change_type_alias.ensures.declaration

pub change_declaration-returns-in-TypeAlias-clause-moved : goal.change_declaration-returns-in-TypeAlias-clause-moved
change_declaration-returns-in-TypeAlias-clause-moved t c = λ there.
    subst (λ e. c.change_type_alias.new.search ≡ past (decl_places e) c.args.search.now)
    (sym (ap shown_decl_node c.in-TypeAlias.is ∙ shown_alias c.in-TypeAlias.count c.in-TypeAlias.index)) (c.change_type_alias.ensures.moved there)

pub change_declaration-returns-in-CoreTypeAlias-clause-declaration : goal.change_declaration-returns-in-CoreTypeAlias-clause-declaration
change_declaration-returns-in-CoreTypeAlias-clause-declaration t c =
    subst (λ e. FoundDecl (may_import c.args.owner) e c.change_core_alias.result c.args.search.now c.args.change.alternative)
    (sym (ap shown_decl_node c.in-CoreTypeAlias.is ∙ shown_core_alias c.in-CoreTypeAlias.count c.in-CoreTypeAlias.index))
    c.change_core_alias.ensures.declaration

pub change_declaration-returns-in-CoreTypeAlias-clause-moved : goal.change_declaration-returns-in-CoreTypeAlias-clause-moved
change_declaration-returns-in-CoreTypeAlias-clause-moved t c = λ there.
    subst (λ e. c.change_core_alias.new.search ≡ past (decl_places e) c.args.search.now)
    (sym (ap shown_decl_node c.in-CoreTypeAlias.is ∙ shown_core_alias c.in-CoreTypeAlias.count c.in-CoreTypeAlias.index))
    (c.change_core_alias.ensures.moved there)

pub change_declaration-returns-in-Import-clause-declaration : goal.change_declaration-returns-in-Import-clause-declaration
change_declaration-returns-in-Import-clause-declaration t c =
    subst (λ e. IfOk c.change_import.result (λ r. FoundDecl (may_import c.args.owner) e r c.args.search.now c.args.change.alternative))
    (sym (ap shown_decl_node c.in-Import.is ∙ shown_import c.in-Import.name c.in-Import.to
    ∙ ap (λ n. import_decl n tt c.in-Import.to) (sym c.as_str.ensures.value)))
    c.change_import.ensures.declaration

pub change_declaration-returns-in-Import-clause-moved : goal.change_declaration-returns-in-Import-clause-moved
change_declaration-returns-in-Import-clause-moved t c =
    subst (λ e. IfOk c.change_import.result (λ r. IsSome r → c.change_import.new.search ≡ past (decl_places e) c.args.search.now))
    (sym (ap shown_decl_node c.in-Import.is ∙ shown_import c.in-Import.name c.in-Import.to
    ∙ ap (λ n. import_decl n tt c.in-Import.to) (sym c.as_str.ensures.value)))
    c.change_import.ensures.moved

pub change_declaration-returns-in-Export-clause-declaration : goal.change_declaration-returns-in-Export-clause-declaration
change_declaration-returns-in-Export-clause-declaration t c =
    subst (λ e. IfOk c.change_export.result (λ r. FoundDecl (may_import c.args.owner) e r c.args.search.now c.args.change.alternative))
    (sym (ap shown_decl_node c.in-Export.is ∙ shown_export c.in-Export.name c.in-Export.to
    ∙ ap (λ n. export_decl n tt c.in-Export.to) (sym c.as_str-in-Export.ensures.value)))
    c.change_export.ensures.declaration

pub change_declaration-returns-in-Export-clause-moved : goal.change_declaration-returns-in-Export-clause-moved
change_declaration-returns-in-Export-clause-moved t c =
    subst (λ e. IfOk c.change_export.result (λ r. IsSome r → c.change_export.new.search ≡ past (decl_places e) c.args.search.now))
    (sym (ap shown_decl_node c.in-Export.is ∙ shown_export c.in-Export.name c.in-Export.to
    ∙ ap (λ n. export_decl n tt c.in-Export.to) (sym c.as_str-in-Export.ensures.value)))
    c.change_export.ensures.moved
