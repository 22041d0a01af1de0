use Rattle.std.proofs.Common.{◌≡◌, ℕ, None, Option, Some, ap, map, refl, subst, sym, ◌∙◌}
use Rattle.std.specs.Option.{IsSome, option_map}
use Rattle.smith_tree.specs.Shown.{shown_canon, shown_export}
use Rattle.smith_tree.specs.Tree.{Part, canons, component, core_module, core_types, exports, imports, tree_of, types}
use Rattle.smith_read.specs.Nodes.{shown_core_node}
use Rattle.smith_read.specs.PartNodes.{shown_import_node, shown_part_node}
use Rattle.smith_read.specs.Search.{past, sought}
use Rattle.smith_read.specs.TypeNodes.{shown_type_node}
use Rattle.smith_read.specs.declared.nodes.PartNode.{PartNode}
use Rattle.smith_read.specs.declared.search.Search.{Search}
use Rattle.smith_read.proofs.PartNodes.{shown_canons, shown_core_types, shown_custom, shown_exports, shown_imports, shown_module, shown_nested}
use Rattle.smith_read.proofs.PartNodes.{shown_types}
use Rattle.smith_read.proofs.Seeking.{past_none, sought_none}
use Rattle.smith_change.specs.Parts.{canons_changed, canons_places, core_types_changed, core_types_places, exports_changed, exports_places}
use Rattle.smith_change.specs.Parts.{imports_changed, imports_places, module_changed, module_places, part_changed, part_places, places}
use Rattle.smith_change.specs.Parts.{sections_changed, types_changed, types_places}
use Rattle.smith_change.proofs.InRow.{after_these, moved_end, moved_here, moved_step, seek_end, seek_fails, seek_here, seek_start, seek_step}
use Rattle.smith_change.proofs.RowsOf.{part_row}
use Rattle.smith_change.proofs.Seeking.{found_made, made_of_some}
use Rattle.smith_change.proofs.parts.+changing_parts.Goals as goal
use Rattle.smith_format.proofs.Results.{ok_then}

-- what is found of a section
abbrev Found : Part → Option PartNode → Search → ℕ → Type 0
Found p r s a = option_map shown_part_node r ≡ sought (part_places p) s (λ k. part_changed a k p) p

pub change_parts-returns-then-step-clause-parts : goal.change_parts-returns-then-step-clause-parts
change_parts-returns-then-step-clause-parts t c =
    let row = part_row c.args.change.alternative in
    ok_then _ _ c.change_entry.result
    (λ r e. seek_here row c.loop-index.search c.args.nodes.now c.loop-index.index c.index-nodes-index.result c.loop-index-test.true
    c.index-nodes-index.is (λ v. v.items) c.loop-index.done.items r _ (sym c.step.ensures.here ∙ c.if-step.true) e c.loop-index.invariant.parts)
    c.change_entry.ensures

pub change_parts-loop-index-preserved : goal.change_parts-loop-index-preserved
change_parts-loop-index-preserved t c =
    let row = part_row c.args.change.alternative in
    let found = sym (ap (option_map shown_part_node) c.in-Some.is) ∙ c.in_ok-part.ensures.part in
    let moved = c.in_ok-part.ensures.moved (subst IsSome (sym c.in-Some.is) refl) in
    record {
      parts = seek_step row c.loop-index.search c.args.nodes.now c.loop-index.index c.index-nodes-index.result c.loop-index-test.true
          c.index-nodes-index.is c.step.new.self c.change_part.new.search c.loop-index.done.items c.push.new.self.items c.in-Some.part _
          (sym c.step.ensures.here ∙ c.if-step.false) c.step.ensures.moved found moved c.in_ok-push.ensures.items c.loop-index.invariant.parts;
      moved = moved_step row c.loop-index.search c.args.nodes.now c.loop-index.index c.index-nodes-index.result c.loop-index-test.true
          c.index-nodes-index.is c.step.new.self c.change_part.new.search _ c.step.ensures.moved moved c.loop-index.invariant.moved;
    }

pub change_parts-returns-clause-parts : goal.change_parts-returns-clause-parts
change_parts-returns-clause-parts t c =
    let row = part_row c.args.change.alternative in
    seek_end row c.loop-index.search c.args.nodes.now c.loop-index.index (map shown_part_node c.loop-index.done.items) _ c.loop-index-test.false
    c.loop-index.invariant.parts

pub change_parts-loop-index-init : goal.change_parts-loop-index-init
change_parts-loop-index-init t c =
    let row = part_row c.args.change.alternative in
    let all = map shown_part_node c.args.nodes.now in
    record {
      parts = ap (λ done. after_these row (map shown_part_node done) c.args.search.now all) c.new-done.ensures.items
          ∙ seek_start row c.args.search.now (tree_of all);
      moved = refl;
    }

pub change_parts-returns-then-step-clause-moved : goal.change_parts-returns-then-step-clause-moved
change_parts-returns-then-step-clause-moved t c =
    let row = part_row c.args.change.alternative in
    ok_then _ _ c.change_entry.result
    (λ r e is. moved_here row c.loop-index.search c.args.nodes.now c.loop-index.index c.index-nodes-index.result c.loop-index-test.true
    c.index-nodes-index.is c.step.new.self _ (sym c.step.ensures.here ∙ c.if-step.true) c.step.ensures.moved c.loop-index.invariant.moved)
    c.change_entry.ensures

pub change_parts-returns-in_default-clause-parts : goal.change_parts-returns-in_default-clause-parts
change_parts-returns-in_default-clause-parts t c =
    let row = part_row c.args.change.alternative in
    let found = sym (ap (option_map shown_part_node) c.in_default.is) ∙ c.in_ok-part.ensures.part in
    seek_fails row c.loop-index.search c.args.nodes.now c.loop-index.index c.index-nodes-index.result c.loop-index-test.true
    c.index-nodes-index.is c.step.new.self c.loop-index.done.items _ (sym c.step.ensures.here ∙ c.if-step.false) c.step.ensures.moved found
    c.loop-index.invariant.parts

pub change_parts-returns-in_default-clause-moved : goal.change_parts-returns-in_default-clause-moved
change_parts-returns-in_default-clause-moved t c = λ is. absurd cc

pub change_parts-returns-clause-moved : goal.change_parts-returns-clause-moved
change_parts-returns-clause-moved t c = λ is.
    moved_end (part_row c.args.change.alternative) c.loop-index.search c.args.nodes.now c.loop-index.index _ c.loop-index-test.false
    c.loop-index.invariant.moved

pub change_part-returns-in_ok-change_module-in-CoreModule-clause-part : goal.change_part-returns-in_ok-change_module-in-CoreModule-clause-part
change_part-returns-in_ok-change_module-in-CoreModule-clause-part t c =
    let s = c.args.search.now in
    let a = c.args.change.alternative in
    let x = c.deref.result.now in
    subst (λ p. Found p c.map.result s a)
    (sym (ap shown_part_node c.in-CoreModule.is ∙ shown_module c.in-CoreModule.text ∙ ap core_module (sym c.deref.ensures.value)))
    (found_made shown_part_node core_module (λ v. v.items) _ (λ v r e. ap shown_part_node e ∙ shown_module v) (module_places x) (λ k. module_changed a k x) x s
    c.in_ok-change_module-in-CoreModule.field-0 c.map.result c.map.ensures.cases (c.in_ok-change_module-in-CoreModule.ensures {u = tt}).text)

pub change_part-returns-in_ok-change_module-in-CoreModule-clause-moved : goal.change_part-returns-in_ok-change_module-in-CoreModule-clause-moved
change_part-returns-in_ok-change_module-in-CoreModule-clause-moved t c = λ there.
    subst (λ p. c.change_module.new.search ≡ past (part_places p) c.args.search.now)
    (sym (ap shown_part_node c.in-CoreModule.is ∙ shown_module c.in-CoreModule.text ∙ ap core_module (sym c.deref.ensures.value)))
    ((c.in_ok-change_module-in-CoreModule.ensures {u = tt}).moved
    (made_of_some _ c.in_ok-change_module-in-CoreModule.field-0 c.map.result c.map.ensures.cases there))

pub change_part-returns-in_ok-change_row-in-CoreTypes-clause-part : goal.change_part-returns-in_ok-change_row-in-CoreTypes-clause-part
change_part-returns-in_ok-change_row-in-CoreTypes-clause-part t c =
    let s = c.args.search.now in
    let a = c.args.change.alternative in
    let x = map shown_core_node c.deref-in-CoreTypes.result.now in
    subst (λ p. Found p c.map-in-CoreTypes.result s a)
    (sym (ap shown_part_node c.in-CoreTypes.is ∙ shown_core_types c.in-CoreTypes.entries
    ∙ ap (λ xs. core_types (map shown_core_node xs)) (sym c.deref-in-CoreTypes.ensures.value)))
    (found_made shown_part_node core_types (λ v. map shown_core_node v.items) _ (λ v r e. ap shown_part_node e
    ∙ shown_core_types v) (core_types_places x) (λ k. core_types_changed a k x) x s
    c.in_ok-change_row-in-CoreTypes.field-0 c.map-in-CoreTypes.result c.map-in-CoreTypes.ensures.cases
    (c.in_ok-change_row-in-CoreTypes.ensures {u = tt}).entries)

pub change_part-returns-in_ok-change_row-in-CoreTypes-clause-moved : goal.change_part-returns-in_ok-change_row-in-CoreTypes-clause-moved
change_part-returns-in_ok-change_row-in-CoreTypes-clause-moved t c = λ there.
    subst (λ p. c.change_row.new.search ≡ past (part_places p) c.args.search.now)
    (sym (ap shown_part_node c.in-CoreTypes.is ∙ shown_core_types c.in-CoreTypes.entries
    ∙ ap (λ xs. core_types (map shown_core_node xs)) (sym c.deref-in-CoreTypes.ensures.value)))
    ((c.in_ok-change_row-in-CoreTypes.ensures {u = tt}).moved (made_of_some _ c.in_ok-change_row-in-CoreTypes.field-0 c.map-in-CoreTypes.result
    c.map-in-CoreTypes.ensures.cases there))

pub change_part-returns-in_ok-change_parts-in-Component-clause-part : goal.change_part-returns-in_ok-change_parts-in-Component-clause-part
change_part-returns-in_ok-change_parts-in-Component-clause-part t c =
    let s = c.args.search.now in
    let a = c.args.change.alternative in
    let x = tree_of (map shown_part_node c.deref-in-Component.result.now) in
    subst (λ p. Found p c.map-in-Component.result s a)
    (sym (ap shown_part_node c.in-Component.is ∙ shown_nested c.in-Component.nodes
    ∙ ap (λ xs. component (tree_of (map shown_part_node xs))) (sym c.deref-in-Component.ensures.value)))
    (found_made shown_part_node component (λ v. tree_of (map shown_part_node v.items)) _ (λ v r e. ap shown_part_node e
    ∙ shown_nested v) (places x) (λ k. sections_changed a k x) x s
    c.in_ok-change_parts-in-Component.field-0 c.map-in-Component.result c.map-in-Component.ensures.cases
    (c.in_ok-change_parts-in-Component.ensures {u = tt}).parts)

pub change_part-returns-in_ok-change_parts-in-Component-clause-moved : goal.change_part-returns-in_ok-change_parts-in-Component-clause-moved
change_part-returns-in_ok-change_parts-in-Component-clause-moved t c = λ there.
    subst (λ p. c.change_parts.new.search ≡ past (part_places p) c.args.search.now)
    (sym (ap shown_part_node c.in-Component.is ∙ shown_nested c.in-Component.nodes
    ∙ ap (λ xs. component (tree_of (map shown_part_node xs))) (sym c.deref-in-Component.ensures.value)))
    ((c.in_ok-change_parts-in-Component.ensures {u = tt}).moved (made_of_some _ c.in_ok-change_parts-in-Component.field-0 c.map-in-Component.result
    c.map-in-Component.ensures.cases there))

pub change_part-returns-in_ok-change_row-in-Types-clause-part : goal.change_part-returns-in_ok-change_row-in-Types-clause-part
change_part-returns-in_ok-change_row-in-Types-clause-part t c =
    let s = c.args.search.now in
    let a = c.args.change.alternative in
    let x = map shown_type_node c.deref-in-Types.result.now in
    subst (λ p. Found p c.map-in-Types.result s a)
    (sym (ap shown_part_node c.in-Types.is ∙ shown_types c.in-Types.entries ∙ ap (λ xs. types (map shown_type_node xs)) (sym c.deref-in-Types.ensures.value)))
    (found_made shown_part_node types (λ v. map shown_type_node v.items) _ (λ v r e. ap shown_part_node e
    ∙ shown_types v) (types_places x) (λ k. types_changed a k x) x s
    c.in_ok-change_row-in-Types.field-0 c.map-in-Types.result c.map-in-Types.ensures.cases (c.in_ok-change_row-in-Types.ensures {u = tt}).entries)

pub change_part-returns-in_ok-change_row-in-Types-clause-moved : goal.change_part-returns-in_ok-change_row-in-Types-clause-moved
change_part-returns-in_ok-change_row-in-Types-clause-moved t c = λ there.
    subst (λ p. c.change_row-in-Types.new.search ≡ past (part_places p) c.args.search.now)
    (sym (ap shown_part_node c.in-Types.is ∙ shown_types c.in-Types.entries ∙ ap (λ xs. types (map shown_type_node xs)) (sym c.deref-in-Types.ensures.value)))
    ((c.in_ok-change_row-in-Types.ensures {u = tt}).moved (made_of_some _ c.in_ok-change_row-in-Types.field-0 c.map-in-Types.result
    c.map-in-Types.ensures.cases there))

pub change_part-returns-in_ok-change_row-in-Canons-clause-part : goal.change_part-returns-in_ok-change_row-in-Canons-clause-part
change_part-returns-in_ok-change_row-in-Canons-clause-part t c =
    let s = c.args.search.now in
    let a = c.args.change.alternative in
    let x = map shown_canon c.deref-in-Canons.result.now in
    subst (λ p. Found p c.map-in-Canons.result s a)
    (sym (ap shown_part_node c.in-Canons.is ∙ shown_canons c.in-Canons.entries ∙ ap (λ xs. canons (map shown_canon xs)) (sym c.deref-in-Canons.ensures.value)))
    (found_made shown_part_node canons (λ v. map shown_canon v.items) _ (λ v r e. ap shown_part_node e
    ∙ shown_canons v) (canons_places x) (λ k. canons_changed a k x) x s
    c.in_ok-change_row-in-Canons.field-0 c.map-in-Canons.result c.map-in-Canons.ensures.cases (c.in_ok-change_row-in-Canons.ensures {u = tt}).entries)

pub change_part-returns-in_ok-change_row-in-Canons-clause-moved : goal.change_part-returns-in_ok-change_row-in-Canons-clause-moved
change_part-returns-in_ok-change_row-in-Canons-clause-moved t c = λ there.
    subst (λ p. c.change_row-in-Canons.new.search ≡ past (part_places p) c.args.search.now)
    (sym (ap shown_part_node c.in-Canons.is ∙ shown_canons c.in-Canons.entries ∙ ap (λ xs. canons (map shown_canon xs)) (sym c.deref-in-Canons.ensures.value)))
    ((c.in_ok-change_row-in-Canons.ensures {u = tt}).moved (made_of_some _ c.in_ok-change_row-in-Canons.field-0 c.map-in-Canons.result
    c.map-in-Canons.ensures.cases there))

pub change_part-returns-in_ok-change_row-in-Imports-clause-part : goal.change_part-returns-in_ok-change_row-in-Imports-clause-part
change_part-returns-in_ok-change_row-in-Imports-clause-part t c =
    let s = c.args.search.now in
    let a = c.args.change.alternative in
    let x = map shown_import_node c.deref-in-Imports.result.now in
    subst (λ p. Found p c.map-in-Imports.result s a)
    (sym (ap shown_part_node c.in-Imports.is ∙ shown_imports c.in-Imports.entries
    ∙ ap (λ xs. imports (map shown_import_node xs)) (sym c.deref-in-Imports.ensures.value)))
    (found_made shown_part_node imports (λ v. map shown_import_node v.items) _ (λ v r e. ap shown_part_node e
    ∙ shown_imports v) (imports_places x) (λ k. imports_changed a k x) x s
    c.in_ok-change_row-in-Imports.field-0 c.map-in-Imports.result c.map-in-Imports.ensures.cases (c.in_ok-change_row-in-Imports.ensures {u = tt}).entries)

pub change_part-returns-in_ok-change_row-in-Imports-clause-moved : goal.change_part-returns-in_ok-change_row-in-Imports-clause-moved
change_part-returns-in_ok-change_row-in-Imports-clause-moved t c = λ there.
    subst (λ p. c.change_row-in-Imports.new.search ≡ past (part_places p) c.args.search.now)
    (sym (ap shown_part_node c.in-Imports.is ∙ shown_imports c.in-Imports.entries
    ∙ ap (λ xs. imports (map shown_import_node xs)) (sym c.deref-in-Imports.ensures.value)))
    ((c.in_ok-change_row-in-Imports.ensures {u = tt}).moved (made_of_some _ c.in_ok-change_row-in-Imports.field-0 c.map-in-Imports.result
    c.map-in-Imports.ensures.cases there))

pub change_part-returns-in_ok-change_row-in-Exports-clause-part : goal.change_part-returns-in_ok-change_row-in-Exports-clause-part
change_part-returns-in_ok-change_row-in-Exports-clause-part t c =
    let s = c.args.search.now in
    let a = c.args.change.alternative in
    let x = map shown_export c.deref-in-Exports.result.now in
    subst (λ p. Found p c.map-in-Exports.result s a)
    (sym (ap shown_part_node c.in-Exports.is ∙ shown_exports c.in-Exports.entries
    ∙ ap (λ xs. exports (map shown_export xs)) (sym c.deref-in-Exports.ensures.value)))
    (found_made shown_part_node exports (λ v. map shown_export v.items) _ (λ v r e. ap shown_part_node e
    ∙ shown_exports v) (exports_places x) (λ k. exports_changed a k x) x s
    c.in_ok-change_row-in-Exports.field-0 c.map-in-Exports.result c.map-in-Exports.ensures.cases (c.in_ok-change_row-in-Exports.ensures {u = tt}).entries)

pub change_part-returns-in_ok-change_row-in-Exports-clause-moved : goal.change_part-returns-in_ok-change_row-in-Exports-clause-moved
change_part-returns-in_ok-change_row-in-Exports-clause-moved t c = λ there.
    subst (λ p. c.change_row-in-Exports.new.search ≡ past (part_places p) c.args.search.now)
    (sym (ap shown_part_node c.in-Exports.is ∙ shown_exports c.in-Exports.entries
    ∙ ap (λ xs. exports (map shown_export xs)) (sym c.deref-in-Exports.ensures.value)))
    ((c.in_ok-change_row-in-Exports.ensures {u = tt}).moved (made_of_some _ c.in_ok-change_row-in-Exports.field-0 c.map-in-Exports.result
    c.map-in-Exports.ensures.cases there))

pub change_part-returns-in_ok-copy_part-in-Custom-clause-part : goal.change_part-returns-in_ok-copy_part-in-Custom-clause-part
change_part-returns-in_ok-copy_part-in-Custom-clause-part t c =
    let s = c.args.search.now in
    let a = c.args.change.alternative in
    ap Some (c.in_ok-copy_part-in-Custom.ensures {u = tt})
    ∙ subst (λ p. Some p ≡ sought (part_places p) s (λ k. part_changed a k p) p) (sym (ap shown_part_node c.in-Custom.is ∙ shown_custom c.in-Custom.field-0))
    (sym (sought_none s (λ k. None) _))

pub change_part-returns-in_ok-copy_part-in-Custom-clause-moved : goal.change_part-returns-in_ok-copy_part-in-Custom-clause-moved
change_part-returns-in_ok-copy_part-in-Custom-clause-moved t c = λ there.
    subst (λ p. c.args.search.now ≡ past (part_places p) c.args.search.now) (sym (ap shown_part_node c.in-Custom.is ∙ shown_custom c.in-Custom.field-0))
    (sym (past_none c.args.search.now))
