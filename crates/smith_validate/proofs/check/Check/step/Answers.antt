use Rattle.std.proofs.Common.{◌∷◌, [], refl}
use Rattle.smith_read.specs.Nodes.{shown_core_node}
use Rattle.smith_read.specs.PartNodes.{shown_import_node}
use Rattle.smith_read.specs.TypeNodes.{shown_type_node}
use Rattle.smith_tree.specs.Shown.{shown_canon, shown_export}
use Rattle.smith_tree.specs.Tree.{canons, core_types, exports, imports, types}
use Rattle.smith_validate.proofs.Judging.{on_any}
use Rattle.smith_validate.proofs.Standing.{module_goes, one_goes}
use Rattle.smith_validate.proofs.check.Check.step.Goals as goal

pub returns-in-CoreModule : goal.returns-in-CoreModule
returns-in-CoreModule c =
    let f = c.add_module in
    rw (c.in-CoreModule.is)
    (module_goes f.result c.args.self.now f.new.counts c.in-CoreModule.text.now f.ensures.bound f.ensures.judged f.ensures.added)

pub returns-in-CoreType : goal.returns-in-CoreType
returns-in-CoreType c =
    let f = c.add_core_row in
    rw (c.in-CoreType.is)
    (one_goes f.result c.args.self.now f.new.known f.new.here (core_types (shown_core_node c.in-CoreType.ty.now ∷ [])) f.ensures.steps f.ensures.exactly
    f.ensures.outer)

pub returns-in-Type : goal.returns-in-Type
returns-in-Type c =
    let f = c.add_type_row in
    rw (c.in-Type.is)
    (one_goes f.result c.args.self.now f.new.known f.new.here (types (shown_type_node c.in-Type.ty.now ∷ [])) f.ensures.steps f.ensures.exactly
    f.ensures.outer)

pub returns-in-Canon : goal.returns-in-Canon
returns-in-Canon c =
    let f = c.add_canon_row in
    let k = c.args.self.now.known in
    rw (c.in-Canon.is)
    (one_goes f.result c.args.self.now k f.new.here (canons (shown_canon c.in-Canon.canon.now ∷ [])) (f.ensures.steps k) (f.ensures.exactly k)
    (on_any f.result refl))

pub returns-in-Import : goal.returns-in-Import
returns-in-Import c =
    let f = c.add_import_row in
    rw (c.in-Import.is)
    (one_goes f.result c.args.self.now f.new.known f.new.here (imports (shown_import_node c.in-Import.row.now ∷ [])) f.ensures.steps f.ensures.exactly
    f.ensures.outer)

pub returns-in-Export : goal.returns-in-Export
returns-in-Export c =
    let f = c.add_export_row in
    rw (c.in-Export.is)
    (one_goes f.result c.args.self.now f.new.known f.new.here (exports (shown_export c.in-Export.row.now ∷ [])) f.ensures.steps f.ensures.exactly
    f.ensures.outer)
