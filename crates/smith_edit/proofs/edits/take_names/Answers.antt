use Rattle.std.proofs.Common.{◌++◌}
use Rattle.smith_read.specs.PartNodes.{shown_part_node}
use Rattle.smith_tree.specs.Tree.{exports_in, imports_in}
use Rattle.smith_tree.specs.WellFormed.{export_names, import_names}
use Rattle.smith_edit.proofs.Joining.{exported, exported_more, imported, imported_more}
use Rattle.smith_edit.proofs.Sublists.{gathered_step}
use Rattle.smith_edit.proofs.edits.take_names.Goals as goal

pub loop-part-preserved : goal.loop-part-preserved
loop-part-preserved c =
    let (is, es, knows, imports, exports) = c.loop-part.invariant in
    let p = shown_part_node c.part-item.result in (
      is ++ import_names (imports_in p),
      es ++ export_names (exports_in p),
      c.in_ok-add.ensures is es knows,
      gathered_step shown_part_node imported (λ q. import_names (imports_in q)) imported_more is _ c.args.parts.now c.loop-part.part-index
          c.part-item.result c.loop-part-test.true c.part-item.is imports,
      gathered_step shown_part_node exported (λ q. export_names (exports_in q)) exported_more es _ c.args.parts.now c.loop-part.part-index
          c.part-item.result c.loop-part-test.true c.part-item.is exports,
    )
