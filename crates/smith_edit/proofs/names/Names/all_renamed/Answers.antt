use Rattle.std.proofs.Common.{◌≡◌, ℕ, ◌++◌, List, ◌∙◌, ap, map, string_bytes}
use Rattle.smith_edit.specs.Edits.{new_name}
use Rattle.smith_edit.proofs.NewNames.{renamed_names, renamed_step}
use Rattle.smith_edit.proofs.names.Names.all_renamed.Goals as goal

pub loop-item-preserved : goal.loop-item-preserved
loop-item-preserved g c = λ names known.
    let N = g.T.Named in
    let (knows, more) = c.loop-item.invariant names known in
    let so_far : List (List ℕ) = names ++ map N.name (map N.shown c.loop-item.renamed.items) in
    let new : List ℕ = string_bytes c.in_ok-name.name in
    let made : new ≡ new_name so_far (N.name (N.shown c.item-item.result)) = c.in_ok-name.ensures so_far knows ∙ ap (new_name so_far) c.label.ensures in
    let added = c.in_ok-add.ensures so_far knows in
    rw c.in_ok-push.ensures.items (
      rw (renamed_names N.shown N.name N.rename N.is_renamed names c.loop-item.renamed.items c.item-item.result c.renamed.result new c.renamed.ensures)
          (rw c.as_str.ensures.value at added),
      renamed_step N.shown N.name N.rename N.is_renamed names _ c.args.items.now c.loop-item.renamed.items c.loop-item.item-index c.item-item.result
          c.renamed.result new
          c.loop-item-test.true c.item-item.is made c.renamed.ensures more,
    )
