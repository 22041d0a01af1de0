use Rattle.smith_read.specs.PartNodes.{shown_tree}
use Rattle.smith_corpus.proofs.Changing.{no_place}
use Rattle.smith_corpus.proofs.breaking.change_of.Goals as goal

pub returns-in_default : goal.returns-in_default
returns-in_default c =
    no_place (shown_tree c.args.tree.now) c.args.number c.in_ok-place.field-0 c.in_default.is (c.in_ok-place.ensures {u = tt})
