use Rattle.std.proofs.Common.{◌∷◌, [], ◌++◌, ap, ◌∙◌}
use Rattle.smith_script.proofs.Noted.{noted_row, then_follows}
use Rattle.smith_script.proofs.types.note.Goals as goal

pub returns-clause-ok : goal.returns-clause-ok
returns-clause-ok c =
    then_follows c.in_ok-number.ensures.same
    (noted_row c.number_of.new.numbers c.number_of.new.rows.items c.in_ok-number.ensures.same.numbered c.args.func.now c.args.index c.in_ok-number.number
    c.in_ok-number.ensures.number c.index_mut.result.now c.push.new.self
    ((c.in_ok-push.ensures {u = tt}).items ∙ ap (λ r. r.items ++ c.args.index ∷ []) c.index_mut.ensures.value))
