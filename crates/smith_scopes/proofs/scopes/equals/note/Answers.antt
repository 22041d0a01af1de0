use Rattle.std.proofs.Common.{[], ◌∷◌, ◌++◌, ap, ◌∙◌, rules}
use Rattle.std.specs.HashMap.{get}
use Rattle.std.specs.HashMap.Entry.{entry_value, map_with_value}
use Rattle.smith_syntax.specs.SameSignature.{same_signature}
use Rattle.smith_scopes.proofs.Rows.{notes_put, row_or}
use Rattle.smith_scopes.proofs.scopes.equals.note.Goals as goal

pub returns-clause-ok : goal.returns-clause-ok
returns-clause-ok c =
    let w = c.push.new.self in
    let old = c.args.rows.now in
    let key = c.in_ok-key.key in
    let row = row_or (entry_value c.in_ok-rows.field-0) (get same_signature old key) c.new.result c.or_insert-row.result.now c.or_insert-row.ensures.value
    c.in_ok-rows.ensures.value c.new.ensures.items in
    let noted = notes_put old (map_with_value c.in_ok-rows.field-0 w) key w (c.in_ok-rows.ensures.update.0 w).0 c.args.func.now c.in_ok-key.ensures.value
    c.args.index (c.in_ok-push.ensures.items ∙ ap (λ is. is ++ c.args.index ∷ []) row) in
    search (rules, noted)
