use Rattle.std.proofs.Common.{◌∷◌, [], ◌++◌, cond, length, ap, ◌∙◌, Some}
use Rattle.std.specs.HashMap.{get}
use Rattle.smith_syntax.specs.SameSignature.{same_signature}
use Rattle.smith_script.proofs.Noted.{new_row}
use Rattle.smith_script.proofs.types.new_number.Goals as goal

pub returns-clause-same : goal.returns-clause-same
returns-clause-same c =
    let rows = (c.in_ok-reserve.ensures {u = tt}).items in
    let number = c.len-number.ensures ∙ (c.reserve.new.self.ok.0 ∙ ap length rows) in
    new_row c.args.numbers.now c.args.rows.now.items c.requires.numbered c.args.func.now c.requires.missing c.insert.new.self
    (λ s. (c.in-Ok-insert.ensures.updates).0 s
    ∙ (ap (λ k. cond (same_signature k s) (Some c.len-number.result) (get same_signature c.args.numbers.now s)) c.in-Ok.ensures.value
    ∙ ap (λ n. cond (same_signature c.args.func.now s) (Some n) (get same_signature c.args.numbers.now s)) number)) c.new.result
    c.new.ensures.items c.push_reserved.new.self.items (c.push_reserved.ensures.items ∙ ap (λ xs. xs ++ c.new.result ∷ []) rows)
