use Rattle.std.proofs.Common.{◌∷◌, [], ◌++◌, ap, ◌∙◌}
use Rattle.smith_script.proofs.Noted.{as_before, pushed_function, pushed_other}
use Rattle.smith_script.proofs.types.Types.push.Goals as goal
use Rattle.smith_script.proofs.types.Types.push.Goals.{in-Some+in_ok-number-in-Some, in-None}

pub invariant_of-self-2 : goal.invariant_of-self-2
invariant_of-self-2 c =
    let at = c.len-index.ensures ∙ c.self.inside.types.ok.0 in
    let number = c.match-function_of.number in
    elim c.match-function_of.branch [
      | in-Some+in_ok-number-in-Some w ↦
          let types = c.push_reserved.ensures.items ∙ (ap (λ s. s.types.items ++ c.args.ty ∷ []) w.self-inside-is
          ∙ ap (λ es. es ++ c.args.ty ∷ []) (c.in_ok-reserve.ensures {u = tt}).items) in
          let rows = c.push_reserved-2.ensures.items ∙ (ap (λ s. s.row_of.items ++ number ∷ []) w.self-inside-is
          ∙ ap (λ es. es ++ number ∷ []) (c.in_ok-reserve-2.ensures {u = tt}).items) in
          let noted = w.in_ok-number-in-Some.ensures {u = tt} in
          pushed_function c.self.inside.types.items c.self.inside.row_of.items c.self.invariant c.len-index.result at c.args.ty c.push_reserved.new.self.items
          types number c.push_reserved-2.new.self.items rows w.in-Some.func.now w.in-Some.ensures (rw w.self-inside-is noted.ok)
          (rw (w.self-inside-is, w.number-is) noted.number)
      | in-None w ↦
          let types = c.push_reserved.ensures.items ∙ (ap (λ s. s.types.items ++ c.args.ty ∷ []) w.self-inside-is
          ∙ ap (λ es. es ++ c.args.ty ∷ []) (c.in_ok-reserve.ensures {u = tt}).items) in
          let rows = c.push_reserved-2.ensures.items ∙ (ap (λ s. s.row_of.items ++ number ∷ []) w.self-inside-is
          ∙ ap (λ es. es ++ number ∷ []) (c.in_ok-reserve-2.ensures {u = tt}).items) in
          pushed_other c.self.inside.types.items c.self.inside.row_of.items c.self.invariant c.len-index.result at c.args.ty c.push_reserved.new.self.items
          types number c.push_reserved-2.new.self.items rows w.in-None.ensures
          (rw w.self-inside-is (as_before c.self.inside.numbers c.self.inside.rows.items c.self.invariant.numbered))
    ]
