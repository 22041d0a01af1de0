use Rattle.std.proofs.Common.{◌+◌, ◌≡◌, ap, arith, ◌∙◌, subst}
use Rattle.smith_format.specs.CoreTypes.{core_function}
use Rattle.smith_format.specs.Entities.{memory_type}
use Rattle.smith_format.specs.Piece.{bytes, ◌⊕◌}
use Rattle.smith_format.specs.Shown.{shown_func}
use Rattle.smith_format.specs.Writing.{Takes}
use Rattle.smith_format.proofs.Piece.{left_none, right_none}
use Rattle.smith_format.proofs.Sizes.{measures_none, takes_bytes, takes_then}
use Rattle.smith_core.specs.Preamble.{core_preamble}
use Rattle.smith_core.specs.StandInText.{listed, stand_in_text}
use Rattle.smith_core.specs.Kept.{shown}
use Rattle.smith_core.proofs.Kept.{listed_shown}
use Rattle.smith_core.proofs.module.stand_in.StandIn.measure.Goals as goal

pub returns-in_err-types : goal.returns-in_err-types
returns-in_err-types c =
    let types = c.args.self.now.types.items in
    let memories = c.args.self.now.memories.items in
    let d = rw c.deref.ensures.value at ((c.in_err-types.ensures {u = tt}).length 1) in
    rw (← listed_shown 1 core_function shown_func types)
    (measures_none _ _ c.from_residual.ensures.1 d.0
    (ap (λ q. bytes core_preamble ⊕ q ⊕ listed 5 memory_type memories) d.1 ∙ ap (λ q. bytes core_preamble ⊕ q) (left_none _) ∙ right_none _))

pub returns-in_err-memories : goal.returns-in_err-memories
returns-in_err-memories c =
    let types = listed 1 core_function (shown c.args.self.now).types in
    let d = rw c.deref-2.ensures.value at ((c.in_err-memories.ensures {u = tt}).length 5) in
    measures_none _ _ c.from_residual-in_err-memories.ensures.1 d.0
    (ap (λ q. bytes core_preamble ⊕ types ⊕ q) d.1 ∙ ap (λ q. bytes core_preamble ⊕ q) (right_none types) ∙ right_none _)

pub returns : goal.returns
returns c =
    let types = c.args.self.now.types.items in
    let first = rw (c.deref.ensures.value, listed_shown 1 core_function shown_func types) at ((c.in_ok-types.ensures {u = tt}).length 1) in
    let last = rw c.deref-2.ensures.value at ((c.in_ok-memories.ensures {u = tt}).length 5) in
    let t = takes_then (takes_bytes 8 core_preamble (omega arith)) (takes_then first last) in
    let e : 8 + (c.in_ok-types.types + c.in_ok-memories.memories) ≡ 8 + c.in_ok-types.types + c.in_ok-memories.memories = omega arith in
    subst (λ n. Takes n (stand_in_text (shown c.args.self.now))) e t
