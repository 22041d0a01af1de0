use Rattle.std.proofs.Common.{[], refl}
use Rattle.smith_script_types.proofs.Saying.{gives_up}
use Rattle.smith_script.proofs.parts.say_tree.Goals as goal

pub returns-in_err-say_parts : goal.returns-in_err-say_parts
returns-in_err-say_parts c formed =
    gives_up _ _ _ _ c.from_residual.ensures.1
    ((rw c.deref.ensures.value at c.in_err-say_parts.ensures.said) [] (record { scopes = c.with_marks-scopes.ensures.outer; here = refl; known = tt }) formed)

pub returns : goal.returns
returns c formed =
    (rw c.deref.ensures.value at c.in_ok-say_parts.ensures.said) [] (record { scopes = c.with_marks-scopes.ensures.outer; here = refl; known = tt }) formed
