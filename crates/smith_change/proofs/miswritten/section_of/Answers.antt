use Rattle.std.proofs.Common.{arith, length-drop, rules}
use Rattle.std.proofs.lemmas.List.{take_all}
use Rattle.smith_change.proofs.WrongBytes.{section_front}
use Rattle.smith_change.proofs.miswritten.section_of.Goals as goal

pub returns : goal.returns
returns c =
    section_front c.args.bytes.now _ c.in-Ok.rest.now c.in-Ok.length (search rules)
    (take_all _ _ (omega (arith, length-drop 1 c.args.bytes.now))) c.in-Ok.ensures
