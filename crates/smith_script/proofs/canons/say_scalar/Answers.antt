use Rattle.std.proofs.Common.{sym}
use Rattle.smith_script.proofs.Same.{scalar_same}
use Rattle.smith_script.proofs.canons.say_scalar.Goals as goal

pub returns-in-Primitive : goal.returns-in-Primitive
returns-in-Primitive c = rw (c.in-Primitive.is, sym (scalar_same c.in-Primitive.primitive)) (rw c.flat_like.ensures at c.say_among.ensures)
