use Rattle.std.proofs.Common.{◌≡◌, ◌++◌, ◌∷◌, [], map}
use Rattle.std.proofs.lemmas.List.{map_push}
use Rattle.smith_read.specs.TypeNodes.{shown_type_node}
use Rattle.smith_read.proofs.Digits.{passes}
use Rattle.smith_read.proofs.Loops.{goes_on, stops, is_done}
use Rattle.smith_read.proofs.entries.types_of.Goals as goal

pub returns-in_err-ty : goal.returns-in_err-ty
returns-in_err-ty c = passes _ c.from_residual.result _ _ _ c.from_residual.ensures.1 c.in_err-ty.ensures (stops _ _ _ _ _ _ c.loop-test.true c.loop.invariant)

pub loop-preserved : goal.loop-preserved
loop-preserved c =
    let x = c.in_ok-ty.ty in
    let e : map shown_type_node c.push.new.self.items ≡ map shown_type_node c.loop.types.items ++ shown_type_node x ∷ [] =
    rw c.in_ok-push.ensures.items (map_push _ c.loop.types.items x) in
    rw e (goes_on _ _ _ _ _ _ _ _ c.loop-test.true c.in_ok-ty.ensures c.loop.invariant)

pub returns : goal.returns
returns c = is_done _ _ _ _ _ _ c.loop-test.false c.loop.invariant
