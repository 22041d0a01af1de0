use Rattle.std.proofs.Common.{arith, ◌≡◌, ◌++◌, ◌∷◌, [], map}
use Rattle.std.proofs.lemmas.List.{map_push}
use Rattle.smith_read.proofs.Digits.{passes}
use Rattle.smith_read.proofs.Loops.{goes_on, stops, is_done}
use Rattle.smith_read.proofs.lists.times_of.Goals as goal

pub returns-in_err-item : goal.returns-in_err-item
returns-in_err-item g c = grind (arith, passes, stops)

pub loop-preserved : goal.loop-preserved
loop-preserved g c =
    let shown = g.T.Readable.shown in
    let x = c.in_ok-item.item in
    let e : map shown c.push.new.self.items ≡ map shown c.loop.items.items ++ shown x ∷ [] = rw c.in_ok-push.ensures.items (map_push _ c.loop.items.items x) in
    rw e (goes_on g.T.Readable.reading _ _ _ _ _ _ _ c.loop-test.true c.in_ok-item.ensures c.loop.invariant)

pub returns : goal.returns
returns g c = is_done g.T.Readable.reading _ _ _ _ _ c.loop-test.false c.loop.invariant
