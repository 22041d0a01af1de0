use Rattle.std.proofs.Common.{arith, rules, ap, ◌≡◌, ◌∙◌, ◌<◌, length, ◌++◌, ◌∷◌, [], map}
use Rattle.std.proofs.lemmas.List.{map_push}
use Rattle.smith_read.proofs.Digits.{passes, fails}
use Rattle.smith_read.specs.PartNodes.{shown_part_node}
use Rattle.smith_read.proofs.Depth.{parts_next, parts_stop, parts_done, parts_left}
use Rattle.smith_read.proofs.parts.+reading.Goals.{parts_of-else-loop-test, parts_of-then-loop-test+then-is_empty}
use Rattle.smith_read.proofs.parts.+reading.Goals as goal

pub parts_of-returns-in_err-part : goal.parts_of-returns-in_err-part
parts_of-returns-in_err-part t c = grind (arith, passes, parts_stop)

pub parts_of-loop-preserved : goal.parts_of-loop-preserved
parts_of-loop-preserved t c =
    let l : 0 < length c.loop.rest.now = search rules in
    let e : map shown_part_node c.push.new.self.items ≡ map shown_part_node c.loop.parts.items ++ shown_part_node c.in_ok-part.part ∷ []
    = ap (map shown_part_node) (c.in_ok-push.ensures {u = tt}).items ∙ map_push _ c.loop.parts.items c.in_ok-part.part in
    rw e (parts_next _ _ _ _ _ _ _ _ _ c.loop-test.true l c.in_ok-part.ensures c.loop.invariant)

pub parts_of-returns-then-not-is_empty : goal.parts_of-returns-then-not-is_empty
parts_of-returns-then-not-is_empty t c = grind (arith, parts_of-else-loop-test, fails, parts_left)

pub parts_of-returns : goal.parts_of-returns
parts_of-returns t c =
    let l : length c.loop.rest.now ≡ 0 = search rules in
    parts_done _ _ _ _ _ _ l c.loop.invariant
