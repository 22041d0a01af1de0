use Rattle.std.proofs.Common.{◌≡◌, ◌+◌, ◌-◌, ◌≤◌, false, arith, Decides}
use Rattle.smith_format.proofs.Results.{ok_then}
use Rattle.smith_read.specs.PartNodes.{shown_tree}
use Rattle.smith_edit.specs.Edits.{without_items}
use Rattle.smith_edit.specs.Items.{tree_items}
use Rattle.smith_reduce.specs.Wanted.{AreCountsAllowed, ArePassed}
use Rattle.smith_reduce.proofs.Passing.{removals_pass}
use Rattle.smith_reduce.proofs.steps.Whole.may_remove.Goals as goal

pub returns : goal.returns
returns c =
    let want = c.args.self.now.wanted in
    let t = shown_tree c.args.self.now.component.now in
    let within : c.args.first + c.args.count ≤ tree_items t = omega (arith, c.requires.within, c.requires.whole.items) in
    let decided = rw c.in_ok-less.ensures at c.allows.ensures in
    ok_then (λ r. Decides r (AreCountsAllowed want (without_items c.args.first (c.args.first + (c.args.count - 1)) t)))
    (λ r. r ≡ false → ArePassed want t c.args.first (c.args.first + c.args.count)) c.allows.result
    (λ r d no. removals_pass want t c.args.first c.args.count c.requires.some within (λ keeps. let bad = d.1 keeps in absurd cc)) decided
