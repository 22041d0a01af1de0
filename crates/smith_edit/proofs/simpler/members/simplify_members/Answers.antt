use Rattle.std.proofs.Common.{◌≡◌, List, [], map, ap, subst, IfOk, Option}
use Rattle.std.specs.Option.{option_map}
use Rattle.smith_edit.specs.Simpler.{member_renamed}
use Rattle.smith_read.proofs.Seeking.{by_number}
use Rattle.smith_edit.proofs.simpler.members.simplify_members.Goals as goal

pub returns-in_ok-add_all-in-Some-clause-members : goal.returns-in_ok-add_all-in-Some-clause-members
returns-in_ok-add_all-in-Some-clause-members g c =
    let N = g.T.Named in
    let all : List N.Shown = map N.shown c.args.items.now in
    let known = c.in_ok-add_all-in-Some.ensures [] c.new-known.ensures in
    let is = ap (λ o. by_number o (λ k. member_renamed N.name N.rename k all) all) c.in-Some.ensures.which in
    subst (λ (t : Option (List N.Shown)). IfOk c.rename_at.result (λ r. option_map (λ v. map N.shown v.items) r ≡ t)) is
    (c.rename_at.ensures (map N.name all) known)
