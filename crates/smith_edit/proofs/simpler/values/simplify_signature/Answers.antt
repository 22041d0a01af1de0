use Rattle.std.proofs.Common.{◌≡◌, true, length, refl, subst, sym, ◌∙◌, ap, rules}
use Rattle.std.proofs.lemmas.List.{length-map}
use Rattle.std.specs.Option.{IsSome, is_some, option_to_list}
use Rattle.smith_read.specs.Search.{among, past}
use Rattle.smith_edit.proofs.Renaming.{signature_none}
use Rattle.smith_edit.proofs.simpler.values.simplify_signature.Goals as goal

pub returns-then-is_some-clause-ty : goal.returns-then-is_some-clause-ty
returns-then-is_some-clause-ty c =
    let view = c.ty.view_is in
    let moved = c.in_ok-params.ensures.moved (subst IsSome (sym c.in-Some.is) refl) in
    let from : c.from.result ≡ length (option_to_list c.args.ty.now.result) = search rules in
    let long : length c.deref.result.now ≡ length c.args.ty.now.params = search (rules, length-map) in
    let among_is : c.pass.result ≡ among (length (option_to_list c.args.ty.now.result)) (past (length c.args.ty.now.params) c.args.finder.now.search) =
    rw (from, moved, long) at c.pass.ensures.which in
    let some : is_some c.pass.result ≡ true = search rules in
    signature_none c.args.ty.now c.args.finder.now.search (sym (ap is_some among_is) ∙ some)
