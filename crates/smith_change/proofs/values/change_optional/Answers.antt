use Rattle.std.proofs.Common.{◌≡◌, Some, subst, sym, ◌∙◌}
use Rattle.smith_change.specs.Alternatives.{presence_alternative, value_alternative}
use Rattle.smith_change.specs.Members.{optional_changed, optional_places}
use Rattle.smith_read.specs.Search.{sought}
use Rattle.smith_change.proofs.RowsOf.{same_option}
use Rattle.smith_change.proofs.Seeking.{found_later}
use Rattle.smith_change.proofs.values.change_optional.Goals as goal

pub returns-in-Some-clause-value : goal.returns-in-Some-clause-value
returns-in-Some-clause-value c =
    let a = c.args.change.alternative in
    let ty = c.in-Some.ty in
    subst
    (λ v. c.map.result ≡ sought (optional_places v) c.args.search.now (λ k. optional_changed a k v) v)
    (sym c.in-Some.is)
    (same_option c.map.result
    ∙ found_later (λ v. v) Some (λ v. v) _ (λ v r e. e) 1 (λ j. value_alternative a ty) ty c.step.new.self c.change_value.result c.map.result
    c.map.ensures.cases (presence_alternative a (Some ty)) c.args.search.now (sym c.step.ensures.here ∙ c.if-step.false) c.step.ensures.moved
    (sym (same_option c.change_value.result) ∙ c.change_value.ensures.value))
