use Rattle.std.proofs.Common.{map, refl, sym, string_bytes, ◌∙◌}
use Rattle.smith_syntax.specs.Entries.{enum_type, flags_type}
use Rattle.smith_syntax.specs.Shown.{shown_defined}
use Rattle.smith_change.specs.Alternatives.{only}
use Rattle.smith_change.specs.Members.{labels_changed, labels_places, most_flags}
use Rattle.smith_change.specs.Rows.{new_name}
use Rattle.smith_change.proofs.Seeking.{found_later}
use Rattle.smith_change.proofs.members.change_flags.Goals as goal

pub returns-clause-ty : goal.returns-clause-ty
returns-clause-ty c =
    let a = c.args.change.alternative in
    let names = map string_bytes c.args.labels.now in
    found_later shown_defined flags_type (λ v. map string_bytes v.items) _ (λ v r e. e) (labels_places names) (λ j. labels_changed most_flags a j names) names
    c.step.new.self c.in_ok-change_members.field-0 c.map.result c.map.ensures.cases (only a (enum_type names)) c.args.search.now
    (sym c.step.ensures.here ∙ c.if-step.false) c.step.ensures.moved ((c.in_ok-change_members.ensures {u = tt}).entries new_name (λ n. refl))
