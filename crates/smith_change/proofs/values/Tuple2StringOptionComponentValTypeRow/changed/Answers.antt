use Rattle.std.proofs.Common.{◌≡◌, ap, refl, subst, sym, string_bytes, ◌∙◌}
use Rattle.std.specs.Option.{option_map}
use Rattle.smith_syntax.specs.Signature.{named}
use Rattle.smith_change.specs.Alternatives.{name_alternative}
use Rattle.smith_change.specs.Members.{optional_changed, optional_places}
use Rattle.smith_read.specs.Search.{sought}
use Rattle.smith_change.proofs.RowsOf.{same_option}
use Rattle.smith_change.proofs.Seeking.{found_both, moved_both}
use Rattle.smith_change.proofs.values.Tuple2StringOptionComponentValTypeRow.changed.Goals as goal

pub returns-clause-entry : goal.returns-clause-entry
returns-clause-entry c =
    let a = c.args.change.alternative in
    let n = string_bytes c.args.self.now.0 in
    let ty = c.args.self.now.1 in
    let told = c.in_ok-name.ensures {u = tt} in
    let name = subst (λ n. option_map string_bytes c.in_ok-name.name ≡ sought 1 c.args.search.now (λ k. name_alternative a n) n) c.as_str.ensures.value
    told.name in
    ap (option_map named) c.zip.ensures
    ∙ found_both string_bytes (λ v. v) named (λ n v. (n, v)) (λ n v. refl) 1 (optional_places ty) (λ j. name_alternative a n)
    (λ j. optional_changed a j ty) n ty c.args.search.now c.change_name.new.search c.in_ok-name.name c.change_optional.result
    name (λ is. (c.in_ok-name.ensures {u = tt}).moved) (sym (same_option c.change_optional.result) ∙ c.change_optional.ensures.value)

pub returns-clause-moved : goal.returns-clause-moved
returns-clause-moved c = λ is.
    moved_both 1 (optional_places c.args.self.now.1) c.args.search.now c.change_name.new.search c.change_optional.new.search c.in_ok-name.name
    c.change_optional.result (λ is. (c.in_ok-name.ensures {u = tt}).moved) c.change_optional.ensures.moved (rw c.zip.ensures at is)
