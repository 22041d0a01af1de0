use Rattle.std.proofs.Common.{◌≡◌, ℕ, Option, ap, map, refl, subst, sym, ◌∙◌}
use Rattle.std.proofs.lemmas.List.{map-id}
use Rattle.std.specs.Option.{IsSome, option_map}
use Rattle.std.specs.Prelude.{IfOk, string_bytes}
use Rattle.smith_syntax.specs.Entries.{enum_type, flags_type, primitive_type, record_type, tuple_type, variant_type}
use Rattle.smith_syntax.specs.Shown.{shown_defined}
use Rattle.smith_syntax.specs.Signature.{named}
use Rattle.smith_change.specs.Members.{cases_changed, cases_places, fields_changed, fields_places, most_members, new_case, new_field, new_value}
use Rattle.smith_change.specs.Members.{values_changed, values_places}
use Rattle.smith_change.specs.Members.{defined_changed, defined_places}
use Rattle.smith_read.specs.Search.{past, sought}
use Rattle.smith_read.specs.declared.search.Search.{Search}
use Rattle.smith_syntax.specs.declared.types.DefinedType.{DefinedType}
use Rattle.smith_change.proofs.RowsOf.{same_option}
use Rattle.smith_change.proofs.Seeking.{found_made}
use Rattle.smith_change.proofs.members.change_defined.Goals as goal

-- what is found of a type
abbrev Found : DefinedType → Option DefinedType → Search → ℕ → Type 0
Found t r s a = option_map shown_defined r ≡ sought (defined_places (shown_defined t)) s (λ k. defined_changed a k (shown_defined t)) (shown_defined t)

pub returns-in-Primitive-clause-ty : goal.returns-in-Primitive-clause-ty
returns-in-Primitive-clause-ty c =
    let p = c.in-Primitive.ty in
    subst (λ t. Found t c.map.result c.args.search.now c.args.change.alternative) (sym c.in-Primitive.is)
    (found_made shown_defined primitive_type (λ v. v) _ (λ v r e. ap shown_defined e) 1 (λ k. c.primitive_alternative.result) p c.args.search.now
    c.value_or-ty.result c.map.result c.map.ensures.cases (sym (same_option c.value_or-ty.result) ∙ c.value_or-ty.ensures.value)
    ∙ ap (λ o. sought 1 c.args.search.now (λ k. o) (primitive_type p)) c.primitive_alternative.ensures)

pub returns-in_ok-fields-in-Record-clause-ty : goal.returns-in_ok-fields-in-Record-clause-ty
returns-in_ok-fields-in-Record-clause-ty c =
    let a = c.args.change.alternative in
    let s = c.args.search.now in
    let fs = map named c.in-Record.ty.fields.items in
    let told = c.in_ok-fields-in-Record.ensures {u = tt} in
    let found = subst
    (λ xs. option_map (λ v. map named v.items) c.in_ok-fields-in-Record.fields ≡ sought (fields_places (map named xs)) s
    (λ k. fields_changed most_members a k (map named xs)) (map named xs))
    c.deref.ensures.value (told.entries new_field (λ n. refl)) in
    subst (λ t. Found t c.map-in-Record.result s a) (sym c.in-Record.is)
    (found_made shown_defined record_type (λ v. map named v.items) _ (λ v r e. e) (fields_places fs)
    (λ j. fields_changed most_members a j fs) fs s c.in_ok-fields-in-Record.fields c.map-in-Record.result c.map-in-Record.ensures.cases found)

pub returns-in_ok-cases-in-Variant-clause-ty : goal.returns-in_ok-cases-in-Variant-clause-ty
returns-in_ok-cases-in-Variant-clause-ty c =
    let a = c.args.change.alternative in
    let s = c.args.search.now in
    let cs = map named c.in-Variant.ty.cases.items in
    let told = c.in_ok-cases-in-Variant.ensures {u = tt} in
    let found = subst
    (λ xs. option_map (λ v. map named v.items) c.in_ok-cases-in-Variant.cases ≡ sought (cases_places (map named xs)) s
    (λ k. cases_changed most_members a k (map named xs)) (map named xs))
    c.deref-in-Variant.ensures.value (told.entries new_case (λ n. refl)) in
    subst (λ t. Found t c.map-in-Variant.result s a) (sym c.in-Variant.is)
    (found_made shown_defined variant_type (λ v. map named v.items) _ (λ v r e. e) (cases_places cs)
    (λ j. cases_changed most_members a j cs) cs s c.in_ok-cases-in-Variant.cases c.map-in-Variant.result c.map-in-Variant.ensures.cases found)

pub returns-in_ok-fields-in-Tuple-clause-ty : goal.returns-in_ok-fields-in-Tuple-clause-ty
returns-in_ok-fields-in-Tuple-clause-ty c =
    let a = c.args.change.alternative in
    let s = c.args.search.now in
    let vs = c.in-Tuple.ty.fields.items in
    let told = c.in_ok-fields-in-Tuple.ensures {u = tt} in
    let mapped = told.entries new_value (λ n. refl) in
    let found = subst
    (λ xs. option_map (λ v. map (λ x. x) v.items) c.in_ok-fields-in-Tuple.fields ≡ sought (values_places xs) s (λ k. values_changed most_members a k xs) xs)
    (map-id _ ∙ c.deref-in-Tuple.ensures.value) mapped in
    subst (λ t. Found t c.map-in-Tuple.result s a) (sym c.in-Tuple.is)
    (found_made shown_defined tuple_type (λ v. map (λ x. x) v.items) _ (λ v r e. e ∙ ap tuple_type (sym (map-id v.items)))
    (values_places vs) (λ j. values_changed most_members a j vs) vs s c.in_ok-fields-in-Tuple.fields c.map-in-Tuple.result
    c.map-in-Tuple.ensures.cases found)

pub returns-in-List-clause-ty : goal.returns-in-List-clause-ty
returns-in-List-clause-ty c =
    subst (λ t. Found t c.change_list.result c.args.search.now c.args.change.alternative) (sym c.in-List.is) c.change_list.ensures.ty

pub returns-in-Option-clause-ty : goal.returns-in-Option-clause-ty
returns-in-Option-clause-ty c =
    subst (λ t. Found t c.change_option.result c.args.search.now c.args.change.alternative) (sym c.in-Option.is) c.change_option.ensures.ty

pub returns-in-Flags-clause-ty : goal.returns-in-Flags-clause-ty
returns-in-Flags-clause-ty c =
    subst (λ d. IfOk c.change_flags.result (λ r. option_map shown_defined r
    ≡ sought (defined_places d) c.args.search.now (λ k. defined_changed c.args.change.alternative k d) d))
    (sym (ap shown_defined c.in-Flags.is ∙ ap (λ ls. flags_type (map string_bytes ls)) (sym c.deref-in-Flags.ensures.value))) c.change_flags.ensures.ty

pub returns-in-Flags-clause-moved : goal.returns-in-Flags-clause-moved
returns-in-Flags-clause-moved c =
    subst (λ d. IfOk c.change_flags.result (λ r. IsSome r → c.change_flags.new.search ≡ past (defined_places d) c.args.search.now))
    (sym (ap shown_defined c.in-Flags.is ∙ ap (λ ls. flags_type (map string_bytes ls)) (sym c.deref-in-Flags.ensures.value))) c.change_flags.ensures.moved

pub returns-in-Enum-clause-ty : goal.returns-in-Enum-clause-ty
returns-in-Enum-clause-ty c =
    subst (λ d. IfOk c.change_enum.result (λ r. option_map shown_defined r
    ≡ sought (defined_places d) c.args.search.now (λ k. defined_changed c.args.change.alternative k d) d))
    (sym (ap shown_defined c.in-Enum.is ∙ ap (λ ls. enum_type (map string_bytes ls)) (sym c.deref-in-Enum.ensures.value))) c.change_enum.ensures.ty

pub returns-in-Enum-clause-moved : goal.returns-in-Enum-clause-moved
returns-in-Enum-clause-moved c =
    subst (λ d. IfOk c.change_enum.result (λ r. IsSome r → c.change_enum.new.search ≡ past (defined_places d) c.args.search.now))
    (sym (ap shown_defined c.in-Enum.is ∙ ap (λ ls. enum_type (map string_bytes ls)) (sym c.deref-in-Enum.ensures.value))) c.change_enum.ensures.moved

pub returns-in-List-clause-moved : goal.returns-in-List-clause-moved
returns-in-List-clause-moved c =
    subst (λ t. IsSome c.change_list.result → c.change_list.new.search ≡ past (defined_places (shown_defined t)) c.args.search.now) (sym c.in-List.is)
    c.change_list.ensures.moved

pub returns-in-Option-clause-moved : goal.returns-in-Option-clause-moved
returns-in-Option-clause-moved c =
    subst (λ t. IsSome c.change_option.result → c.change_option.new.search ≡ past (defined_places (shown_defined t)) c.args.search.now) (sym c.in-Option.is)
    c.change_option.ensures.moved

pub returns-in-Result-clause-moved : goal.returns-in-Result-clause-moved
returns-in-Result-clause-moved c =
    subst (λ t. IsSome c.change_result.result → c.change_result.new.search ≡ past (defined_places (shown_defined t)) c.args.search.now) (sym c.in-Result.is)
    c.change_result.ensures.moved

pub returns-in-Result-clause-ty : goal.returns-in-Result-clause-ty
returns-in-Result-clause-ty c =
    subst (λ t. Found t c.change_result.result c.args.search.now c.args.change.alternative) (sym c.in-Result.is) c.change_result.ensures.ty

pub returns-in-Primitive-clause-moved : goal.returns-in-Primitive-clause-moved
returns-in-Primitive-clause-moved c = λ there.
    subst (λ t. c.value_or-ty.new.self ≡ past (defined_places (shown_defined t)) c.args.search.now) (sym c.in-Primitive.is) c.value_or-ty.ensures.moved
