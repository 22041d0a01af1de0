use Rattle.std.proofs.Common.{ℕ, ◌-◌, ap, arith, refl, subst, sym, Some, ◌∙◌}
use Rattle.smith_input.specs.Reading.{Reads}
use Rattle.smith_syntax.specs.Entries.{FullDecl}
use Rattle.smith_types.specs.Declarations.{ReadsAlias}
use Rattle.smith_scopes.specs.Scopes.{inward_marked}
use Rattle.smith_syntax.proofs.Shown.{alias_of_type, alias_of_core_type}
use Rattle.smith_types.proofs.Declaring.{chosen_among, scope_chosen, type_alias_read, core_type_alias_read}
use Rattle.smith_types.proofs.make.declarations.read_alias_choice.Goals as goal

pub overflow_cast-count : goal.overflow_cast-count
overflow_cast-count c =
    let within = (chosen_among c.args.scopes.now c.requires.places c.choose.ensures).within in
    omega (arith, within, c.requires.few)

pub len-types-requires : goal.len-types-requires
len-types-requires c = (chosen_among c.args.scopes.now c.requires.places c.choose.ensures).within

pub len_core-requires : goal.len_core-requires
len_core-requires c = (chosen_among c.args.scopes.now c.requires.places c.choose.ensures).within

pub choose_index-place-requires : goal.choose_index-place-requires
choose_index-place-requires c =
    let s = (chosen_among c.args.scopes.now c.requires.places c.choose.ensures).some in
    omega (arith, s, c.len-types.ensures.count, c.len_core.ensures.count)

pub returns-then-place-types-clause-reads : goal.returns-then-place-types-clause-reads
returns-then-place-types-clause-reads c =
    let scopes = c.args.scopes.now in
    let r = scope_chosen scopes c.args.counts.now c.args.u.now c.choose.new.self c.choose.result.now c.requires.places c.choose.ensures in
    let a = chosen_among scopes c.requires.places c.choose.ensures in
    let R : ℕ → Type 0 = λ n. Reads n c.choose.new.self c.choose_index-place.result c.choose_index-place.new.self in
    let P : FullDecl → Type 0 = λ d. ReadsAlias (inward_marked scopes) c.args.u.now d c.choose_index-place.new.self in
    subst P (sym (alias_of_type _ c.in_ok-clone.field-0 refl)) (
    type_alias_read scopes c.args.u.now c.choose.new.self c.choose_index-place.new.self c.choose.result.now c.choose_index-place.result r a.within
    (subst R (omega (arith, c.len-types.ensures.count, c.len_core.ensures.count)) c.choose_index-place.ensures)
    c.in_ok-clone.field-0.value
    (c.get.ensures.value ∙ ap Some (sym c.in_ok-clone.ensures.cases))
    )

pub returns-clause-reads : goal.returns-clause-reads
returns-clause-reads c =
    let scopes = c.args.scopes.now in
    let r = scope_chosen scopes c.args.counts.now c.args.u.now c.choose.new.self c.choose.result.now c.requires.places c.choose.ensures in
    let a = chosen_among scopes c.requires.places c.choose.ensures in
    let R : ℕ → Type 0 = λ n. Reads n c.choose.new.self c.choose_index-place.result c.choose_index-place.new.self in
    let P : FullDecl → Type 0 = λ d. ReadsAlias (inward_marked scopes) c.args.u.now d c.choose_index-place.new.self in
    subst P (sym (alias_of_core_type _ c.in_ok-clone-2.field-0 refl)) (
    core_type_alias_read scopes c.args.u.now c.choose.new.self c.choose_index-place.new.self c.choose.result.now c.choose_index-place.result r
    a.within
    (subst R (omega (arith, c.len-types.ensures.count, c.len_core.ensures.count)) c.choose_index-place.ensures)
    (c.choose_index-place.result - c.len-types.result)
    c.in_ok-clone-2.field-0.value
    (omega (arith, c.len-types.ensures.count, c.if-place-types.false))
    (c.get_core.ensures.value ∙ ap Some (sym c.in_ok-clone-2.ensures.cases))
    )
