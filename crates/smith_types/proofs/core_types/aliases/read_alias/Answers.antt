use Rattle.std.proofs.Common.{◌≡◌, ℕ, ◌+◌, ◌-◌, length, ap, sym, ◌∙◌, refl, subst, arith, slice_get, Some}
use Rattle.std.specs.Prelude.{option_map}
use Rattle.std.proofs.lemmas.List.{length-map}
use Rattle.std.proofs.lemmas.Option.{slice_get-map, slice_get_read}
use Rattle.smith_format.specs.Shown.{shown_func}
use Rattle.smith_input.specs.Reading.{Reads}
use Rattle.smith_types.specs.MakingCore.{shown_funcs}
use Rattle.smith_syntax.specs.Places.{own_of}
use Rattle.smith_scopes.specs.Scopes.{inward}
use Rattle.smith_types.proofs.MakingCore.{choices_count, choice_around, choice_own}
use Rattle.smith_types.proofs.core_types.aliases.read_alias.Goals as goal

pub returns-then-place-around-clause-reads : goal.returns-then-place-around-clause-reads
returns-then-place-around-clause-reads c =
    let around = own_of (inward c.args.scopes.now) in
    let own = c.args.own.now in
    let same = length-map own (λ t. shown_func t.value) in
    let R : ℕ → Type 0 = λ n. Reads n c.args.u.now c.choose_index-place.result c.choose_index-place.new.self in
    record {
      place = c.choose_index-place.result;
      reads = subst R (omega (arith, c.kind_len-around.ensures.count, same, choices_count around (shown_funcs own))) c.choose_index-place.ensures;
      named = choice_around around (shown_funcs own) c.choose_index-place.result c.in_ok-i.i c.in_ok-i.ensures.place;
    }

pub returns-clause-reads : goal.returns-clause-reads
returns-clause-reads c =
    let around = own_of (inward c.args.scopes.now) in
    let own = c.args.own.now in
    let same = length-map own (λ t. shown_func t.value) in
    let R : ℕ → Type 0 = λ n. Reads n c.args.u.now c.choose_index-place.result c.choose_index-place.new.self in
    let past : c.kind_len-around.result + (c.choose_index-place.result - c.kind_len-around.result) ≡ c.choose_index-place.result =
    omega (arith, c.if-place-around.false) in
    record {
      place = c.choose_index-place.result;
      reads = subst R (omega (arith, c.kind_len-around.ensures.count, same, choices_count around (shown_funcs own))) c.choose_index-place.ensures;
      named = choice_own around (shown_funcs own) c.choose_index-place.result (c.choose_index-place.result - c.kind_len-around.result)
          (omega (arith, past, c.kind_len-around.ensures.count)) (omega (arith, past, same, c.choose_index-place.ensures.below));
    }

pub returns-clause-named : goal.returns-clause-named
returns-clause-named c =
    let own = c.args.own.now in
    let j = c.choose_index-place.result - c.kind_len-around.result in
    let past : c.kind_len-around.result + j ≡ c.choose_index-place.result = omega (arith, c.if-place-around.false) in
    let at : slice_get own j ≡ Some c.index-own-i.result = slice_get_read own (length own) j c.index-own-i.result refl
    (omega (arith, past, c.choose_index-place.ensures.below)) c.index-own-i.is in
    slice_get-map (λ t. shown_func t.value) own j ∙ (ap (option_map (λ t. shown_func t.value)) at
    ∙ ap (λ t. Some (shown_func t)) (sym c.in_ok-clone.ensures.cases))
