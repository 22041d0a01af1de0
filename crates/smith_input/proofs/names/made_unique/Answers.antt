use Rattle.std.proofs.Common.{◌≡◌, suc, length, refl, sym, ap, ◌∙◌, arith, string_bytes, decimal, length-append, true, ◌++◌, ⊎_elim}
use Rattle.std.proofs.lemmas.Bool.{cases_lt}
use Rattle.smith_input.specs.NewNames.{appended, is_among}
use Rattle.smith_input.proofs.Digits.{are_digits, digits_in_word}
use Rattle.smith_input.proofs.Kebab.{kebab_more}
use Rattle.smith_input.proofs.NameSets.{longest_has}
use Rattle.smith_input.proofs.names.made_unique.Goals as goal

pub loop-alloc-smaller : goal.loop-alloc-smaller
loop-alloc-smaller g c =
    let texts = g.N.TakenNames.texts c.args.names.now in
    let digits : string_bytes c.in_ok-digits.digits ≡ decimal c.name_count.result = c.in_ok-digits.ensures.ok in
    let fits = c.in_ok-digits.ensures.digits c.name_count.result refl (omega arith) in
    let had = longest_has c.as_str.result.now texts (sym c.has_name.ensures ∙ c.loop-alloc-test.true) in
    let longer = c.in_ok-push_str.ensures.bytes in
    omega (
      arith,
      had,
      ap length c.as_str.ensures.value,
      ap length longer,
      ap length digits,
      fits.nonempty,
      ap length c.as_str-in-loop-alloc.ensures.value,
      length-append (string_bytes c.loop-alloc.unique) c.as_str-in-loop-alloc.result.now,
    )

pub loop-alloc-preserved : goal.loop-alloc-preserved
loop-alloc-preserved g c =
    let texts = g.N.TakenNames.texts c.args.names.now in
    let all = decimal (length texts) in
    let digits : c.as_str-in-loop-alloc.result.now ≡ all = c.as_str-in-loop-alloc.ensures.value
    ∙ (c.in_ok-digits.ensures.ok ∙ ap decimal c.name_count.ensures) in
    let longer : string_bytes c.push_str.new.self ≡ string_bytes c.loop-alloc.unique ++ all = c.in_ok-push_str.ensures.bytes
    ∙ ap (λ ds. string_bytes c.loop-alloc.unique ++ ds) digits in
    let had : is_among texts (string_bytes c.loop-alloc.unique) ≡ true = ap (is_among texts) (sym c.as_str.ensures.value)
    ∙ (sym c.has_name.ensures ∙ c.loop-alloc-test.true) in
    record {
      times = suc c.loop-alloc.invariant.times;
      name_is = longer ∙ ap (λ bs. bs ++ all) c.loop-alloc.invariant.name_is;
      taken = λ n lt.
          ⊎_elim
          (λ below. c.loop-alloc.invariant.taken n below)
          (λ at. let here : n ≡ c.loop-alloc.invariant.times = omega arith in
          ap (λ k. is_among texts (appended (string_bytes c.args.name) all k)) here
          ∙ (ap (is_among texts) (sym c.loop-alloc.invariant.name_is) ∙ had))
          (cases_lt n c.loop-alloc.invariant.times);
      kebab = λ k. rw longer (kebab_more all (digits_in_word all (are_digits (length texts))) (c.loop-alloc.invariant.kebab k));
    }
