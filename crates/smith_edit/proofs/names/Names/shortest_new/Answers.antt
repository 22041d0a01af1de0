use Rattle.std.proofs.Common.{◌≡◌, ℕ, ◌-◌, ◌<◌, true, false, List, length, string_bytes, ap, sym, ◌∙◌, arith}
use Rattle.smith_input.specs.NewNames.{is_among}
use Rattle.smith_edit.specs.ShortNames.{short_name}
use Rattle.smith_edit.proofs.NewNames.{new_more, new_there}
use Rattle.smith_edit.proofs.names.Names.shortest_new.Goals as goal

pub loop-count-preserved : goal.loop-count-preserved
loop-count-preserved c = λ names known.
    let text : List ℕ = string_bytes c.in_ok-name.name in
    let is : is_among names text ≡ true = sym (known.has text) ∙ sym (rw c.as_str.ensures.value at c.if-not-contains.ensures) in
    let taken : is_among names (short_name c.loop-count.count) ≡ true = sym (ap (is_among names) c.in_ok-name.ensures) ∙ is in
    let more : c.loop-count.count < length names = omega (arith, c.loop-count-test.true, known.count) in
    sym (new_more (length names) c.loop-count.count names more taken) ∙ c.loop-count.invariant names known

pub returns-then-not-contains : goal.returns-then-not-contains
returns-then-not-contains c = λ names known.
    let text : List ℕ = string_bytes c.in_ok-name.name in
    let is : is_among names text ≡ false = sym (known.has text) ∙ sym (rw c.as_str.ensures.value at c.if-not-contains.ensures) in
    let new : is_among names (short_name c.loop-count.count) ≡ false = sym (ap (is_among names) c.in_ok-name.ensures) ∙ is in
    c.in_ok-name.ensures ∙ (sym (new_there (length names - c.loop-count.count) c.loop-count.count names new) ∙ c.loop-count.invariant names known)
