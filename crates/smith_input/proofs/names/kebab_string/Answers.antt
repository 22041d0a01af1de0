use Rattle.std.proofs.Common.{◌≡◌, if◌then◌else◌, Bool, [], ◌∷◌, ◌++◌, ◌%◌, sym, ap, ◌∙◌, subst, arith, append-nil, rules}
use Rattle.std.proofs.lemmas.Grind.{common_steps}
use Rattle.std.proofs.lemmas.Str.{IsUtf8-from_ascii}
use Rattle.std.specs.Str.{IsAscii}
use Rattle.smith_input.specs.Names.{ReadsEach, none, next}
use Rattle.smith_input.proofs.Reading.{tail_trans, reads_tail}
use Rattle.smith_input.proofs.Widths.{one_byte_chosen}
use Rattle.smith_input.proofs.Kebab.{spelt_pushed, kebab_counted, character_small, ascii_pushed}
use Rattle.smith_input.proofs.names.kebab_string.Goals as goal
use Rattle.smith_input.proofs.names.kebab_string.Goals.{then-begins+in_ok-push, else-begins}

pub loop-place-preserved : goal.loop-place-preserved
loop-place-preserved c =
    let added : c.push_reserved.new.self.items ≡ c.loop-place.name.items ++ c.kebab_character-character.result ∷ [] = c.push_reserved.ensures.items in
    let chosen = one_byte_chosen 37 c.arbitrary_u8.result (omega arith) (omega arith) c.arbitrary_u8.ensures.value c.arbitrary_u8.ensures.left in
    record {
      more = λ ks rest r. let known = c.loop-place.invariant.more (c.arbitrary_u8.result % 37 ∷ ks) rest (next chosen r) in (
        known.0,
        omega (arith, known.1),
        known.2,
        known.3 ∙ spelt_pushed c.loop-place.name.items c.push_reserved.new.self.items ks _ c.kebab_character-character.result
            c.kebab_character-character.ensures added,
      );
      tail = tail_trans (reads_tail chosen) c.loop-place.invariant.tail;
      ascii = let small = character_small c.loop-place.begins (c.arbitrary_u8.result % 37) chosen.below in
          ascii_pushed _ _ c.kebab_character-character.result (omega (arith, small, c.kebab_character-character.ensures)) c.loop-place.invariant.ascii added;
      placed = omega (arith, c.push_reserved.ensures.len, c.loop-place.invariant.placed);
      room = omega (arith, c.push_reserved.ensures.capacity, c.loop-place.invariant.room);
    }

pub from_utf8_unchecked-requires : goal.from_utf8_unchecked-requires
from_utf8_unchecked-requires c =
    IsUtf8-from_ascii
    c.if-begins.name.items
    (elim c.if-begins.branch [
      | then-begins+in_ok-push w ↦
          let added : w.push.new.self.items ≡ c.loop-place.name.items ++ 97 ∷ [] = search (rules, common_steps) in
          ascii_pushed c.loop-place.name.items c.if-begins.name.items 97 (omega arith) c.loop-place.invariant.ascii (ap (λ v. v.items) w.name-is ∙ added)
      | else-begins w ↦ subst (λ v. IsAscii v.items) (sym w.name-is) c.loop-place.invariant.ascii
    ])

pub returns-clause-read : goal.returns-clause-read
returns-clause-read c =
    let known = c.loop-place.invariant.more [] c.loop-place.reader none in
    let all : c.loop-place._place ≡ c.int_in_range-count.result = omega arith in
    let at_end = λ (b : Bool). c.loop-place.name.items ++ (if b then 97 ∷ [] else []) in
    kebab_counted
    c.int_in_range-count.ensures.1
    c.int_in_range-count.ensures.2
    known.1
    all
    (subst (λ bytes. ReadsEach 37 bytes known.0 c.loop-place.reader) (c.new-reader.ensures ∙ c.left.ensures) known.2)
    (ap (λ v. v.items) c.from_utf8_unchecked.ensures.value ∙ (elim c.if-begins.branch [
      | then-begins+in_ok-push w ↦
          let added : w.push.new.self.items ≡ c.loop-place.name.items ++ 97 ∷ [] = search (rules, common_steps) in
          ap (λ v. v.items) w.name-is ∙ (added ∙ sym (known.3 ∙ ap at_end w.if-begins.true))
      | else-begins w ↦
          ap (λ v. v.items) w.name-is ∙ sym (known.3 ∙ (ap at_end w.if-begins.false ∙ append-nil c.loop-place.name.items))
    ]))
