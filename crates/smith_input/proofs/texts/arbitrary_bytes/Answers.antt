use Rattle.std.proofs.Common.{◌≡◌, [], ◌∷◌, ◌++◌, true, subst, append_assoc, append-nil, rules}
use Rattle.std.proofs.lemmas.Grind.{common_steps}
use Rattle.smith_input.specs.Reading.{Flips}
use Rattle.smith_input.specs.Texts.{ReadsByte, ends, follows}
use Rattle.smith_input.proofs.Reading.{tail_trans}
use Rattle.smith_input.proofs.texts.arbitrary_bytes.Goals as goal

pub loop-bytes-preserved : goal.loop-bytes-preserved
loop-bytes-preserved c =
    let flipped : Flips c.loop-bytes.u true c.arbitrary_bool.new.self =
    subst (λ b. Flips c.loop-bytes.u b c.arbitrary_bool.new.self) c.loop-bytes-test.true c.arbitrary_bool.ensures in
    let byte : ReadsByte c.arbitrary_bool.new.self c.arbitrary_u8.result c.arbitrary_u8.new.self =
    record { value_is = c.arbitrary_u8.ensures.value; left = c.arbitrary_u8.ensures.left } in
    let pushed : c.push.new.self.items ≡ c.loop-bytes.bytes.items ++ c.arbitrary_u8.result ∷ [] = search (rules, common_steps) in
    record {
      more = λ values rest r. rw (pushed, append_assoc) (c.loop-bytes.invariant.more (c.arbitrary_u8.result ∷ values) rest (follows flipped byte r));
      tail = tail_trans (1, byte.left) (tail_trans (1, flipped.left) c.loop-bytes.invariant.tail);
    }

pub returns-clause-read : goal.returns-clause-read
returns-clause-read c =
    rw (← append-nil c.loop-bytes.bytes.items)
    (c.loop-bytes.invariant.more [] c.arbitrary_bool.new.self
    (ends (subst (λ b. Flips c.loop-bytes.u b c.arbitrary_bool.new.self) c.loop-bytes-test.false c.arbitrary_bool.ensures)))
