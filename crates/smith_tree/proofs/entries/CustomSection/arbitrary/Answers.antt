use Rattle.std.proofs.Common.{List, ℕ, subst, string_bytes}
use Rattle.smith_input.proofs.Reading.{tail_trans}
use Rattle.smith_tree.specs.ReadsCustom.{ReadsCustom}
use Rattle.smith_tree.proofs.ReadsCustom.{custom_read, custom_same}
use Rattle.smith_tree.proofs.entries.CustomSection.arbitrary.Goals as goal

pub returns-clause-script : goal.returns-clause-script
returns-clause-script c name bytes rest utf8 short begins =
    let P : List ℕ → Type 0 = λ z. ReadsCustom z (string_bytes c.in_ok-name.name) c.in_ok-bytes.bytes.items c.arbitrary_bytes.new.u in
    custom_same (subst P begins (c.limited_string.new.u, c.in_ok-name.ensures.read, c.in_ok-bytes.ensures.read)) (custom_read name bytes rest utf8 short)

pub returns-in_err-name-clause-tail : goal.returns-in_err-name-clause-tail
returns-in_err-name-clause-tail c = c.limited_string.ensures.input.tail

pub returns-in_err-bytes-clause-tail : goal.returns-in_err-bytes-clause-tail
returns-in_err-bytes-clause-tail c = tail_trans c.arbitrary_bytes.ensures.input.tail c.limited_string.ensures.input.tail

pub returns-clause-tail : goal.returns-clause-tail
returns-clause-tail c = tail_trans c.arbitrary_bytes.ensures.input.tail c.limited_string.ensures.input.tail
