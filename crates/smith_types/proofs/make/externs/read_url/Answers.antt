use Rattle.std.proofs.Common.{Bool, subst, rules}
use Rattle.smith_input.specs.Reading.{Flips}
use Rattle.smith_input.proofs.Reading.{tail_trans}
use Rattle.smith_types.specs.Declarations.{no_url}
use Rattle.smith_types.proofs.Externs.{url_read}
use Rattle.smith_types.proofs.make.externs.read_url.Goals as goal

pub returns-then-not-arbitrary_bool-clause-reads : goal.returns-then-not-arbitrary_bool-clause-reads
returns-then-not-arbitrary_bool-clause-reads c used h =
    let F : Bool → Type 0 = λ b. Flips c.args.u.now b c.arbitrary_bool.new.self in
    no_url (subst F c.if-not-arbitrary_bool.true c.arbitrary_bool.ensures)

pub returns-clause-reads : goal.returns-clause-reads
returns-clause-reads c used h =
    let F : Bool → Type 0 = λ b. Flips c.args.u.now b c.arbitrary_bool.new.self in
    url_read h (subst F c.if-not-arbitrary_bool.false c.arbitrary_bool.ensures) c.in_ok-url.ensures.read

pub returns-in_err-url-clause-input : goal.returns-in_err-url-clause-input
returns-in_err-url-clause-input c = record {
  tail = tail_trans c.unique_url.ensures.input.tail (1, c.arbitrary_bool.ensures.left);
  memory = search rules;
}

pub returns-clause-input : goal.returns-clause-input
returns-clause-input c = record { tail = tail_trans c.unique_url.ensures.input.tail (1, c.arbitrary_bool.ensures.left); memory = tt }
