use Rattle.std.proofs.Common.{rules, ◌≡◌, subst}
use Rattle.smith_verdict.proofs.Answered.{sound_law}
use Rattle.smith_verdict.specs.Answers.{IsAnswer}
use Rattle.smith_verdict.specs.declared.answers.Answer.{Answer}
use Rattle.smith_verdict.specs.declared.answers.Answer.TheVariants as answer
use Rattle.smith_c.proofs.Validates.{beyond_at, broken_at}
use Rattle.smith_c.proofs.validate.lupinanon_proved_validate.Goals as goal
use Rattle.smith_c.proofs.validate.lupinanon_proved_validate.Goals.{in-Ok-Valid, in-Ok-Invalid, in-Ok-Bound, in-Ok-Outside, in-Err}

pub returns-clause-valid : goal.returns-clause-valid
returns-clause-valid c is = elim c.match-answer.branch [
  | in-Ok-Valid w ↦ (subst (IsAnswer c.args.bytes.now) w.in-Ok-Valid.field-0-is w.in-Ok-Valid.ensures, search rules, search rules)
  | in-Ok-Invalid w ↦ search rules
  | in-Ok-Bound w ↦ search rules
  | in-Ok-Outside w ↦ search rules
  | in-Err w ↦ search rules
]

pub returns-clause-invalid : goal.returns-clause-invalid
returns-clause-invalid c is = elim c.match-answer.branch [
  | in-Ok-Valid w ↦ search rules
  | in-Ok-Invalid w ↦
      let found = subst (IsAnswer c.args.bytes.now) w.in-Ok-Invalid.field-0-is w.in-Ok-Invalid.ensures in
      (w.in-Ok-Invalid.rule, search rules, broken_at c.args.bytes.now w.in-Ok-Invalid.rule w.in-Ok-Invalid.offset c.unwrap_or.result (search rules) found)
  | in-Ok-Bound w ↦ search rules
  | in-Ok-Outside w ↦ search rules
  | in-Err w ↦ search rules
]

pub returns-clause-bound : goal.returns-clause-bound
returns-clause-bound c is = elim c.match-answer.branch [
  | in-Ok-Valid w ↦ search rules
  | in-Ok-Invalid w ↦ search rules
  | in-Ok-Bound w ↦
      let found = subst (IsAnswer c.args.bytes.now) w.in-Ok-Bound.field-0-is w.in-Ok-Bound.ensures in
      ((w.in-Ok-Bound.demand, search rules), beyond_at c.args.bytes.now w.in-Ok-Bound.demand w.in-Ok-Bound.offset c.unwrap_or.result (search rules) found)
  | in-Ok-Outside w ↦ search rules
  | in-Err w ↦ search rules
]

pub returns-clause-answers : goal.returns-clause-answers
returns-clause-answers c t spelled shallow sound =
    let bytes = c.args.bytes.now in
    let is_valid : (found : Answer) → IsAnswer bytes found → found ≡ answer.Valid = λ found. sound_law t bytes found spelled shallow sound in
    elim c.match-answer.branch [
      | in-Ok-Valid w ↦ search rules
      | in-Ok-Invalid w ↦
          let valid = is_valid w.in-Ok-Invalid.field-0 w.in-Ok-Invalid.ensures in search rules
      | in-Ok-Bound w ↦ let valid = is_valid w.in-Ok-Bound.field-0 w.in-Ok-Bound.ensures in search rules
      | in-Ok-Outside w ↦ let valid = is_valid w.in-Ok-Outside.field-0 w.in-Ok-Outside.ensures in search rules
      | in-Err w ↦ search rules
    ]
