use Rattle.std.proofs.Common.{◌≡◌, ◌∙◌, Decides, subst, sym}
use Rattle.std.proofs.lemmas.Slice.Eq.{bytes_eq-Decides}
use Rattle.smith_script.proofs.StandIns.{made_says, none_says, unsaid_says}
use Rattle.smith_script.proofs.stand_ins.is_stand_in.Goals as goal

pub returns-in_default : goal.returns-in_default
returns-in_default c = unsaid_says c.args.config.now c.args.text.now (rw c.in_default.is at c.in_ok-script.ensures)

pub returns-in-Some-2 : goal.returns-in-Some-2
returns-in-Some-2 c =
    made_says c.args.config.now c.args.text.now c.deref.result.now c.in-Some-2.bytes c.eq.result
    (c.deref.ensures.value ∙ (rw c.in-Some.is at c.in_ok-script.ensures)) (rw c.in-Some-2.is at c.in_ok-bytes.ensures)
    (subst (λ z. Decides c.eq.result (z ≡ c.args.text.now)) c.as_slice.ensures.value
    (subst (λ r. Decides r (c.as_slice.result.now ≡ c.args.text.now)) (sym c.eq.ensures) (bytes_eq-Decides c.as_slice.result.now c.args.text.now)))

pub returns : goal.returns
returns c =
    none_says c.args.config.now c.args.text.now c.deref.result.now (c.deref.ensures.value ∙ (rw c.in-Some.is at c.in_ok-script.ensures))
    (rw c.in-None.is at c.in_ok-bytes.ensures)
