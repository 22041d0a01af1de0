use Rattle.smith_verdict.specs.declared.answers.Bound.TheVariants as bound
use Rattle.smith_verdict.specs.declared.answers.Outside.TheVariants as outside
use Rattle.smith_verdict.proofs.Answering.{module_bounded, module_broken, module_outside}
use Rattle.smith_verdict.proofs.finding.found_within.Goals as goal

pub returns-in-Reference : goal.returns-in-Reference
returns-in-Reference c = λ t formed valid contents modules.
    let found = rw c.in-Reference.is at contents in
    (λ sound. found.0 sound.plain, found.1)

pub returns-in-TooMuch : goal.returns-in-TooMuch
returns-in-TooMuch c = λ t formed valid contents modules.
    let found = rw c.in-TooMuch.is at contents in
    (formed, λ bounded. found.0 bounded.contents, found.1)

pub returns-in-Sound : goal.returns-in-Sound
returns-in-Sound c = λ t formed valid contents modules.
    let found = rw c.in-Plain.is at contents in
    record { formed = formed; valid = valid; plain = found.0; bounded = found.1; modules = rw c.in-Sound.is at modules }

pub returns-in-Broken : goal.returns-in-Broken
returns-in-Broken c = λ t formed valid contents modules. module_broken t c.in-Broken.item (rw c.in-Broken.is at modules)

pub returns-in-Bounded : goal.returns-in-Bounded
returns-in-Bounded c = λ t formed valid contents modules. module_bounded t bound.Module c.in-Bounded.item formed (rw c.in-Bounded.is at modules)

pub returns-in-Other : goal.returns-in-Other
returns-in-Other c = λ t formed valid contents modules. module_outside t outside.Module c.in-Other.item (rw c.in-Other.is at modules)
