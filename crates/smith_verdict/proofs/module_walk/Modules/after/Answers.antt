use Rattle.std.proofs.Common.{◌+◌, arith, subst, sym}
use Rattle.std.specs.List.{AllByRecursion}
use Rattle.smith_read.specs.Walk.{items_at, shown_step}
use Rattle.smith_verdict.specs.ModuleWalk.{texts_in}
use Rattle.smith_verdict.specs.Modules.{SoundModule}
use Rattle.smith_verdict.proofs.ModuleWalk.{none_in, same_found}
use Rattle.smith_verdict.proofs.module_walk.Modules.after.Goals as goal

pub returns-in_ok-judgement-in-CoreModule : goal.returns-in_ok-judgement-in-CoreModule
returns-in_ok-judgement-in-CoreModule c = λ texts a.
    rw c.in-CoreModule.is (c.and.ensures c.in-CoreModule.text.now texts (c.in_ok-judgement-in-CoreModule.ensures {u = tt}).judged a)

pub returns-in_default : goal.returns-in_default
returns-in_default c = λ texts a.
    same_found c.args.item (c.args.item + items_at (shown_step c.args.step)) texts (texts_in (shown_step c.args.step)) c.args.self (omega arith)
    (subst (λ more. AllByRecursion SoundModule more) (sym (none_in c.args.step c.in_default.not-CoreModule)) tt) a
