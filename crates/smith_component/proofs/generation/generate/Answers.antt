use Rattle.std.proofs.Common.{arith, ◌≡◌}
use Rattle.smith_input.specs.declared.error.Error.{Error}
use Rattle.smith_input.specs.declared.error.Error.TheVariants.{OutOfMemory}
use Rattle.smith_component.proofs.Finishing.{refused}
use Rattle.smith_component.proofs.Refusals.{refused_accepted}
use Rattle.smith_component.proofs.Plans.{plan_lacks_none, plan_refuses_no_module}
use Rattle.smith_component.proofs.generation.generate.Goals as goal

pub returns-clause-generated : goal.returns-clause-generated
returns-clause-generated c = grind arith

pub returns-clause-reach : goal.returns-clause-reach
returns-clause-reach c plan rest w e = grind arith

pub returns-in_err-component-clause-answers : goal.returns-in_err-component-clause-answers
returns-in_err-component-clause-answers c plan rest consistent w e =
    let P : Error → Type 0 = λ x. x ≡ OutOfMemory in
    let left = c.new.new.u in
    let lacks = plan_lacks_none c.args.config c.args.u.now plan rest consistent w e left in
    let no_module = plan_refuses_no_module c.args.config c.args.u.now plan rest consistent w e left in
    let why = c.in_err-component.ensures.input.refuses in
    refused _ _ P c.from_residual.ensures.1 (refused_accepted c.args.config left c.args.u.now consistent lacks no_module _ why)
