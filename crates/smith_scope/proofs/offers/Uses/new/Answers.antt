use Rattle.std.proofs.Common.{◌∙◌}
use Rattle.smith_scope.specs.Kept.{AreUses}
use Rattle.smith_scope.proofs.ByKind.{each_component, each_defined, each_function, each_instance}
use Rattle.smith_scope.proofs.offers.Uses.new.Goals as goal

pub returns-in-Defined : goal.returns-in-Defined
returns-in-Defined c = λ e is. each_defined (λ e. AreUses c.defined.result e c.args.mark) c.defined.ensures e (is ∙ c.in-Defined.is)

pub returns-in-Func : goal.returns-in-Func
returns-in-Func c = λ e is. each_function (λ e. AreUses c.function.result e c.args.mark) c.function.ensures e (is ∙ c.in-Func.is)

pub returns-in-Component : goal.returns-in-Component
returns-in-Component c = λ e is. each_component (λ e. AreUses c.component.result e c.args.mark) c.component.ensures e (is ∙ c.in-Component.is)

pub returns-in-Instance : goal.returns-in-Instance
returns-in-Instance c = λ e is. each_instance (λ e. AreUses c.instance.result e c.args.mark) c.instance.ensures e (is ∙ c.in-Instance.is)
