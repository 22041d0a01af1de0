use Rattle.std.proofs.Common.{subst, sym}
use Rattle.smith_input.proofs.Choices.{among}
use Rattle.smith_format.specs.CoreReading.{ReadsElement, only_functions, either}
use Rattle.smith_format.specs.declared.types.RefType.TheVariants.{FuncRef}
use Rattle.smith_format.proofs.make.make_element_type.Goals as goal

pub returns-then-references-clause-reads : goal.returns-then-references-clause-reads
returns-then-references-clause-reads c =
    subst (λ r. ReadsElement r c.args.u.now c.choose.result.now c.choose.new.self) (sym c.if-references.true) (either (among c.choose.ensures))

pub returns-else-references-clause-reads : goal.returns-else-references-clause-reads
returns-else-references-clause-reads c = subst (λ r. ReadsElement r c.args.u.now FuncRef c.args.u.now) (sym c.if-references.false) only_functions
