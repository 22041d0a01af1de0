use Rattle.std.proofs.Common.{ap, sym, ◌∙◌}
use Rattle.smith_input.specs.NewNames.{is_among}
use Rattle.smith_types.proofs.MakingCore.{taken_found, taken_passed, taken_past}
use Rattle.smith_types.proofs.core_types.module_names.is_taken.Goals as goal

pub loop-def-preserved : goal.loop-def-preserved
loop-def-preserved c =
    sym (taken_passed c.args.imported c.args.from.now c.args.defs.now c.loop-def.def-index c.def-item.result c.loop-def-test.true c.def-item.is c.args.name.now
    (sym c.is_taken_name.ensures ∙ c.if-is_taken_name.false)) ∙ c.loop-def.invariant

pub returns-then-is_taken_name : goal.returns-then-is_taken_name
returns-then-is_taken_name c =
    sym (taken_found c.args.imported c.args.from.now c.args.defs.now c.loop-def.def-index c.def-item.result c.loop-def-test.true c.def-item.is c.args.name.now
    (sym c.is_taken_name.ensures ∙ c.if-is_taken_name.true)) ∙ c.loop-def.invariant

pub returns : goal.returns
returns c = sym (ap (λ ns. is_among ns c.args.name.now) (taken_past c.args.imported c.args.from.now c.args.defs.now c.loop-def.def-index c.loop-def-test.false))
    ∙ c.loop-def.invariant
