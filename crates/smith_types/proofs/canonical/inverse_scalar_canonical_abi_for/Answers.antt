use Rattle.std.proofs.Common.{ℕ, List, map, refl, subst, sym, ◌<◌, ◌^◌, arith}
use Rattle.smith_format.proofs.Results.{ok_then}
use Rattle.smith_format.specs.Shown.{shown_func}
use Rattle.smith_syntax.specs.Entries.{Signature}
use Rattle.smith_types.specs.Lifting.{ReadsLiftedType}
use Rattle.smith_types.proofs.LiftingRead.{lifted_scripted}
use Rattle.smith_types.proofs.Lifting.{lifted_flattens, lifted_named}
use Rattle.smith_types.proofs.canonical.inverse_scalar_canonical_abi_for.Goals as goal

pub returns-clause-flattens : goal.returns-clause-flattens
returns-clause-flattens c = ok_then _ _ c.lifted_func_type.result (λ f reads. lifted_flattens reads) c.lifted_func_type.ensures.reads

pub returns-clause-named : goal.returns-clause-named
returns-clause-named c = ok_then _ _ c.lifted_func_type.result (λ f reads. lifted_named reads) c.lifted_func_type.ensures.reads

pub returns-clause-script : goal.returns-clause-script
returns-clause-script c config s rest is flat names readable begins =
    let short : config.max_name_length < 2 ^ 64 = omega (arith, is) in
    ok_then _ _ c.lifted_func_type.result
    (λ f reads. lifted_scripted config short (shown_func c.args.core.now) s f _ rest _ flat names readable begins
    (subst (λ n. ReadsLiftedType n (shown_func c.args.core.now) c.args.u.now f c.lifted_func_type.new.u) (sym is) reads))
    c.lifted_func_type.ensures.reads
