use Rattle.std.proofs.Common.{arith, sym, subst, ◌∙◌}
use Rattle.std.proofs.lemmas.Result.{IfOk-weaker}
use Rattle.smith_format.specs.CoreTypes.{Function}
use Rattle.smith_format.specs.Shown.{shown_func}
use Rattle.smith_syntax.specs.Flat.{Flattens}
use Rattle.smith_types.specs.Lifting.{ReadsLiftedType}
use Rattle.smith_scopes.specs.Scopes.{own_scope}
use Rattle.smith_types.proofs.Lifting.{flattens_liftable}
use Rattle.smith_component.specs.CanonicalsState.{ReadsLiftedTypeOf}
use Rattle.smith_component.proofs.CanonicalsState.{lifts_as, lowered_other, lowered_scalar, lowered_within}
use Rattle.smith_component.proofs.builder.canonicals.CanonicalDraft.lifted_type.Goals as goal

pub get-requires-clause-entry : goal.get-requires-clause-entry
get-requires-clause-entry c = grind (arith, lowered_within)

pub unreachable-requires : goal.unreachable-requires
unreachable-requires c =
    let d = c.args.self.now in
    lowered_other d.scopes.now d.component.now.tables c.args.core_func_index c.index-func_index.result.now c.index-ty.result.now
    c.requires.known c.index-func_index.ensures c.index-ty.ensures c.get.result.now.value c.get.ensures.value c.deref.result.now c.deref.ensures c.in-Defined.is

pub canonical_abi_for-requires : goal.canonical_abi_for-requires
canonical_abi_for-requires c = grind (arith, lowered_scalar)

pub lifted_func_type-requires : goal.lifted_func_type-requires
lifted_func_type-requires c = record {
  liftable =
      flattens_liftable (subst (λ f. Flattens c.deref-2.result.now (shown_func f)) (sym c.deref-3.ensures) c.in_ok-core.ensures.flattens);
}

pub returns-clause-reads : goal.returns-clause-reads
returns-clause-reads c =
    let core : Function = shown_func c.deref-3.result.now in
    let flat : Flattens c.deref-2.result.now core = subst (λ f. Flattens c.deref-2.result.now (shown_func f)) (sym c.deref-3.ensures)
    c.in_ok-core.ensures.flattens in
    let d = c.args.self.now in
    let own = own_scope d.scopes.now in
    let low = c.lifted_func_type.new.u in
    IfOk-weaker c.lifted_func_type.result
    (λ f. ReadsLiftedType d.config.now.max_name_length core c.args.u.now f low)
    (λ f. ReadsLiftedTypeOf d.config.now own d.component.now.tables c.args.core_func_index c.args.u.now f low)
    (λ f reads. lifts_as d.scopes.now d.component.now.tables c.args.core_func_index c.index-func_index.result.now c.index-ty.result.now c.requires.known
    c.index-func_index.ensures c.index-ty.ensures c.get.result.now.value c.get.ensures.value c.in-Func.func
    (sym c.deref.ensures ∙ c.in-Func.is) d.config.now core
    c.deref-2.result.now f c.args.u.now low c.deref-2.ensures flat reads)
    c.lifted_func_type.ensures.reads
