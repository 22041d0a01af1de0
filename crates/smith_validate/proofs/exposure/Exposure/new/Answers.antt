use Rattle.std.proofs.Common.{[], subst}
use Rattle.smith_validate.specs.Deferring.{IsListed}
use Rattle.smith_validate.specs.declared.exposure.Exposure.{Exposure}
use Rattle.smith_validate.proofs.Deferring.{whole_exposure}
use Rattle.smith_validate.proofs.exposure.Exposure.new.Goals as goal

pub returns-clause-settled : goal.returns-clause-settled
returns-clause-settled c = λ table named. record {
  settled = c.new.ensures.settled table named;
  later = λ n h. absurd (subst (λ xs. IsListed xs n) c.new-2.ensures.items h);
}

pub returns-clause-exposed : goal.returns-clause-exposed
returns-clause-exposed c = λ table.
    let e : Exposure = record { exposed = c.new.result; later = c.new-2.result } in
    whole_exposure table e [] c.new-2.ensures.items (c.new.ensures.exposed table)
