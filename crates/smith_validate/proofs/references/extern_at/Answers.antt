use Rattle.std.proofs.Common.{[], ◌∷◌}
use Rattle.smith_tree.specs.Facts.{id_at}
use Rattle.smith_validate.proofs.references.extern_at.Goals as goal

pub returns-in-Func-clause-found : goal.returns-in-Func-clause-found
returns-in-Func-clause-found c = λ own outer names table are. rw (c.in-Func.is) (c.equal_at.ensures.found own.types names table [] are)

pub returns-in-TypeEq-clause-found : goal.returns-in-TypeEq-clause-found
returns-in-TypeEq-clause-found c = λ own outer names table are.
    rw (c.in-TypeEq.is) (c.equal_at-in-TypeEq.ensures.found own.types names table (id_at (own ∷ outer) ∷ []) are)
