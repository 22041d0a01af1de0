use Rattle.std.proofs.Common.{◌≡◌, ◌≤◌, ℕ, List, [], ◌∷◌, refl, subst, arith, length}
use Rattle.smith_input.specs.Choices.{ReadsAmong}
use Rattle.smith_input.specs.Reading.{Reads}
use Rattle.smith_tree.specs.TypeOffers.{primitives}
use Rattle.smith_types.specs.Made.{only_primitive, either_primitive, either_index}
use Rattle.smith_types.proofs.make.values.read_value_type.Goals as goal
use Rattle.smith_types.proofs.make.values.read_value_type.Goals.{else-usable-gt0-via-then-usable-gt0+else-choose_index-eq1, else-usable-gt0-via-else-usable-gt0}

none : (xs : List ℕ) → length xs ≤ 0 → xs ≡ []
none [] h = refl
none (x ∷ xs) h = absurd (omega arith)

pub returns-then-choose_index-eq1-clause-reads : goal.returns-then-choose_index-eq1-clause-reads
returns-then-choose_index-eq1-clause-reads c =
    let P : ℕ → Type 0 = λ k. Reads 2 c.args.u.now k c.choose_index.new.self in
    let Q : ℕ → Type 0 = λ n. Reads n c.choose_index.new.self c.choose_index-rank.result c.choose_index-rank.new.self in
    either_index
    (subst P c.if-choose_index-eq1.true c.choose_index.ensures)
    (record {
      place = c.choose_index-rank.result;
      reads = subst Q c.offered_len-usable.ensures.count c.choose_index-rank.ensures;
      named = c.offered_at.ensures;
    })

pub returns-clause-reads : goal.returns-clause-reads
returns-clause-reads c =
    let R : List ℕ → Type 0 = λ b. ReadsAmong primitives b c.read_primitive.result c.read_primitive.new.u in
    elim c.else-usable-gt0.branch [
      | else-usable-gt0-via-then-usable-gt0+else-choose_index-eq1 w ↦
          let P : ℕ → Type 0 = λ k. Reads 2 c.args.u.now k w.choose_index.new.self in
          let zero : w.choose_index.result ≡ 0 = omega (arith, w.choose_index.ensures.below) in
          either_primitive (omega (arith, c.offered_len-usable.ensures.count)) (subst P zero w.choose_index.ensures)
          (subst R w.u-is c.read_primitive.ensures.reads)
      | else-usable-gt0-via-else-usable-gt0 w ↦
          only_primitive (none _ (omega (arith, c.offered_len-usable.ensures.count))) (subst R w.u-is c.read_primitive.ensures.reads)
    ]
