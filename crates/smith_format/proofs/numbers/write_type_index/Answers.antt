use Rattle.std.proofs.Common.{rules, ap, sym, ◌∙◌, subst}
use Rattle.std.proofs.lemmas.Int.{to_z-of_z}
use Rattle.std.specs.Int.{w64}
use Rattle.std.specs.Int.RustNames.{FitsSigned}
use Rattle.smith_format.specs.Piece.{Piece, s}
use Rattle.smith_format.specs.Writing.{Appends}
use Rattle.smith_format.proofs.Piece.{s_index_fits}
use Rattle.smith_format.proofs.Steps.{wants_some}
use Rattle.smith_format.proofs.numbers.write_type_index.Goals as goal

pub returns-clause-written : goal.returns-clause-written
returns-clause-written c =
    let f : FitsSigned w64 c.from.result = search rules in
    let e = ap s (to_z-of_z w64 c.from.result f ∙ c.from.ensures) ∙ sym (s_index_fits c.args.index c.ranges.index.fits) in
    subst (λ (p : Piece). Appends c.write_s64.result c.args.out.now c.write_s64.new.out p) e c.write_s64.ensures

pub returns-clause-full : goal.returns-clause-full
returns-clause-full c = wants_some c.write_s64.result (s_index_fits c.args.index c.ranges.index.fits)
