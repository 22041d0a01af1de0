use Rattle.std.proofs.Common.{ℕ, sym, subst, ◌∙◌, arith}
use Rattle.std.proofs.lemmas.List.{length-map}
use Rattle.smith_format.specs.Shown.{shown_func}
use Rattle.smith_input.specs.Reading.{Reads}
use Rattle.smith_types.specs.MakingCore.{shown_funcs}
use Rattle.smith_types.proofs.MakingCore.{length-indexes, own_at}
use Rattle.smith_types.proofs.core_types.entities.read_own_type.Goals as goal

pub returns-clause-reads : goal.returns-clause-reads
returns-clause-reads c =
    let own = shown_funcs c.args.own.now in
    let same = length-map c.args.own.now (λ t. shown_func t.value) in
    let R : ℕ → Type 0 = λ n. Reads n c.args.u.now c.choose_index.result c.choose_index.new.self in
    record {
      place = c.choose_index.result;
      reads = subst R (sym (length-indexes 0 own ∙ same)) c.choose_index.ensures;
      named = own_at own c.choose_index.result (omega (arith, same, c.choose_index.ensures.below));
    }
