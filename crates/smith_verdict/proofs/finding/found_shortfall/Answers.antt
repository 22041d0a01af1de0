use Rattle.std.proofs.Common.{◌≡◌, sym, ◌∙◌}
use Rattle.smith_validate.specs.declared.error.Demand.{Demand}
use Rattle.smith_validate.specs.declared.error.Demand.TheVariants as demand
use Rattle.smith_verdict.specs.declared.answers.Bound.TheVariants as bound
use Rattle.smith_verdict.proofs.Answering.{beyond}
use Rattle.smith_verdict.proofs.finding.found_shortfall.Goals as goal

other : (d e : Demand) → d ≡ e → ¬ (e ≡ demand.Named) → ¬ (d ≡ demand.Named)
other d e is apart named = apart (sym is ∙ named)

not_size : ¬ (demand.Size ≡ demand.Named)
not_size e = absurd cc

not_count : ¬ (demand.Count ≡ demand.Named)
not_count e = absurd cc

not_memories : ¬ (demand.Memories ≡ demand.Named)
not_memories e = absurd cc

not_tables : ¬ (demand.Tables ≡ demand.Named)
not_tables e = absurd cc

pub returns-in-Size : goal.returns-in-Size
returns-in-Size c = λ t formed short.
    beyond t bound.Size c.args.shortfall.demand c.args.shortfall.item (other c.args.shortfall.demand demand.Size c.in-Size.is not_size) formed short

pub returns-in-Count : goal.returns-in-Count
returns-in-Count c = λ t formed short.
    beyond t bound.Count c.args.shortfall.demand c.args.shortfall.item (other c.args.shortfall.demand demand.Count c.in-Count.is not_count) formed short

pub returns-in-Memories : goal.returns-in-Memories
returns-in-Memories c = λ t formed short.
    beyond t bound.Memories c.args.shortfall.demand c.args.shortfall.item
    (other c.args.shortfall.demand demand.Memories c.in-Memories.is not_memories) formed short

pub returns-in-Tables : goal.returns-in-Tables
returns-in-Tables c = λ t formed short.
    beyond t bound.Tables c.args.shortfall.demand c.args.shortfall.item (other c.args.shortfall.demand demand.Tables c.in-Tables.is not_tables) formed short
