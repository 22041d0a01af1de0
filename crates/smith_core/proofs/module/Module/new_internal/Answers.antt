use Rattle.std.proofs.Common.{refl, rules}
use Rattle.smith_input.proofs.Loops.{loop_map}
use Rattle.smith_core.specs.Kept.{final_type}
use Rattle.smith_core.proofs.Kept.{stand_in_agrees, stand_in_listed}
use Rattle.smith_core.proofs.StandIn.{reads_sub_type}
use Rattle.smith_core.proofs.module.Module.new_internal.Goals as goal

pub of-requires : goal.of-requires
of-requires c = stand_in_agrees _

pub returns-clause-reads : goal.returns-clause-reads
returns-clause-reads c = rw c.of.ensures (record {
  mid = _;
  ordered = search rules;
  types = loop_map final_type (reads_sub_type c.args.config) _ _ _ _ _ _ (rw c.min.ensures at ((c.in_ok-types.ensures {u = tt}).reads));
  memories = (c.in_ok-memories.ensures {u = tt}).reads;
  bulk_memory = refl;
  parts = stand_in_listed _;
})
