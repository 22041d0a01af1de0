use Rattle.std.proofs.Common.{◌∙◌}
use Rattle.smith_script_types.proofs.Ranks.{rank_found}
use Rattle.smith_script_types.proofs.positions.rank_of.Goals as goal

pub returns : goal.returns
returns c = c.unwrap_or.ensures ∙ rank_found c.args.positions.now c.args.position c.binary_search.result c.requires c.binary_search.ensures.position
