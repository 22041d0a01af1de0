-- What proves the steps of writers and of length calls.
use Rattle.smith_format.proofs.Piece.{s_index_fits}
use Rattle.smith_format.proofs.Sizes.{measuring}
use Rattle.smith_format.proofs.Steps.{writing}

-- the steps of writers and of length calls
pub ruleset encoding = (writing, measuring, s_index_fits)
