use Rattle.std.proofs.Common.{◌≡◌, drop, map}
use Rattle.smith_change.specs.Rows.{row_places}
use Rattle.smith_read.specs.Search.{past}
use Rattle.smith_change.proofs.KindFound.{is_among}
use Rattle.smith_change.proofs.kinds.kind_in_row.Given as goal

abbrev pub invariant-loop-entry : goal.invariant-loop-entry
invariant-loop-entry g l = record {
  found : is_among (row_places g.T.Places.places (map g.T.Places.shown (drop l.entry-index l.entries))) l.search
      ≡ is_among (row_places g.T.Places.places (map g.T.Places.shown l.entries)) l.initial.search;
  moved : past (row_places g.T.Places.places (map g.T.Places.shown (drop l.entry-index l.entries))) l.search
      ≡ past (row_places g.T.Places.places (map g.T.Places.shown l.entries)) l.initial.search;
}
