use Rattle.std.proofs.Common.{◌≡◌, drop, map}
use Rattle.smith_change.specs.Rows.{row_places}
use Rattle.smith_read.specs.Search.{past}
use Rattle.smith_change.proofs.InRow.{after_these, seek}
use Rattle.smith_change.proofs.RowsOf.{list_row}
use Rattle.smith_change.proofs.rows.change_row.Given as goal

abbrev pub invariant-loop-index : goal.invariant-loop-index
invariant-loop-index g l =
    let row = list_row g.T.Entry.shown g.T.Entry.places g.T.Entry.changes g.T.Entry.again l.change.alternative in
    let all = map g.T.Entry.shown l.entries in
    record {
      entries : after_these row (map g.T.Entry.shown l.done.items) l.search (map g.T.Entry.shown (drop l.index l.entries)) ≡ seek row l.initial.search all;
      moved : past (row_places g.T.Entry.places (map g.T.Entry.shown (drop l.index l.entries))) l.search
          ≡ past (row_places g.T.Entry.places all) l.initial.search;
    }
