use Rattle.std.proofs.Common.{◌≡◌, ◌-◌, length}
use Rattle.smith_read.specs.Search.{past}
use Rattle.smith_change.proofs.KindFound.{is_among}
use Rattle.smith_change.proofs.kinds.kind_among.Given as goal

abbrev pub invariant-loop-kind : goal.invariant-loop-kind
invariant-loop-kind l = record {
  found : is_among (length l.kinds - l.kind-index) l.search ≡ is_among (length l.kinds) l.initial.search;
  moved : past (length l.kinds - l.kind-index) l.search ≡ past (length l.kinds) l.initial.search;
}
