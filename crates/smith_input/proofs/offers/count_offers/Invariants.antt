use Rattle.std.proofs.Common.{◌≡◌, length, ◌+◌, ◌≤◌}
use Rattle.std.proofs.Math.ListN.{drop}
use Rattle.smith_input.specs.Offers.{offers_of}
use Rattle.smith_input.proofs.offers.count_offers.Given as goal

abbrev pub invariant-loop-offer : goal.invariant-loop-offer
invariant-loop-offer g l = record {
  few : l.count ≤ l.offer-index;
  so_far : l.count + length (offers_of (drop l.offer-index l.offers)) ≡ length (offers_of l.offers);
}
