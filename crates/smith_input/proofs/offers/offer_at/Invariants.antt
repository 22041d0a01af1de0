use Rattle.std.proofs.Common.{◌≡◌, slice_get}
use Rattle.std.proofs.Math.ListN.{drop}
use Rattle.smith_input.specs.Offers.{offers_of}
use Rattle.smith_input.proofs.offers.offer_at.Given as goal

abbrev pub invariant-loop-offer : goal.invariant-loop-offer
invariant-loop-offer g l = slice_get (offers_of (drop l.offer-index l.offers)) l.left ≡ slice_get (offers_of l.offers) l.place
