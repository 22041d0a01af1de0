use Rattle.std.proofs.Common.{◌≡◌, ◌++◌, drop}
use Rattle.smith_input.specs.Offers.{offers_of}
use Rattle.smith_script_types.proofs.choices.offered.Given as goal

abbrev pub invariant-loop-offer : goal.invariant-loop-offer
invariant-loop-offer g l = l.items.items ++ offers_of (drop l.offer-index l.offers) ≡ offers_of l.offers
