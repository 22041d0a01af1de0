use Rattle.std.proofs.Common.{arith, ◌+◌}
use borrow.Author.Count.{below_more}
use Rattle.smith_input.proofs.Widths.{power_more, powers_rise}
use Rattle.smith_input.proofs.unstructured.width_of.Goals as goal

pub loop-width-preserved : goal.loop-width-preserved
loop-width-preserved c = record {
  power = omega (arith, power_more c.loop-width.width, c.loop-width.invariant.power);
  small = omega (arith, power_more c.loop-width.width, c.loop-width.invariant.power, powers_rise (c.loop-width.width + 1) 8 (omega arith));
  below = below_more _ _ c.loop-width.invariant.below (omega (arith, c.loop-width.invariant.power));
}
