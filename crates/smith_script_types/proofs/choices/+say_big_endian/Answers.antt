use Rattle.std.proofs.Common.{arith, ◌≡◌, ◌/◌, ◌^◌, ◌-◌, ◌<◌, sym}
use Rattle.smith_script_types.proofs.Picking.{big_endian_more, power_fits, power_positive}
use Rattle.smith_script_types.proofs.Saying.{ends}
use Rattle.smith_script_types.proofs.choices.+say_big_endian.Goals as goal

pub pow-unit-requires : goal.pow-unit-requires
pow-unit-requires t c = power_fits c.args.width (omega (arith, c.requires))

pub nonzero_div-k : goal.nonzero_div-k
nonzero_div-k t c = omega (arith, c.pow-unit.ensures, power_positive (c.args.width - 1))

pub nonzero_rem-k : goal.nonzero_rem-k
nonzero_rem-k t c = omega (arith, c.pow-unit.ensures, power_positive (c.args.width - 1))

pub returns : goal.returns
returns t c =
    let wide : 0 < c.args.width = omega (arith, c.if-width-eq0.false) in
    let f : c.in-Ok.first ≡ c.args.k / 256 ^ (c.args.width - 1) = grind arith in
    rw (sym (big_endian_more c.args.width c.args.k c.in-Ok.first wide f))
    (rw c.pow-unit.ensures at (ends c.say_big_endian.result _ _ (c.in_ok-say_byte.ensures {u = tt}) c.say_big_endian.ensures))
