use Rattle.std.proofs.Common.{arith, ◌+◌, ◌%◌, refl}
use Rattle.std.specs.Vec.{with_item}
use Rattle.smith_format.proofs.Framing.{framing_begins, framing_next, framing_within, framing_ends, framing_full}
use Rattle.smith_format.proofs.Steps.{exits}
use Rattle.smith_format.proofs.sections.end_section.Goals as goal

pub loop-rest-init : goal.loop-rest-init
loop-rest-init c = framing_begins c.args.out.now c.args.start c.in-Ok.length (omega arith)

pub insert-requires : goal.insert-requires
insert-requires c = omega (
  arith,
  framing_within c.args.out.now c.args.start c.in-Ok.length c.loop-rest.out c.loop-rest.at c.loop-rest.rest
      c.loop-rest.invariant c.requires,
)

pub returns-in_err-insert : goal.returns-in_err-insert
returns-in_err-insert c = λ old id p at g.
    let full = framing_full old c.args.out.now id c.args.start c.in-Ok.length p at g (omega (arith, (c.in-Ok.ensures {u = tt}).1, c.len.ensures))
    (omega (arith, (c.in-Ok.ensures {u = tt}))) c.loop-rest.out c.loop-rest.at c.loop-rest.rest c.loop-rest.invariant c.insert.new.self
    c.loop-rest-test.true (c.in_err-insert.ensures {u = tt}).items c.insert.ensures.capacity (c.in_err-insert.ensures {u = tt}).full in
    exits c.from_residual.result _ c.from_residual.ensures.1 full.0 full.1

pub overflow_add-at : goal.overflow_add-at
overflow_add-at c = omega (
  arith,
  c.loop-rest.out.small,
  framing_within c.args.out.now c.args.start c.in-Ok.length c.loop-rest.out c.loop-rest.at
      c.loop-rest.rest c.loop-rest.invariant c.requires,
)

pub loop-rest-preserved : goal.loop-rest-preserved
loop-rest-preserved c =
    framing_next c.args.out.now c.args.start c.in-Ok.length c.loop-rest.out c.insert.new.self c.loop-rest.at c.loop-rest.rest (c.loop-rest.rest % 128 + 128)
    c.loop-rest.invariant c.loop-rest-test.true (omega arith) (c.in_ok-insert.ensures {u = tt}).items c.insert.ensures.capacity

pub index_mut-requires : goal.index_mut-requires
index_mut-requires c = framing_within c.args.out.now c.args.start c.in-Ok.length c.loop-rest.out c.loop-rest.at c.loop-rest.rest c.loop-rest.invariant
    c.requires

pub returns : goal.returns
returns c = λ old id p at g.
    framing_ends old c.args.out.now id c.args.start c.in-Ok.length p at g (omega (arith, (c.in-Ok.ensures {u = tt}).1, c.len.ensures))
    (omega (arith, (c.in-Ok.ensures {u = tt}))) c.loop-rest.out c.loop-rest.at c.loop-rest.rest c.loop-rest.invariant
    (with_item c.loop-rest.out c.loop-rest.at c.loop-rest.rest) c.loop-rest-test.false refl (omega arith)
