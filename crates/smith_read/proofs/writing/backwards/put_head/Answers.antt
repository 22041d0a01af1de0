use Rattle.std.proofs.Common.{arith, sym, subst}
use Rattle.smith_format.specs.Piece.{Piece}
use Rattle.smith_format.specs.Writing.{IsDue}
use Rattle.smith_format.proofs.Sizes.{sized_none}
use Rattle.smith_format.proofs.Steps.{due_none, sized_is}
use Rattle.smith_read.specs.Leads.{Leads}
use Rattle.smith_read.proofs.Leads.{due_front, gives_up, leads_length, leads_takes, leads_then}
use Rattle.smith_read.proofs.writing.backwards.put_head.Goals as goal

pub returns-in_default : goal.returns-in_default
returns-in_default c = grind (arith, due_none, sized_none, leads_length)

pub returns-in_err-write_head : goal.returns-in_err-write_head
returns-in_err-write_head c = λ old p at g.
    let takes = leads_takes c.in-Ok.length g (omega (arith, c.len-end.ensures, c.in-Ok.ensures {u = tt}, c.requires)) in
    gives_up c.from_residual.result _ old c.write_head.new.out c.from_residual.ensures.1
    (subst (λ (q : Piece). IsDue c.in_err-write_head.field-0.0 old q) (sym (sized_is c.args.id takes)) (due_front g (c.in_err-write_head.ensures {u = tt}).1))

pub returns : goal.returns
returns c = λ old p at g.
    let takes = leads_takes c.in-Ok.length g (omega (arith, c.len-end.ensures, c.in-Ok.ensures {u = tt}, c.requires)) in
    subst (λ (q : Piece). Leads old c.reverse_from.new.out q) (sym (sized_is c.args.id takes))
    (leads_then g (c.reverse_from.ensures.reversed c.args.out.now _ c.len-end.ensures (c.in_ok-write_head.ensures {u = tt})))
