use Rattle.std.proofs.Common.{arith, rules, subst, sym}
use Rattle.smith_format.specs.Piece.{Piece}
use Rattle.smith_format.specs.Writing.{IsDue}
use Rattle.smith_format.proofs.Piece.{raw_is}
use Rattle.smith_format.proofs.Steps.{due_none}
use Rattle.smith_read.proofs.Leads.{due_sized, gives_up}
use Rattle.smith_read.proofs.WrittenParts.{embedded_is, embedded_none}
use Rattle.smith_read.proofs.writing.parts.put_core_module.Goals as goal

pub returns-then-not-starts_with : goal.returns-then-not-starts_with
returns-then-not-starts_with c = due_sized 1 (due_none (embedded_none _ (search rules)))

pub returns-in_err-write_bytes : goal.returns-in_err-write_bytes
returns-in_err-write_bytes c =
    let is = embedded_is c.args.contents.now (search rules) (raw_is c.args.contents.now (λ i. omega (arith, c.type_inv.contents i))) in
    gives_up _ _ _ c.write_bytes.new.out c.from_residual.ensures.1
    (due_sized 1 (subst (λ (q : Piece). IsDue c.in_err-write_bytes.field-0.0 c.args.out.now q) (sym is) (c.in_err-write_bytes.ensures {u = tt}).1))

pub returns : goal.returns
returns c = grind (arith, embedded_is, raw_is)
