use Rattle.smith_format.proofs.Many.{put_none, put_next, loop_done, loop_exit}
use Rattle.smith_format.proofs.Steps.{due_left, ends, exits, keeps_begins}
use Rattle.smith_read.proofs.WrittenTypes.{decl_type, entry_component, entry_instance}
use Rattle.smith_read.proofs.writing.types.+writing.Goals as goal

pub put_type-returns-in_err-write_byte-in-Component : goal.put_type-returns-in_err-write_byte-in-Component
put_type-returns-in_err-write_byte-in-Component t c =
    let d = c.in_err-write_byte-in-Component.ensures {u = tt} in
    rw (c.in-Component.is, entry_component c.in-Component.decls) (exits _ _ c.from_residual.ensures.1 (keeps_begins d.0) (due_left _ d.1))

pub put_type-returns-in_ok-write_byte-in-Component : goal.put_type-returns-in_ok-write_byte-in-Component
put_type-returns-in_ok-write_byte-in-Component t c =
    rw (c.in-Component.is, entry_component c.in-Component.decls)
    (ends c.put_decls.result _ _ (c.in_ok-write_byte-in-Component.ensures {u = tt}) (rw c.deref.ensures.value at c.put_decls.ensures))

pub put_type-returns-in_err-write_byte-in-Instance : goal.put_type-returns-in_err-write_byte-in-Instance
put_type-returns-in_err-write_byte-in-Instance t c =
    let d = c.in_err-write_byte-in-Instance.ensures {u = tt} in
    rw (c.in-Instance.is, entry_instance c.in-Instance.decls) (exits _ _ c.from_residual-in_err-write_byte-in-Instance.ensures.1 (keeps_begins d.0)
    (due_left _ d.1))

pub put_type-returns-in_ok-write_byte-in-Instance : goal.put_type-returns-in_ok-write_byte-in-Instance
put_type-returns-in_ok-write_byte-in-Instance t c =
    rw (c.in-Instance.is, entry_instance c.in-Instance.decls)
    (ends c.put_decls-in-Instance.result _ _ (c.in_ok-write_byte-in-Instance.ensures {u = tt})
    (rw c.deref-in-Instance.ensures.value at c.put_decls-in-Instance.ensures))

pub put_decl-returns-in_err-write_byte-in-Type : goal.put_decl-returns-in_err-write_byte-in-Type
put_decl-returns-in_err-write_byte-in-Type t c =
    let d = c.in_err-write_byte-in-Type.ensures {u = tt} in
    rw (c.in-Type.is, decl_type _ c.in-Type.ty) (exits _ _ c.from_residual.ensures.1 (keeps_begins d.0) (due_left _ d.1))

pub put_decl-returns-in_ok-write_byte-in-Type : goal.put_decl-returns-in_ok-write_byte-in-Type
put_decl-returns-in_ok-write_byte-in-Type t c =
    rw (c.in-Type.is, decl_type _ c.in-Type.ty) (ends c.put_type.result _ _ (c.in_ok-write_byte-in-Type.ensures {u = tt}) c.put_type.ensures)

pub put_decls-loop-declared-init : goal.put_decls-loop-declared-init
put_decls-loop-declared-init t c = put_none _ _ _

pub put_decls-returns-in_err-put_decl : goal.put_decls-returns-in_err-put_decl
put_decls-returns-in_err-put_decl t c =
    loop_exit _ _ _ _ _ _ c.from_residual-in_err-put_decl.ensures.1 ((c.in_ok-write_count.ensures {u = tt}).written) _ c.loop-declared.invariant
    c.loop-declared-test.true c.declared-item.is (c.in_err-put_decl.ensures {u = tt})

pub put_decls-loop-declared-preserved : goal.put_decls-loop-declared-preserved
put_decls-loop-declared-preserved t c = put_next _ _ _ _ _ _ _ c.loop-declared.invariant c.loop-declared-test.true c.declared-item.is
    (c.in_ok-put_decl.ensures {u = tt})

pub put_decls-returns : goal.put_decls-returns
put_decls-returns t c = loop_done _ _ _ ((c.in_ok-write_count.ensures {u = tt}).written) c.loop-declared.invariant c.loop-declared-test.false
