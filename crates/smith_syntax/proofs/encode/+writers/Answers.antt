use Rattle.std.proofs.Common.{arith}
use Rattle.smith_format.proofs.Many.{put_none, put_next, loop_done, loop_exit}
use Rattle.smith_format.proofs.Steps.{due_left, ends, exits, keeps_begins}
use Rattle.smith_syntax.proofs.Declarations.{entry_component, entry_instance}
use Rattle.smith_syntax.proofs.encode.+writers.Goals as goal

pub declarations::put_component_decls-loop-declared-init : goal.declarations::put_component_decls-loop-declared-init
declarations::put_component_decls-loop-declared-init t c = put_none _ _ _

pub declarations::put_component_decls-returns-in_err-put_component_decl : goal.declarations::put_component_decls-returns-in_err-put_component_decl
declarations::put_component_decls-returns-in_err-put_component_decl t c =
    loop_exit _ _ _ _ _ _ c.from_residual-in_err-put_component_decl.ensures.1 ((c.in_ok-write_count.ensures {u = tt}).written) _ c.loop-declared.invariant
    c.loop-declared-test.true c.declared-item.is (c.in_err-put_component_decl.ensures {u = tt})

pub declarations::put_component_decls-loop-declared-preserved : goal.declarations::put_component_decls-loop-declared-preserved
declarations::put_component_decls-loop-declared-preserved t c = put_next _ _ _ _ _ _ _ c.loop-declared.invariant c.loop-declared-test.true c.declared-item.is
    (c.in_ok-put_component_decl.ensures {u = tt})

pub declarations::put_component_decls-returns : goal.declarations::put_component_decls-returns
declarations::put_component_decls-returns t c =
    loop_done _ _ _ ((c.in_ok-write_count.ensures {u = tt}).written) c.loop-declared.invariant c.loop-declared-test.false

pub declarations::put_instance_decls-loop-declared-init : goal.declarations::put_instance_decls-loop-declared-init
declarations::put_instance_decls-loop-declared-init t c = put_none _ _ _

pub declarations::put_instance_decls-returns-in_err-put_instance_decl : goal.declarations::put_instance_decls-returns-in_err-put_instance_decl
declarations::put_instance_decls-returns-in_err-put_instance_decl t c =
    loop_exit _ _ _ _ _ _ c.from_residual-in_err-put_instance_decl.ensures.1 ((c.in_ok-write_count.ensures {u = tt}).written) _ c.loop-declared.invariant
    c.loop-declared-test.true c.declared-item.is (c.in_err-put_instance_decl.ensures {u = tt})

pub declarations::put_instance_decls-loop-declared-preserved : goal.declarations::put_instance_decls-loop-declared-preserved
declarations::put_instance_decls-loop-declared-preserved t c = put_next _ _ _ _ _ _ _ c.loop-declared.invariant c.loop-declared-test.true c.declared-item.is
    (c.in_ok-put_instance_decl.ensures {u = tt})

pub declarations::put_instance_decls-returns : goal.declarations::put_instance_decls-returns
declarations::put_instance_decls-returns t c =
    loop_done _ _ _ ((c.in_ok-write_count.ensures {u = tt}).written) c.loop-declared.invariant c.loop-declared-test.false

pub put_type-returns-in_err-write_byte-in-Component : goal.put_type-returns-in_err-write_byte-in-Component
put_type-returns-in_err-write_byte-in-Component t c =
    let d = c.in_err-write_byte-in-Component.ensures {u = tt} in
    rw (c.in-Component.is, entry_component c.in-Component.ty) (exits _ _ c.from_residual.ensures.1 (keeps_begins d.0) (due_left _ d.1))

pub put_type-returns-in_ok-write_byte-in-Component : goal.put_type-returns-in_ok-write_byte-in-Component
put_type-returns-in_ok-write_byte-in-Component t c = grind (arith, entry_component, ends)

pub put_type-returns-in_err-write_byte-in-Instance : goal.put_type-returns-in_err-write_byte-in-Instance
put_type-returns-in_err-write_byte-in-Instance t c =
    let d = c.in_err-write_byte-in-Instance.ensures {u = tt} in
    rw (c.in-Instance.is, entry_instance c.in-Instance.ty) (exits _ _ c.from_residual-in_err-write_byte-in-Instance.ensures.1 (keeps_begins d.0)
    (due_left _ d.1))

pub put_type-returns-in_ok-write_byte-in-Instance : goal.put_type-returns-in_ok-write_byte-in-Instance
put_type-returns-in_ok-write_byte-in-Instance t c = grind (arith, entry_instance, ends)
