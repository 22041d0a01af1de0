use Rattle.std.proofs.Common.{◌∙◌}
use Rattle.smith_format.proofs.Steps.{exits, ends_third_appending, gains_begins, keeps_begins, due_left, due_right}
use Rattle.smith_core.proofs.Segments.{framed_raw}
use Rattle.smith_core.proofs.module.encode.segments.DataSegmentSpelledModuleFormat.put.Goals as goal

pub returns-in_err-put_data_form : goal.returns-in_err-put_data_form
returns-in_err-put_data_form c =
    let d = c.in_err-put_data_form.ensures {u = tt} in exits _ _ c.from_residual.ensures.1 d.0 (due_left _ d.1)

pub returns-in_err-write_count : goal.returns-in_err-write_count
returns-in_err-write_count c =
    let g = c.in_ok-put_data_form.ensures {u = tt} in
    let d = rw (c.len.ensures ∙ c.args.self.now.init.ok.0) at ((c.in_err-write_count.ensures {u = tt}).written) in
    rw (framed_raw c.args.self.now.init.items)
    (exits _ _ c.from_residual-in_err-write_count.ensures.1 (gains_begins g (keeps_begins d.0)) (due_right g (due_left _ d.1)))

pub returns : goal.returns
returns c =
    let count = rw (c.len.ensures ∙ c.args.self.now.init.ok.0) at ((c.in_ok-write_count.ensures {u = tt}).written) in
    rw (framed_raw c.args.self.now.init.items)
    (ends_third_appending c.write_raw.result _ _ (c.in_ok-put_data_form.ensures {u = tt}) count (rw c.deref.ensures.value at c.write_raw.ensures.written))
