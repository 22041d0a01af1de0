use Rattle.std.proofs.Common.{◌∙◌, ap}
use Rattle.smith_swarm.specs.Swarm.{after_front, swarmed}
use Rattle.smith_run.proofs.Made.{follows, not_too_long, refused, written_within}
use Rattle.smith_run.proofs.running.convert_swarm.Goals as goal

pub returns-clause-written : goal.returns-clause-written
returns-clause-written g c =
    let input = c.in_ok-input.input.items in
    let swarm = c.swarm_limits-swarm in
    let within = swarm.ensures.config ∙ ap (swarmed c.args.config) c.deref.ensures.value in
    let same = follows swarm.ensures.taken c.deref.ensures.value c.deref-2.ensures.value in
    written_within (swarmed c.args.config) after_front input c.in_ok-input.ensures.all within same
    c.args.form _ _ c.write_made.result c.write_made.ensures.written
    c.write_made.ensures.accepts

pub returns-clause-whole : goal.returns-clause-whole
returns-clause-whole g c =
    let input = c.in_ok-input.input.items in
    let swarm = c.swarm_limits-swarm in
    let within = swarm.ensures.config ∙ ap (swarmed c.args.config) c.deref.ensures.value in
    let same = follows swarm.ensures.taken c.deref.ensures.value c.deref-2.ensures.value in
    refused (swarmed c.args.config) after_front input c.in_ok-input.ensures.all within same c.write_made.result c.write_made.ensures.refused

pub returns-clause-too_long : goal.returns-clause-too_long
returns-clause-too_long g c = not_too_long c.write_made.result c.write_made.ensures.faults
