use Rattle.std.proofs.Common.{◌≡◌, ◌∙◌, ap, List, ℕ, length, subst}
use Rattle.std.specs.Io.KnownBytes.{Appends}
use Rattle.smith_input.specs.Reading.{IsTail}
use Rattle.smith_component.specs.Runs.{IsMade}
use Rattle.smith_run.specs.Running.{written_text}
use Rattle.smith_run.proofs.running.write_made.Goals as goal

pub returns-clause-written : goal.returns-clause-written
returns-clause-written g c =
    let rest = c.generate.new.u in
    let made = c.in_ok-generated.generated in
    let read = c.new-unstructured.ensures in
    let tail : IsTail rest c.args.bytes.now = (c.in_ok-generated.ensures.input.tail.0, cc (c.in_ok-generated.ensures.input.tail.1, read)) in
    let R : List ℕ → Type 0 = λ bytes. IsMade c.args.config bytes made.component rest in
    let ran = subst R read c.in_ok-generated.ensures.made in
    let counted : length c.left-left.result.now ≡ length rest = ap length c.left-left.ensures in
    let text : c.deref.result.now ≡ written_text c.args.form made.bytes.items (length rest) =
    c.deref.ensures.value ∙ c.in_ok-text.ensures ∙ ap (written_text c.args.form made.bytes.items) counted in (
      rest,
      counted,
      record {
        component = made.component;
        bytes = made.bytes.items;
        generated = c.in_ok-generated.ensures.generated;
        is_left = tail;
        made = ran;
        reach = λ plan rest within begins. let r = c.in_ok-generated.ensures.reach plan rest within (read ∙ begins) in (r.1, r.2);
        written = subst (Appends _ _) text c.in_ok-write_text.ensures.written;
      },
    )
