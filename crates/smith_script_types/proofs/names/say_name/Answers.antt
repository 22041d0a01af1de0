use Rattle.std.proofs.Common.{◌≡◌, ap, ◌∙◌}
use Rattle.std.specs.Prelude.{take}
use Rattle.smith_input.specs.NameScript.{is_within, stem_of}
use Rattle.smith_script_types.proofs.names.say_name.Goals as goal

pub returns : goal.returns
returns c =
    let max = c.args.config.now.max_name_length in
    let text : c.front.result.now ≡ take max (stem_of (is_within max) c.args.count c.args.name.now) =
    c.front.ensures ∙ ap (take max) (c.stem_of-text.ensures ∙ ap (stem_of (is_within max) c.args.count) c.as_bytes.ensures.value) in
    rw text at c.say_kebab.ensures
