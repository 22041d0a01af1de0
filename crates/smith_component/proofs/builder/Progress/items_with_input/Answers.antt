use Rattle.std.proofs.Common.{◌≡◌, ◌+◌, ◌∙◌, arith}
use Rattle.std.proofs.lemmas.List.{length-map}
use Rattle.std.specs.Prelude.{◌&&◌}
use Rattle.smith_component.proofs.SectionValues.{length-shown}
use Rattle.smith_component.proofs.builder.Progress.items_with_input.Goals as goal

pub returns : goal.returns
returns c = grind (arith, length-map, length-shown)
