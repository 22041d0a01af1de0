use Rattle.std.proofs.Common.{drop}
use Rattle.smith_input.specs.Script.{script_characters}
use Rattle.smith_script_types.proofs.Saying.{Towards}
use Rattle.smith_script_types.proofs.choices.say_characters.Given as goal

abbrev pub invariant-loop-character : goal.invariant-loop-character
invariant-loop-character l = Towards l.initial.out l.out (script_characters l.name) (script_characters (drop l.character-index l.name))
