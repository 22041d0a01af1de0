use Rattle.smith_change.proofs.Grammatical.{names_stay_utf8}
use Rattle.smith_change.proofs.laws.alternatives_are_of_the_grammar.Goals as goal

pub returns-clause-names : goal.returns-clause-names
returns-clause-names c = names_stay_utf8
