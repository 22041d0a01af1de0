use Rattle.smith_syntax.proofs.Clear.{clear_val, clear_maybe, clear_core_entry}
use Rattle.smith_syntax.proofs.ClearTypes.{clear_entry, clear_named_extern}
use Rattle.smith_syntax.proofs.laws.types_are_clear.Goals as goal

pub returns-clause-types : goal.returns-clause-types
returns-clause-types c = clear_entry

pub returns-clause-value_types : goal.returns-clause-value_types
returns-clause-value_types c = clear_val

pub returns-clause-missing : goal.returns-clause-missing
returns-clause-missing c = clear_maybe

pub returns-clause-core_types : goal.returns-clause-core_types
returns-clause-core_types c = clear_core_entry

pub returns-clause-imports : goal.returns-clause-imports
returns-clause-imports c = clear_named_extern
