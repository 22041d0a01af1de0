use Rattle.smith_syntax.proofs.TooLong.{entry_none, core_entry_none, extern_none}
use Rattle.smith_syntax.proofs.laws.long_types_have_no_encoding.Goals as goal

pub returns-clause-types : goal.returns-clause-types
returns-clause-types c = entry_none

pub returns-clause-core_types : goal.returns-clause-core_types
returns-clause-core_types c = core_entry_none

pub returns-clause-imports : goal.returns-clause-imports
returns-clause-imports c = extern_none
