use Rattle.smith_format.proofs.CoreReading.{memory_unique, table_unique, tag_unique, function_unique}
use Rattle.smith_format.proofs.laws.core_types_are_decided.Goals as goal

pub returns-clause-memories : goal.returns-clause-memories
returns-clause-memories c = λ bytes m n left rest r s. memory_unique r s

pub returns-clause-tables : goal.returns-clause-tables
returns-clause-tables c = λ references bytes t o left rest r s. table_unique r s

pub returns-clause-tags : goal.returns-clause-tags
returns-clause-tags c = λ candidates bytes t o left rest r s. tag_unique r s

pub returns-clause-functions : goal.returns-clause-functions
returns-clause-functions c = λ bits valtypes max_results bytes f g left rest r s. function_unique r s
