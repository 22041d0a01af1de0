use Rattle.smith_format.proofs.Many.{many-map}
use Rattle.smith_format.proofs.Steps.{ends}
use Rattle.smith_syntax.specs.Grammar.{moduledecl}
use Rattle.smith_read.specs.Nodes.{shown_module_node}
use Rattle.smith_read.proofs.writing.core_types.CoreNodeWritten.put.Goals as goal

pub returns-in_ok-write_byte-in-Module : goal.returns-in_ok-write_byte-in-Module
returns-in_ok-write_byte-in-Module c =
    rw (c.in-Module.is, many-map moduledecl shown_module_node _)
    (ends c.put_list.result _ _ (c.in_ok-write_byte-in-Module.ensures {u = tt}) (rw c.deref.ensures.value at c.put_list.ensures))
