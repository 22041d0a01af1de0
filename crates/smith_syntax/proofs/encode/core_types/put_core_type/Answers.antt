use Rattle.smith_format.proofs.Many.{many-map}
use Rattle.smith_syntax.specs.Grammar.{moduledecl}
use Rattle.smith_syntax.specs.Shown.{shown_decl}
use Rattle.smith_syntax.proofs.encode.core_types.put_core_type.Goals as goal

pub returns-in-Module : goal.returns-in-Module
returns-in-Module c = rw (c.in-Module.is, many-map moduledecl shown_decl _)
    (rw c.deref-in-Module.ensures.value at c.put_tagged.ensures)
