use Rattle.smith_format.proofs.Many.{Put}
use Rattle.smith_syntax.specs.Grammar.{decl}
use Rattle.smith_read.specs.TypeNodes.{shown_decl_node}
use Rattle.smith_read.proofs.writing.types.+writing.Given as goal

abbrev pub invariant-put_decls-loop-declared : goal.invariant-put_decls-loop-declared
invariant-put_decls-loop-declared l = Put (λ d. decl l.importing (shown_decl_node d)) l.decls l.declared-index l.initial.out l.out
