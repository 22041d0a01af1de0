use Rattle.std.proofs.Common.{true, false}
use Rattle.smith_format.proofs.Many.{Put}
use Rattle.smith_syntax.specs.Grammar.{decl}
use Rattle.smith_syntax.specs.ShownDecls.{shown_component_decl, shown_instance_decl}
use Rattle.smith_syntax.proofs.encode.+writers.Given as goal

abbrev pub invariant-declarations::put_component_decls-loop-declared : goal.invariant-declarations::put_component_decls-loop-declared
invariant-declarations::put_component_decls-loop-declared l = Put (λ d. decl true (shown_component_decl d)) l.decls l.declared-index l.initial.out l.out

abbrev pub invariant-declarations::put_instance_decls-loop-declared : goal.invariant-declarations::put_instance_decls-loop-declared
invariant-declarations::put_instance_decls-loop-declared l = Put (λ d. decl false (shown_instance_decl d)) l.decls l.declared-index l.initial.out l.out
