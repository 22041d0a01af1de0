use Rattle.std.proofs.Common.{true, false}
use Rattle.smith_format.proofs.Sizes.{Sum}
use Rattle.smith_syntax.specs.Grammar.{decl}
use Rattle.smith_syntax.specs.ShownDecls.{shown_component_decl, shown_instance_decl}
use Rattle.smith_syntax.proofs.encode.+lengths.Given as goal

abbrev pub invariant-declarations::component_decls_len-loop-declared : goal.invariant-declarations::component_decls_len-loop-declared
invariant-declarations::component_decls_len-loop-declared l = Sum (λ d. decl true (shown_component_decl d)) l.decls l.declared-index l.total

abbrev pub invariant-declarations::instance_decls_len-loop-declared : goal.invariant-declarations::instance_decls_len-loop-declared
invariant-declarations::instance_decls_len-loop-declared l = Sum (λ d. decl false (shown_instance_decl d)) l.decls l.declared-index l.total
