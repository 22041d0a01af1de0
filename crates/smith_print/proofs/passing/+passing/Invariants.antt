use Rattle.std.proofs.Common.{Bool}
use Rattle.smith_syntax.specs.Grammar.{decl}
use Rattle.smith_read.specs.TypeNodes.{shown_decl_node}
use Rattle.smith_print.proofs.Following.{Left}
use Rattle.smith_print.proofs.passing.+passing.Given as goal

abbrev pub invariant-pass_decls-loop-node : goal.invariant-pass_decls-loop-node
invariant-pass_decls-loop-node l =
    (importing : Bool) → Left (λ d. decl importing (shown_decl_node d)) l.nodes l.node-index l.initial.rest l.rest
