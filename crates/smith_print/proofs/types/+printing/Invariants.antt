use Rattle.std.specs.Prelude.{[], string_bytes}
use Rattle.smith_print.proofs.Listed.{Going}
use Rattle.smith_print.proofs.types.+printing.Given as goal
use Rattle.smith_print.specs.Types.{after_decl, decl_text}
use Rattle.smith_read.specs.TypeNodes.{shown_decl_node}

abbrev pub invariant-print_decls-loop-decl : goal.invariant-print_decls-loop-decl
invariant-print_decls-loop-decl l =
    Going (λ d. decl_text (shown_decl_node d)) (λ d. after_decl (shown_decl_node d)) l.columns l.decls l.decl-index (string_bytes l.initial.out)
    (string_bytes l.out) l.initial.spaces l.spaces [] []
