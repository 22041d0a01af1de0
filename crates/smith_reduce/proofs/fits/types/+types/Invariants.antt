use Rattle.std.proofs.Common.{◌≤◌, drop, map}
use Rattle.smith_syntax.specs.Entries.{in_order}
use Rattle.smith_tree.specs.TypeNeeds.{decls_declaring}
use Rattle.smith_read.specs.TypeNodes.{shown_decl_node}
use Rattle.smith_reduce.specs.Fits.{FitsDecls}
use Rattle.smith_reduce.proofs.fits.types.+types.Given as goal

abbrev pub invariant-fits_decls-loop-decl : goal.invariant-fits_decls-loop-decl
invariant-fits_decls-loop-decl l =
    let all = in_order (map shown_decl_node l.decls) in
    let rest = in_order (map shown_decl_node (drop l.decl-index l.decls)) in
    record {
      fits : FitsDecls l.config rest → FitsDecls l.config all;
      depth : decls_declaring rest ≤ l.room → decls_declaring all ≤ l.room;
    }
