use Rattle.std.specs.List.{slice_get}
use Rattle.smith_format.specs.Piece.{◌⊕◌}
use Rattle.smith_format.proofs.Many.{Put}
use Rattle.smith_core.specs.Segments.{expression, named_type}
use Rattle.smith_core.proofs.module.encode.tables.put_globals.Given as goal

abbrev pub invariant-loop-index : goal.invariant-loop-index
invariant-loop-index l =
    Put (λ g. named_type (slice_get l.types g.0) ⊕ expression g.1) l.defined l.index-index l.initial.out l.out
