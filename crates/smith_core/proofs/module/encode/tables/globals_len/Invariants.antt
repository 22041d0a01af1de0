use Rattle.std.specs.List.{slice_get}
use Rattle.smith_format.specs.Piece.{◌⊕◌}
use Rattle.smith_format.proofs.Sizes.{Sum}
use Rattle.smith_core.specs.Segments.{expression, named_type}
use Rattle.smith_core.proofs.module.encode.tables.globals_len.Given as goal

abbrev pub invariant-loop-index : goal.invariant-loop-index
invariant-loop-index l = Sum (λ g. named_type (slice_get l.types g.0) ⊕ expression g.1) l.defined l.index-index l.total
