use Rattle.std.proofs.Common.{◌≡◌, ◌<◌, length, slice_get}
use Rattle.std.proofs.Math.ListN.{drop}
use Rattle.smith_types.specs.MakingCore.{shown_funcs}
use Rattle.smith_syntax.specs.ModuleTypes.{is_tag_type}
use Rattle.smith_syntax.specs.Places.{places}
use Rattle.smith_types.proofs.core_types.declared.tag_type_at.Given as goal

-- The wanted one is so many after the first of the remaining ones.
abbrev pub invariant-loop-i : goal.invariant-loop-i
invariant-loop-i l = record {
  there : l.left < length (places is_tag_type l.i (shown_funcs (drop l.i l.own)));
  same : slice_get (places is_tag_type l.i (shown_funcs (drop l.i l.own))) l.left ≡ slice_get (places is_tag_type 0 (shown_funcs l.own)) l.rank;
}
