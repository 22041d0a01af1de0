use Rattle.std.proofs.Common.{◌≡◌, ◌+◌, ◌≤◌, length}
use Rattle.std.proofs.Math.ListN.{drop}
use Rattle.smith_types.specs.MakingCore.{shown_funcs}
use Rattle.smith_syntax.specs.ModuleTypes.{is_tag_type}
use Rattle.smith_syntax.specs.Places.{places}
use Rattle.smith_types.proofs.core_types.declared.tag_type_count.Given as goal

abbrev pub invariant-loop-ty : goal.invariant-loop-ty
invariant-loop-ty l = record {
  few : l.count ≤ l.ty-index;
  so_far : l.count + length (places is_tag_type l.ty-index (shown_funcs (drop l.ty-index l.own))) ≡ length (places is_tag_type 0 (shown_funcs l.own));
}
