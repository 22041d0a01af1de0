use Rattle.std.proofs.Common.{◌≡◌}
use Rattle.std.proofs.Math.ListN.{drop}
use Rattle.smith_types.specs.MakingCore.{shown_funcs}
use Rattle.smith_syntax.specs.ModuleTypes.{is_tag_type}
use Rattle.smith_syntax.specs.Places.{places}
use Rattle.smith_types.proofs.core_types.declared.has_tag_type.Given as goal

abbrev pub invariant-loop-ty : goal.invariant-loop-ty
invariant-loop-ty l = places is_tag_type l.ty-index (shown_funcs (drop l.ty-index l.own)) ≡ places is_tag_type 0 (shown_funcs l.own)
