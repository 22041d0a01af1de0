use Rattle.std.proofs.Common.{◌≡◌, ◌+◌, ◌≤◌, map, length}
use Rattle.std.proofs.Math.ListN.{drop}
use Rattle.smith_syntax.specs.Shown.{shown_decl}
use Rattle.smith_types.specs.MakingCore.{names_taken}
use Rattle.smith_types.proofs.core_types.module_names.count_taken.Given as goal

abbrev pub invariant-loop-def : goal.invariant-loop-def
invariant-loop-def l = record {
  few : l.count ≤ l.def-index;
  so_far : l.count + length (names_taken l.imported l.from (map shown_decl (drop l.def-index l.defs))) ≡ length
      (names_taken l.imported l.from (map shown_decl l.defs));
}
