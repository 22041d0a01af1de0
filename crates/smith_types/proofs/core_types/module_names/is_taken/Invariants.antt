use Rattle.std.proofs.Common.{◌≡◌, map}
use Rattle.std.proofs.Math.ListN.{drop}
use Rattle.smith_input.specs.NewNames.{is_among}
use Rattle.smith_syntax.specs.Shown.{shown_decl}
use Rattle.smith_types.specs.MakingCore.{names_taken}
use Rattle.smith_types.proofs.core_types.module_names.is_taken.Given as goal

-- No declaration so far has the name.
abbrev pub invariant-loop-def : goal.invariant-loop-def
invariant-loop-def l = is_among (names_taken l.imported l.from (map shown_decl (drop l.def-index l.defs))) l.name ≡ is_among
    (names_taken l.imported l.from (map shown_decl l.defs)) l.name
