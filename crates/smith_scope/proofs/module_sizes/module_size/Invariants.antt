use Rattle.std.proofs.Common.{map}
use Rattle.smith_scope.proofs.ModuleSteps.{LeftFrom}
use Rattle.smith_scope.proofs.module_sizes.module_size.Given as goal

abbrev pub invariant-loop-decl : goal.invariant-loop-decl
invariant-loop-decl g l =
    LeftFrom g.D.ModuleTree.plain (map g.C.Tree.CoreTree.plain (map g.C.CoreTyped.tree l.around)) l.decls l.module l.decl-index
