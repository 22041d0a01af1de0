use Rattle.std.proofs.Common.{◌≡◌, ◌++◌, ℕ, List, drop, map}
use Rattle.smith_syntax.specs.Entries.{in_order}
use Rattle.smith_syntax.specs.WellFormed.{decl_exports, decl_imports, names}
use Rattle.smith_read.specs.TypeNodes.{shown_decl_node}
use Rattle.smith_edit.specs.Names.{KnowsBoth}
use Rattle.smith_edit.proofs.simpler.types.take_declared_names.Given as goal

abbrev pub invariant-loop-node : goal.invariant-loop-node
invariant-loop-node l =
    let all = in_order (map shown_decl_node l.nodes) in
    let rest = in_order (map shown_decl_node (drop l.node-index l.nodes)) in
    (is es : List (List ℕ)) × KnowsBoth l.taken is es × (is ++ names (decl_imports rest) ≡ names (decl_imports all))
    × (es ++ names (decl_exports rest) ≡ names (decl_exports all))
