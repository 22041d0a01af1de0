-- The component functions and the core functions of a component (Explainer.md, index spaces).
use Rattle.std.specs.Prelude.{ℕ, List}
use Rattle.smith_tree.specs.Spaces.{spaces_of}
use Rattle.smith_tree.specs.Tree.{Tree}

abbrev pub functions_of : Tree → List ℕ
functions_of t = (spaces_of t).functions

abbrev pub core_functions_of : Tree → List ℕ
core_functions_of t = (spaces_of t).core_functions
