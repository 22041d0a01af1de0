-- How sections in order are written.
use Rattle.std.proofs.Common.{◌≡◌, List, [], ◌∷◌, refl, ap}
use Rattle.smith_format.specs.Piece.{◌⊕◌, each}
use Rattle.smith_tree.specs.Grammar.{part, parts}
use Rattle.smith_tree.specs.Tree.{Part, tree_of}

pub parts_each : (ps : List Part) → parts (tree_of ps) ≡ each part ps
parts_each [] = refl
parts_each (p ∷ ps) = ap (λ q. part p ⊕ q) (parts_each ps)
