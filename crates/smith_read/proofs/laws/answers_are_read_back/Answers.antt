use Rattle.std.proofs.Common.{◌≡◌, ℕ, ◌≤◌, List, arith}
use Rattle.std.specs.Prelude.{Result, Ok, Err, IfOk}
use Rattle.smith_tree.specs.Generates.{Generates}
use Rattle.smith_tree.specs.Grammar.{Spells}
use Rattle.smith_tree.specs.Tree.{Tree}
use Rattle.smith_tree.proofs.Depths.{scopes_within}
use Rattle.smith_format.specs.declared.config.Config.{Config}
use Rattle.smith_read.specs.PartNodes.{shown_tree}
use Rattle.smith_read.specs.declared.error.ReadError.{ReadError}
use Rattle.smith_read.specs.declared.nodes.ComponentTree.{ComponentTree}
use Rattle.smith_read.proofs.laws.answers_are_read_back.Goals as goal

is_it : {config : Config} {component : Tree} {bytes : List ℕ} → Generates config component bytes → (r : Result ComponentTree ReadError)
    → IfOk r (λ t. Spells (shown_tree t) bytes) → IfOk r (λ t. shown_tree t ≡ component)
is_it g (Ok t) s = (g.reading (shown_tree t)).0 s
is_it g (Err e) s = s

pub returns : goal.returns
returns c config component bytes result consistent g reads = grind (arith, scopes_within, is_it)
