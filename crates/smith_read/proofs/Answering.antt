-- What the result of `read` says.
use Rattle.std.proofs.Common.{arith, ◌≡◌, ℕ, List, length, Some, Ok, Err, refl, ◌∙◌}
use Rattle.smith_read.specs.Reading.{Fails}
use Rattle.smith_read.specs.declared.unread.Unread.{Unread}
use Rattle.smith_read.specs.declared.unread.Unread.TheVariants as inner
use Rattle.smith_read.specs.Parts.{component_at}
use Rattle.smith_read.specs.PartNodes.{shown_tree}
use Rattle.smith_read.specs.Reads.{Reads, most_depth, at_offset}
use Rattle.smith_read.specs.declared.nodes.ComponentTree.{ComponentTree}
use Rattle.smith_read.proofs.Shallow.{found_shallow}
use Rattle.smith_read.proofs.TellingParts.{component_found, component_only}

pub reads_found : (b : List ℕ) (t : ComponentTree) → component_at most_depth b ≡ Some (shown_tree t) → Reads (Ok t) b
reads_found b t e = grind (arith, component_found, found_shallow)

pub reads_unread : (b : List ℕ) (d : Unread) → Fails d (component_at most_depth b) → Reads (Err (at_offset (length b) d)) b
reads_unread b inner.OutOfMemory f = record { spelled = tt; shallow = tt; answers = λ u d s. refl }
reads_unread b (inner.Malformed left reason) f = grind (arith, component_only)
