use Rattle.std.proofs.Common.{[], List, ℕ, ◌++◌, ◌≡◌, ◌+◌, ◌-◌, ◌∙◌, ap, arith, length}
use Rattle.smith_format.proofs.Piece.{right_nil}
use Rattle.smith_tree.specs.Grammar.{component_text, preamble}
use Rattle.smith_read.specs.PartNodes.{shown_tree}
use Rattle.smith_print.specs.Offsets.{parts_at}
use Rattle.smith_print.proofs.offsets.offsets_of.Goals as goal

pub returns : goal.returns
returns c = λ spells.
    let t = shown_tree c.args.component.now in
    let n = length c.args.bytes.now in
    let there : n - n + length preamble ≡ length preamble = omega arith in
    ((rw c.deref.ensures.value at (c.in_ok-place_parts.ensures {u = tt})) [] (right_nil (component_text t) ∙ spells) (omega arith)).1
    ∙ ap (λ (xs : List ℕ). xs ++ parts_at (n - n + length preamble) t) c.new-offsets.ensures.items ∙ ap (λ k. parts_at k t) there
