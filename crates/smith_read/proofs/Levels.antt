-- Types that hold types: how they are read at each level.
use Rattle.std.proofs.Common.{◌≡◌, ℕ, zero, suc, ◌-◌, ◌<◌, List, Some, ap, arith}
use Rattle.std.proofs.Common.{true, false, map, sym, ◌∙◌}
use Rattle.std.specs.Global.{Vec}
use Rattle.smith_read.specs.Reading.{u_at, times_at, many_at}
use Rattle.smith_read.specs.TypeNodes.{shown_type_node, shown_decl_node}
use Rattle.smith_read.specs.declared.type_nodes.DeclNode.{DeclNode}
use Rattle.smith_read.specs.declared.type_nodes.TypeNode.TheVariants as node
use Rattle.smith_read.specs.Levels.{leaf_after, decl_at, around_after, entry_after}
use Rattle.smith_read.proofs.ShownNodes.{shown_component, shown_instance}

pub levels_none : (n tag : ℕ) (bs : List ℕ) → n ≡ 0 → entry_after n tag bs ≡ leaf_after tag bs
unfolding entry_after
levels_none n tag bs e = ap (λ m. entry_after m tag bs) e

pub levels_some : (n tag : ℕ) (bs : List ℕ) → 0 < n → entry_after n tag bs ≡ around_after (entry_after (n - 1)) tag bs
unfolding entry_after
levels_some zero tag bs l = absurd (omega arith)
levels_some (suc n) tag bs l = ap (λ m. around_after (entry_after m) tag bs) (omega arith)

pub component_read : (n count : ℕ) (bs mid rest : List ℕ) (ds : Vec DeclNode) → 0 < n → u_at bs ≡ Some (count, mid)
    → times_at (decl_at (entry_after (n - 1)) true) count mid ≡ Some (map shown_decl_node ds.items, rest)
    → entry_after n 0x41 bs ≡ Some (shown_type_node (node.Component ds), rest)
unfolding around_after many_at
component_read n count bs mid rest ds l e f = levels_some n 0x41 bs l ∙ rw (e, f) (ap (λ t. Some (t, rest)) (sym (shown_component ds)))

pub instance_read : (n count : ℕ) (bs mid rest : List ℕ) (ds : Vec DeclNode) → 0 < n → u_at bs ≡ Some (count, mid)
    → times_at (decl_at (entry_after (n - 1)) false) count mid ≡ Some (map shown_decl_node ds.items, rest)
    → entry_after n 0x42 bs ≡ Some (shown_type_node (node.Instance ds), rest)
unfolding around_after many_at
instance_read n count bs mid rest ds l e f = levels_some n 0x42 bs l ∙ rw (e, f) (ap (λ t. Some (t, rest)) (sym (shown_instance ds)))
