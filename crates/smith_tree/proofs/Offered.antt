-- What is offered of a component with one more part, and of the open components.
use Rattle.std.proofs.Common.{◌≡◌, List, [], ◌∷◌, ◌++◌, fold}
use Rattle.smith_format.specs.declared.config.Config.{Config}
use Rattle.smith_syntax.specs.Marked.{Marked, empty_marked}
use Rattle.smith_tree.specs.Marking.{marked_after_part, marked_after_parts, marked_from, marked_in, marked_inner, marked_of}
use Rattle.smith_tree.specs.Offered.{IsOffered, OfferedPart, OfferedParts}
use Rattle.smith_tree.specs.Open.{tree_so_far}
use Rattle.smith_tree.specs.Spaces.{Spaces, after_part, no_spaces, spaces_of}
use Rattle.smith_tree.specs.Tree.{Tree, Part, add, component, ends, first, parts_of}

module _ (config : Config) where
  parts_with : (t : Tree) (p : Part) (s : Spaces) (outer : List Marked) (own : Marked) → OfferedParts t config s outer own
      → OfferedPart p config (fold after_part s (parts_of t)) outer (marked_after_parts t s outer own) → OfferedParts (add t p) config s outer own
  parts_with ends p s outer own h o = (o, tt)
  parts_with (first q t) p s outer own h o = (h.0, parts_with t p (after_part s q) outer (marked_after_part q s outer own) h.1 o)

  parts_without : (t : Tree) (p : Part) (s : Spaces) (outer : List Marked) (own : Marked) → OfferedParts (add t p) config s outer own
      → OfferedParts t config s outer own × OfferedPart p config (fold after_part s (parts_of t)) outer (marked_after_parts t s outer own)
  parts_without ends p s outer own h = (tt, h.0)
  parts_without (first q t) p s outer own h =
      let rest = parts_without t p (after_part s q) outer (marked_after_part q s outer own) h.1 in
      ((h.0, rest.0), rest.1)

  -- the parts of a component in these scopes
  abbrev InScopes : List Marked → Tree → Type 0
  InScopes outer t = OfferedParts t config no_spaces outer (empty_marked config.must_validate)

  -- a part of a component with these parts in these scopes
  abbrev Next : List Marked → Tree → Part → Type 0
  Next outer t p = OfferedPart p config (spaces_of t) outer (marked_of config outer t)

  so_far_with : (us : List Tree) (t : Tree) (p : Part) (outer : List Marked) → InScopes outer (tree_so_far us t) → Next (marked_from config us outer) t p
      → InScopes outer (tree_so_far us (add t p))
  so_far_with [] t p outer h o = parts_with t p no_spaces outer (empty_marked config.must_validate) h o
  so_far_with (u ∷ us) t p outer h o =
      let split = parts_without u (component (tree_so_far us t)) no_spaces outer (empty_marked config.must_validate) h in
      parts_with u (component (tree_so_far us (add t p))) no_spaces outer (empty_marked config.must_validate) split.0
      (so_far_with us t p (marked_of config outer u ∷ outer) split.1 o)

  so_far_at : (us : List Tree) (t : Tree) (p : Part) (outer : List Marked) → InScopes outer (tree_so_far us (add t p))
      → Next (marked_from config us outer) t p
  so_far_at [] t p outer h = (parts_without t p no_spaces outer (empty_marked config.must_validate) h).1
  so_far_at (u ∷ us) t p outer h =
      so_far_at us t p (marked_of config outer u ∷ outer)
      (parts_without u (component (tree_so_far us (add t p))) no_spaces outer (empty_marked config.must_validate) h).1

  -- The tree as if all that is open were finished, with one more part of the inner component.
  pub offered_with : (us : List Tree) (t : Tree) (p : Part) → IsOffered config (tree_so_far us t)
      → OfferedPart p config (spaces_of t) (marked_in config us) (marked_inner config us t) → IsOffered config (tree_so_far us (add t p))
  offered_with us t p h o = so_far_with us t p [] h o

  pub offered_at : (us : List Tree) (t : Tree) (p : Part) → IsOffered config (tree_so_far us (add t p))
      → OfferedPart p config (spaces_of t) (marked_in config us) (marked_inner config us t)
  offered_at us t p h = so_far_at us t p [] h
