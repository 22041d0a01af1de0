-- A component with one more part.
use Rattle.std.proofs.Common.{◌≡◌, List, ◌++◌, sym, ap, ◌∙◌, append-nil, append_assoc}
use Rattle.smith_tree.specs.Tree.{Part, Tree, add, ends, first, own}

-- What it has of its own is what that part has, after the rest.
pub own-add : {A : Type 0} (f : Part → List A) (t : Tree) (p : Part) → own f (add t p) ≡ own f t ++ f p
own-add f ends p = append-nil (f p)
own-add f (first q t) p = ap (λ x. f q ++ x) (own-add f t p) ∙ sym (append_assoc (f q) (own f t) (f p))
