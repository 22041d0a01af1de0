-- How trees grow at the inner component.
use Rattle.std.proofs.Common.{◌≡◌, ℕ, ◌+◌, ◌≤◌, max, List, [], ◌∷◌, ◌++◌, length, arith, ap, sym, ◌∙◌, refl, subst, length-append, append_assoc, append-nil}
use Rattle.std.specs.List.{AllByRecursion, flat_map}
use Rattle.smith_scopes.proofs.Plain.{all_back, all_both, all_front}
use Rattle.smith_syntax.specs.Entries.{Entry, ImportEntry}
use Rattle.smith_tree.specs.Tree.{Tree, ends, first, Part, custom, core_module, core_types, component, types, canons, imports, exports, add, own, anywhere}
use Rattle.smith_tree.specs.Tree.{anywhere_in, inside, components_in, depth_by, depth_by_in, canons_in, function_count, function_of, imported_functions_in}
use Rattle.smith_tree.specs.Tree.{imports_in}
use Rattle.smith_tree.specs.Open.{tree_so_far, scopes_from}
use Rattle.smith_syntax.specs.Scope.{Scope}
use Rattle.smith_tree.specs.WellFormed.{Formed, FormedPart, scope_of}

-- What is open is closed.
pub tree_so_far-close : (outer : List Tree) (u t : Tree) → tree_so_far (outer ++ u ∷ []) t ≡ tree_so_far outer (add u (component t))
tree_so_far-close [] u t = refl
tree_so_far-close (v ∷ outer) u t = ap (λ x. add v (component x)) (tree_so_far-close outer u t)

-- Depths, wherever types reach.
module _ (below : List Entry → ℕ) where
  depth_in_some : (p : Part) → 1 ≤ depth_by_in below p
  depth_in_some (custom n c) = omega arith
  depth_in_some (core_module m) = omega arith
  depth_in_some (core_types ts) = omega arith
  depth_in_some (component t) = omega arith
  depth_in_some (types ts) = omega arith
  depth_in_some (canons fs) = omega arith
  depth_in_some (imports is) = omega arith
  depth_in_some (exports es) = omega arith

  pub depth-add : (t : Tree) (p : Part) → depth_by below (add t p) ≡ max (depth_by below t) (depth_by_in below p)
  depth-add ends p = omega (arith, depth_in_some p)
  depth-add (first q t) p = omega (arith, depth-add t p)

  pub depth-so_far : (outer : List Tree) (t : Tree) (p : Part)
      → depth_by below (tree_so_far outer (add t p)) ≡ max (depth_by below (tree_so_far outer t)) (length outer + depth_by_in below p)
  depth-so_far [] t p = omega (arith, depth-add t p)
  depth-so_far (u ∷ outer) t p = omega (
    arith,
    depth-so_far outer t p,
    depth-add u (component (tree_so_far outer t)),
    depth-add u (component (tree_so_far outer (add t p))),
  )

  -- The inner component is as deep as components are open.
  pub depth-outer : (outer : List Tree) (t : Tree) → length outer + 1 ≤ depth_by below (tree_so_far outer t)
  depth-outer [] ends = omega arith
  depth-outer [] (first p t) = omega (arith, depth-outer [] t)
  depth-outer (u ∷ outer) t = omega (arith, depth-outer outer t, depth-add u (component (tree_so_far outer t)))

module _ {A : Type 0} (f : Part → List A) where
  pub own-add : (t : Tree) (p : Part) → own f (add t p) ≡ own f t ++ f p
  own-add ends p = append-nil (f p)
  own-add (first q t) p = ap (λ x. f q ++ x) (own-add t p) ∙ sym (append_assoc (f q) (own f t) (f p))

  pub length-own-add : (t : Tree) (p : Part) → length (own f (add t p)) ≡ length (own f t) + length (f p)
  length-own-add t p = ap length (own-add t p) ∙ length-append (own f t) (f p)

  pub anywhere-add : (t : Tree) (p : Part) → anywhere f (add t p) ≡ anywhere f t ++ anywhere_in f p
  anywhere-add ends p = append-nil (anywhere_in f p)
  anywhere-add (first q t) p = ap (λ x. anywhere_in f q ++ x) (anywhere-add t p) ∙ sym (append_assoc (anywhere_in f q) (anywhere f t) (anywhere_in f p))

  pub length-anywhere-add : (t : Tree) (p : Part) → length (anywhere f (add t p)) ≡ length (anywhere f t) + length (anywhere_in f p)
  length-anywhere-add t p = ap length (anywhere-add t p) ∙ length-append (anywhere f t) (anywhere_in f p)

  -- Whichever component is in a part, it counts alike.
  pub record IsSteady : Type 0 where
    pub same : (a b : Tree) → length (f (component a)) ≡ length (f (component b))

  pub length-anywhere-so_far : IsSteady → (outer : List Tree) (t : Tree) (p : Part)
      → length (anywhere f (tree_so_far outer (add t p))) ≡ length (anywhere f (tree_so_far outer t)) + length (anywhere_in f p)
  length-anywhere-so_far s [] t p = length-anywhere-add t p
  length-anywhere-so_far s (u ∷ outer) t p =
      let x : Tree = tree_so_far outer t in
      let y : Tree = tree_so_far outer (add t p) in
      omega (
        arith,
        length-anywhere-so_far s outer t p,
        length-anywhere-add u (component x),
        length-anywhere-add u (component y),
        length-append (f (component x)) (anywhere f x),
        length-append (f (component y)) (anywhere f y),
        s.same x y,
      )

-- how many functions a part imports, lifts and lowers
abbrev pub functions_in : Part → ℕ
functions_in p = length (imported_functions_in p) + length (canons_in p)

-- none without imports and canonical functions
pub no_functions_in : (p : Part) → imports_in p ≡ [] → canons_in p ≡ [] → functions_in p ≡ 0
no_functions_in p is fs = omega (arith, ap (λ xs. length (flat_map (λ (i : ImportEntry). function_of i.to) xs)) is, ap length fs)

pub function_count-add : (t : Tree) (p : Part) → function_count (add t p) ≡ function_count t + functions_in p
function_count-add t p = omega (arith, length-own-add imported_functions_in t p, length-own-add canons_in t p)

-- a component and the ones inside
abbrev pub all_of : Tree → List Tree
all_of t = t ∷ inside t

-- Which component is inside does not matter to P.
abbrev pub Swaps : (Tree → Type 0) → Type 0
Swaps P = (u a b : Tree) → P (add u (component a)) → P (add u (component b))

-- A fact of each component stays when the inner one grows.
pub all_so_far : (P : Tree → Type 0) → Swaps P → (outer : List Tree) (t : Tree) (p : Part) → P (add t p) → AllByRecursion P (anywhere_in components_in p)
    → AllByRecursion P (all_of (tree_so_far outer t)) → AllByRecursion P (all_of (tree_so_far outer (add t p)))
all_so_far P swap [] t p new ins h = grind (arith, anywhere-add, all_both)
all_so_far P swap (u ∷ outer) t p new ins h =
    let x : Tree = tree_so_far outer t in
    let y : Tree = tree_so_far outer (add t p) in
    let old : AllByRecursion P (inside u ++ (x ∷ inside x)) = subst (AllByRecursion P) (anywhere-add components_in u (component x)) h.1 in (
      swap u x y h.0,
      subst (AllByRecursion P) (sym (anywhere-add components_in u (component y)))
          (all_both P (inside u) (y ∷ inside y) (all_front P (inside u) (x ∷ inside x) old)
          (all_so_far P swap outer t p new ins (all_back P (inside u) (x ∷ inside x) old))),
    )

-- It holds in front of what grew.
pub all_before : (P : Tree → Type 0) → Swaps P → (outer : List Tree) (t : Tree) (p : Part) → (P (add t p) → P t)
    → AllByRecursion P (all_of (tree_so_far outer (add t p))) → AllByRecursion P (all_of (tree_so_far outer t))
all_before P swap [] t p less h = grind (arith, all_front, anywhere-add)
all_before P swap (u ∷ outer) t p less h =
    let x : Tree = tree_so_far outer t in
    let y : Tree = tree_so_far outer (add t p) in
    let old : AllByRecursion P (inside u ++ (y ∷ inside y)) = subst (AllByRecursion P) (anywhere-add components_in u (component y)) h.1 in (
      swap u y x h.0,
      subst (AllByRecursion P) (sym (anywhere-add components_in u (component x)))
          (all_both P (inside u) (x ∷ inside x) (all_front P (inside u) (y ∷ inside y) old)
          (all_before P swap outer t p less (all_back P (inside u) (y ∷ inside y) old))),
    )

-- It holds of the inner component.
pub all_inner : (P : Tree → Type 0) (outer : List Tree) (t : Tree) → AllByRecursion P (all_of (tree_so_far outer t)) → P t
all_inner P [] t h = h.0
all_inner P (u ∷ outer) t h =
    let x : Tree = tree_so_far outer t in
    all_inner P outer t (all_back P (inside u) (x ∷ inside x) (subst (AllByRecursion P) (anywhere-add components_in u (component x)) h.1))

-- the parts of one tree after another's
abbrev pub join : Tree → Tree → Tree
join ends u = u
join (first p t) u = first p (join t u)

pub join-ends : (t : Tree) → join t ends ≡ t
join-ends ends = refl
join-ends (first p t) = ap (first p) (join-ends t)

pub join-add : (a : Tree) (p : Part) (t : Tree) → join (add a p) t ≡ join a (first p t)
join-add ends p t = refl
join-add (first q a) p t = ap (first q) (join-add a p t)

pub formed-add : (t : Tree) (p : Part) (outer : List Scope) (before : Tree) → Formed t outer before → FormedPart p outer (join before t)
    → Formed (add t p) outer before
formed-add ends p outer before f g = (subst (FormedPart p outer) (join-ends before) g, tt)
formed-add (first q t) p outer before f g = (f.0, formed-add t p outer (add before q) f.1 (subst (FormedPart p outer) (sym (join-add before q t)) g))

pub formed_front : (t : Tree) (p : Part) (outer : List Scope) (before : Tree) → Formed (add t p) outer before
    → Formed t outer before × FormedPart p outer (join before t)
formed_front ends p outer before f = (tt, subst (FormedPart p outer) (sym (join-ends before)) f.0)
formed_front (first q t) p outer before f =
    let r = formed_front t p outer (add before q) f.1 in
    ((f.0, r.0), subst (FormedPart p outer) (join-add before q t) r.1)

pub formed_so_far : (stack : List Tree) (outer : List Scope) (t : Tree) (p : Part) → Formed (tree_so_far stack t) outer ends
    → FormedPart p (scopes_from stack outer) t → Formed (tree_so_far stack (add t p)) outer ends
formed_so_far [] outer t p f g = formed-add t p outer ends f g
formed_so_far (u ∷ stack) outer t p f g =
    let r = formed_front u (component (tree_so_far stack t)) outer ends f in
    formed-add u (component (tree_so_far stack (add t p))) outer ends r.0 (formed_so_far stack (scope_of u ∷ outer) t p r.1 g)
