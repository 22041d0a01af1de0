-- What is spelled within levels is no deeper than these.
use Rattle.std.proofs.Common.{◌≡◌, ℕ, zero, suc, ◌≤◌, List, [], ◌∷◌, length, None, Some, Bool, true, false, refl, arith}
use Rattle.smith_format.specs.Piece.{Piece, ◌⊕◌, byte, bytes, u, each, framed, many}
use Rattle.smith_format.proofs.Piece.{parts_are}
use Rattle.smith_syntax.specs.Entries.{Entry, defined, function, component_type, instance_type}
use Rattle.smith_syntax.specs.Entries.{Decl, Decls, type_decl, no_decls, then_decls}
use Rattle.smith_syntax.specs.Entries.{decl_count}
use Rattle.smith_syntax.specs.Nesting.{nesting, decl_nesting, decls_nesting}
use Rattle.smith_tree.specs.Depths.{scope_depth, scope_depth_in}
use Rattle.smith_tree.specs.Grammar.{preamble}
use Rattle.smith_tree.specs.Tree.{Part, Tree, ends, first, component, types, most}
use Rattle.smith_read.specs.Levels.{decl_in, decls_in, around, entry_in}
use Rattle.smith_read.specs.Parts.{component_at, part_in, parts_in, component_in}
use Rattle.smith_read.proofs.TellingParts.{tells_component}

-- ---- types

module _ (n : ℕ) (inner : Entry → Piece) (within : (e : Entry) (b : List ℕ) → inner e ≡ Some b → nesting e ≤ n) where
  decl_shallow : (importing : Bool) (d : Decl) (b : List ℕ) → decl_in inner importing d ≡ Some b → decl_nesting d ≤ n
  decl_shallow importing (type_decl t) b e = let p = parts_are (byte 0x01) (inner t) b e in within t p.right p.q_is
  decl_shallow importing _ b e = omega arith

  decls_shallow : (importing : Bool) (ds : Decls) (b : List ℕ) → decls_in inner importing ds ≡ Some b → decls_nesting ds ≤ n
  decls_shallow importing no_decls b e = omega arith
  decls_shallow importing (then_decls d ds) b e =
      let p = parts_are (decl_in inner importing d) (decls_in inner importing ds) b e in
      omega (arith, decl_shallow importing d p.left p.p_is, decls_shallow importing ds p.right p.q_is)

  list_shallow : (tag : ℕ) (importing : Bool) (ds : Decls) (b : List ℕ) → byte tag ⊕ u (decl_count ds) ⊕ decls_in inner importing ds ≡ Some b
      → decls_nesting ds ≤ n
  list_shallow tag importing ds b e =
      let p = parts_are (byte tag) (u (decl_count ds) ⊕ decls_in inner importing ds) b e in
      let q = parts_are (u (decl_count ds)) (decls_in inner importing ds) p.right p.q_is in
      decls_shallow importing ds q.right q.q_is

  around_shallow : (e : Entry) (b : List ℕ) → around inner e ≡ Some b → nesting e ≤ suc n
  around_shallow (defined t) b e = omega arith
  around_shallow (function s) b e = omega arith
  around_shallow (component_type ds) b e = omega (arith, list_shallow 0x41 true ds b e)
  around_shallow (instance_type ds) b e = omega (arith, list_shallow 0x42 false ds b e)

entry_shallow : (n : ℕ) (e : Entry) (b : List ℕ) → entry_in n e ≡ Some b → nesting e ≤ n
unfolding entry_in
entry_shallow zero (defined t) b s = omega arith
entry_shallow zero (function f) b s = omega arith
entry_shallow zero (component_type ds) b s = absurd cc
entry_shallow zero (instance_type ds) b s = absurd cc
entry_shallow (suc n) e b s = around_shallow n (entry_in n) (λ x c h. entry_shallow n x c h) e b s

each_shallow : (n : ℕ) (ts : List Entry) (b : List ℕ) → each (entry_in n) ts ≡ Some b → most nesting ts ≤ n
each_shallow n [] b s = omega arith
each_shallow n (t ∷ ts) b s =
    let p = parts_are (entry_in n t) (each (entry_in n) ts) b s in
    omega (arith, entry_shallow n t p.left p.p_is, each_shallow n ts p.right p.q_is)

many_shallow : (n : ℕ) (ts : List Entry) (b : List ℕ) → many (entry_in n) ts ≡ Some b → most nesting ts ≤ n
many_shallow n ts b s = let p = parts_are (u (length ts)) (each (entry_in n) ts) b s in each_shallow n ts p.right p.q_is

-- ---- components

framed_some : (p : Piece) (b : List ℕ) → framed p ≡ Some b → (c : List ℕ) × (p ≡ Some c)
unfolding framed
framed_some None b e = absurd cc
framed_some (Some c) b e = (c, refl)

sized_some : (id : ℕ) (p : Piece) (b : List ℕ) → byte id ⊕ framed p ≡ Some b → (c : List ℕ) × (p ≡ Some c)
sized_some id p b e = let q = parts_are (byte id) (framed p) b e in framed_some p q.right q.q_is

module _ (n : ℕ) (inner : Tree → Piece) (within : (t : Tree) (b : List ℕ) → inner t ≡ Some b → scope_depth t ≤ n) where
  part_shallow : (p : Part) (b : List ℕ) → part_in n inner p ≡ Some b → scope_depth_in p ≤ suc n
  part_shallow (component t) b e = let c = sized_some 4 (inner t) b e in omega (arith, within t c.0 c.1)
  part_shallow (types ts) b e = let c = sized_some 7 (many (entry_in n) ts) b e in omega (arith, many_shallow n ts c.0 c.1)
  part_shallow _ b e = omega arith

  parts_shallow : (t : Tree) (b : List ℕ) → parts_in n inner t ≡ Some b → scope_depth t ≤ suc n
  parts_shallow ends b e = omega arith
  parts_shallow (first p t) b e =
      let q = parts_are (part_in n inner p) (parts_in n inner t) b e in
      omega (arith, part_shallow p q.left q.p_is, parts_shallow t q.right q.q_is)

component_shallow : (n : ℕ) (t : Tree) (b : List ℕ) → component_in n t ≡ Some b → scope_depth t ≤ n
unfolding component_in
component_shallow zero t b e = absurd cc
component_shallow (suc n) t b e =
    let q = parts_are (bytes preamble) (parts_in n (component_in n) t) b e in
    parts_shallow n (component_in n) (λ u c h. component_shallow n u c h) t q.right q.q_is

-- What is read within levels is no deeper.
pub found_shallow : (n : ℕ) (b : List ℕ) (t : Tree) → component_at n b ≡ Some t → scope_depth t ≤ n
found_shallow n b t e = component_shallow n t b ((tells_component n).sound b t e)
