-- Spellings of types with that many levels are spellings of types.
use Rattle.std.proofs.Common.{◌≡◌, ℕ, zero, suc, ◌≤◌, ◌⊎◌, inl, inr, List, [], ◌∷◌, length, None, refl, ap, ◌∙◌, arith, Bool, true}
use Rattle.std.proofs.Common.{false}
use Rattle.std.specs.List.{AllByRecursion}
use Rattle.smith_format.specs.Piece.{Piece, ◌⊕◌, byte, u, each, many}
use Rattle.smith_format.proofs.Piece.{left_none, right_none}
use Rattle.smith_syntax.specs.Entries.{Entry, defined, function, component_type, instance_type}
use Rattle.smith_syntax.specs.Entries.{Decl, Decls, type_decl, no_decls, then_decls}
use Rattle.smith_syntax.specs.Entries.{decl_count}
use Rattle.smith_syntax.specs.Grammar.{entry, decl, decls}
use Rattle.smith_syntax.specs.Nesting.{nesting, decl_nesting, decls_nesting}
use Rattle.smith_read.specs.Levels.{decl_in, decls_in, around, entry_in}

-- there is no first piece, or it is the second
abbrev pub Under : Piece → Piece → Type 0
Under p q = (p ≡ None) ⊎ (p ≡ q)

pub under_then : (p q r s : Piece) → Under p q → Under r s → Under (p ⊕ r) (q ⊕ s)
under_then p q r s (inl e) f = inl (ap (λ x. x ⊕ r) e ∙ left_none r)
under_then p q r s (inr e) (inl f) = inl (ap (λ x. p ⊕ x) f ∙ right_none p)
under_then p q r s (inr e) (inr f) = inr (ap (λ x. x ⊕ r) e ∙ ap (λ x. q ⊕ x) f)

module _ (inner : Entry → Piece) (under : (e : Entry) → Under (inner e) (entry e)) where
  decl_under : (b : Bool) (d : Decl) → Under (decl_in inner b d) (decl b d)
  decl_under b (type_decl e) = under_then (byte 0x01) (byte 0x01) (inner e) (entry e) (inr refl) (under e)
  decl_under b _ = inr refl

  decls_under : (b : Bool) (ds : Decls) → Under (decls_in inner b ds) (decls b ds)
  decls_under b no_decls = inr refl
  decls_under b (then_decls d ds) = under_then (decl_in inner b d) (decl b d) (decls_in inner b ds) (decls b ds) (decl_under b d) (decls_under b ds)

  list_under : (tag : ℕ) (b : Bool) (ds : Decls) → Under (byte tag ⊕ u (decl_count ds) ⊕ decls_in inner b ds) (byte tag ⊕ u (decl_count ds) ⊕ decls b ds)
  list_under tag b ds = under_then (byte tag) (byte tag) _ _ (inr refl) (under_then (u (decl_count ds)) (u (decl_count ds)) _ _ (inr refl) (decls_under b ds))

  around_under : (e : Entry) → Under (around inner e) (entry e)
  around_under (defined t) = inr refl
  around_under (function s) = inr refl
  around_under (component_type ds) = list_under 0x41 true ds
  around_under (instance_type ds) = list_under 0x42 false ds

pub entry_under : (n : ℕ) (e : Entry) → Under (entry_in n e) (entry e)
unfolding entry_in
entry_under zero (defined t) = inr refl
entry_under zero (function s) = inr refl
entry_under zero (component_type ds) = inl refl
entry_under zero (instance_type ds) = inl refl
entry_under (suc n) e = around_under (entry_in n) (λ x. entry_under n x) e

module _ (inner : Entry → Piece) (n : ℕ) (same : (e : Entry) → nesting e ≤ n → inner e ≡ entry e) where
  decl_same : (b : Bool) (d : Decl) → decl_nesting d ≤ n → decl_in inner b d ≡ decl b d
  decl_same b (type_decl e) h = ap (λ p. byte 0x01 ⊕ p) (same e h)
  decl_same b _ h = refl

  decls_same : (b : Bool) (ds : Decls) → decls_nesting ds ≤ n → decls_in inner b ds ≡ decls b ds
  decls_same b no_decls h = refl
  decls_same b (then_decls d ds) h = ap (λ p. p ⊕ decls_in inner b ds) (decl_same b d (omega (arith, h)))
      ∙ ap (λ p. decl b d ⊕ p) (decls_same b ds (omega (arith, h)))

pub entry_same : (n : ℕ) (e : Entry) → nesting e ≤ n → entry_in n e ≡ entry e
unfolding entry_in
entry_same zero (defined t) h = refl
entry_same zero (function s) h = refl
entry_same zero (component_type ds) h = absurd (omega arith)
entry_same zero (instance_type ds) h = absurd (omega arith)
entry_same (suc n) (defined t) h = refl
entry_same (suc n) (function s) h = refl
entry_same (suc n) (component_type ds) h = ap (λ p. byte 0x41 ⊕ u (decl_count ds) ⊕ p)
    (decls_same (entry_in n) n (λ x l. entry_same n x l) true ds (omega (arith, h)))
entry_same (suc n) (instance_type ds) h = ap (λ p. byte 0x42 ⊕ u (decl_count ds) ⊕ p)
    (decls_same (entry_in n) n (λ x l. entry_same n x l) false ds (omega (arith, h)))

-- lists of types, none of which has more levels of types that hold types

abbrev pub NestWithin : ℕ → List Entry → Type 0
NestWithin levels ts = AllByRecursion (λ t. nesting t ≤ levels) ts

pub each_under : (n : ℕ) (ts : List Entry) → Under (each (entry_in n) ts) (each entry ts)
each_under n [] = inr refl
each_under n (t ∷ ts) = under_then (entry_in n t) (entry t) (each (entry_in n) ts) (each entry ts) (entry_under n t) (each_under n ts)

pub many_under : (n : ℕ) (ts : List Entry) → Under (many (entry_in n) ts) (many entry ts)
many_under n ts = under_then (u (length ts)) (u (length ts)) _ _ (inr refl) (each_under n ts)

pub each_same : (n : ℕ) (ts : List Entry) → NestWithin n ts → each (entry_in n) ts ≡ each entry ts
each_same n [] h = refl
each_same n (t ∷ ts) h = ap (λ p. p ⊕ each (entry_in n) ts) (entry_same n t h.0) ∙ ap (λ p. entry t ⊕ p) (each_same n ts h.1)

pub many_same : (n : ℕ) (ts : List Entry) → NestWithin n ts → many (entry_in n) ts ≡ many entry ts
many_same n ts h = ap (λ p. u (length ts) ⊕ p) (each_same n ts h)
