-- How lists of lines in parentheses are told apart.
use Rattle.std.proofs.Common.{◌≡◌, ℕ, zero, suc, ◌⊎◌, inl, inr, List, [], ◌∷◌, ◌++◌, length, drop, get_or, refl, ap, sym, ◌∙◌, append_assoc, arith}
use Rattle.std.proofs.lemmas.Bool.{ne_eqb}
use Rattle.std.proofs.lemmas.List.{append_cancel_left}
use Rattle.std.specs.List.{AllByRecursion}
use Rattle.std.specs.Prelude.{replicate, ◌==◌, false}
use Rattle.smith_print.specs.Lines.{closed, lines}
use Rattle.smith_print.specs.Words.{deeper, line}
use Rattle.smith_print.specs.declared.spaces.IndexSpaces.{IndexSpaces}
use Rattle.smith_print.proofs.Told.{Anything, Told, close, past}

-- lines, or nothing
abbrev pub AreLines : List ℕ → Type 0
AreLines k = (k ≡ []) ⊎ ((l : List ℕ) × (k ≡ 10 ∷ l))

-- the closing parenthesis on a line of its own, and what follows it
abbrev pub ending : ℕ → List ℕ → List ℕ
ending columns x = line columns ++ (41 ∷ x)

pub not_empty : {A : Type 0} (a : A) (xs : List A) → (length (a ∷ xs) == 0) ≡ false
not_empty a xs = ne_eqb (length (a ∷ xs)) 0 (λ e. omega (arith, e))

closed_some : (columns : ℕ) (l x : List ℕ) → closed columns (10 ∷ l) ++ x ≡ (10 ∷ l) ++ ending columns x
closed_some columns l x =
    let is : closed columns (10 ∷ l) ≡ (10 ∷ l) ++ (line columns ++ close) = rw (not_empty 10 l) refl in
    ap (λ k. k ++ x) is ∙ append_assoc (10 ∷ l) (line columns ++ close) x ∙ ap (λ k. (10 ∷ l) ++ k) (append_assoc (line columns) close x)

pub closed_law : (columns : ℕ) (k l x y : List ℕ) → AreLines k → AreLines l → closed columns k ++ x ≡ closed columns l ++ y
    → k ++ ending columns x ≡ l ++ ending columns y
closed_law columns k l x y p q e = by_case p q
  where
    both_empty : k ≡ [] → l ≡ [] → k ++ ending columns x ≡ l ++ ending columns y
    both_empty a b =
        let z : 41 ∷ x ≡ 41 ∷ y = ap (λ m. closed columns m ++ x) (sym a) ∙ e ∙ ap (λ m. closed columns m ++ y) b in
        ap (λ m. m ++ ending columns x) a ∙ ap (λ m. line columns ++ m) z ∙ ap (λ m. m ++ ending columns y) (sym b)

    one_empty : (k l : List ℕ) (x y : List ℕ) → k ≡ [] → (m : List ℕ) × (l ≡ 10 ∷ m) → closed columns k ++ x ≡ closed columns l ++ y → ⊥
    one_empty k l x y a b h =
        let z : 41 ∷ x ≡ 10 ∷ (b.0 ++ ending columns y) =
        ap (λ m. closed columns m ++ x) (sym a) ∙ h ∙ ap (λ m. closed columns m ++ y) b.1 ∙ closed_some columns b.0 y in
        absurd (omega (arith, ap (λ m. get_or m 0 0) z))

    neither_empty : (m : List ℕ) × (k ≡ 10 ∷ m) → (m : List ℕ) × (l ≡ 10 ∷ m) → k ++ ending columns x ≡ l ++ ending columns y
    neither_empty a b =
        ap (λ m. m ++ ending columns x) a.1 ∙ sym (closed_some columns a.0 x) ∙ ap (λ m. closed columns m ++ x) (sym a.1) ∙ e
        ∙ ap (λ m. closed columns m ++ y) b.1 ∙ closed_some columns b.0 y ∙ ap (λ m. m ++ ending columns y) (sym b.1)

    by_case : AreLines k → AreLines l → k ++ ending columns x ≡ l ++ ending columns y
    by_case (inl a) (inl b) = both_empty a b
    by_case (inl a) (inr b) = absurd (one_empty k l x y a b e)
    by_case (inr a) (inl b) = absurd (one_empty l k y x b a (sym e))
    by_case (inr a) (inr b) = neither_empty a b

indents : (m n : ℕ) (x y : List ℕ) → replicate m 32 ++ (41 ∷ x) ≡ replicate n 32 ++ (40 ∷ y) → ⊥
indents zero zero x y e = absurd (omega (arith, ap (λ l. get_or l 0 0) e))
indents zero (suc n) x y e = absurd (omega (arith, ap (λ l. get_or l 0 0) e))
indents (suc m) zero x y e = absurd (omega (arith, ap (λ l. get_or l 0 0) e))
indents (suc m) (suc n) x y e = indents m n x y (ap (drop 1) e)

-- The last line begins as no other does.
pub ends_here : (m n : ℕ) (x y : List ℕ) → ending m x ≡ line n ++ (40 ∷ y) → ⊥
ends_here m n x y e = indents m n x y (ap (drop 1) e)

-- So no line is the last, whatever text follows it.
pub goes_on : (m n : ℕ) (a k more x y : List ℕ) → a ≡ 40 ∷ k → ending m x ≡ (line n ++ (a ++ more)) ++ y → ⊥
goes_on m n a k more x y opens e =
    ends_here m n x ((k ++ more) ++ y) (e ∙ append_assoc (line n) (a ++ more) y ∙ ap (λ l. line n ++ ((l ++ more) ++ y)) opens)

-- Equal texts are equal behind the indent of their first line.
pub next_line : (columns : ℕ) (a b k l x y : List ℕ) → (line columns ++ (a ++ k)) ++ x ≡ (line columns ++ (b ++ l)) ++ y → a ++ (k ++ x) ≡ b ++ (l ++ y)
next_line columns a b k l x y e =
    sym (append_assoc a k x) ∙ past (line columns) (a ++ k) (b ++ l) x y e ∙ append_assoc b l y

-- lines one level in
pub nested_law : (word : List ℕ) (columns : ℕ) (k l x y : List ℕ) → AreLines k → AreLines l
    → (line (deeper columns) ++ (word ++ (closed (deeper columns) k ++ line columns))) ++ x
    ≡ (line (deeper columns) ++ (word ++ (closed (deeper columns) l ++ line columns))) ++ y
    → k ++ ending (deeper columns) (line columns ++ x) ≡ l ++ ending (deeper columns) (line columns ++ y)
nested_law word columns k l x y p q e =
    let d = deeper columns in
    let first = past (line d) (word ++ (closed d k ++ line columns)) (word ++ (closed d l ++ line columns)) x y e in
    closed_law d k l (line columns ++ x) (line columns ++ y) p q
    (sym (append_assoc (closed d k) (line columns) x) ∙ past word (closed d k ++ line columns) (closed d l ++ line columns) x y first
    ∙ append_assoc (closed d l) (line columns) y)

pub same_ending : (columns : ℕ) (x y : List ℕ) → ending columns x ≡ ending columns y → x ≡ y
same_ending columns x y e = append_cancel_left (41 ∷ []) x y (append_cancel_left (line columns) (41 ∷ x) (41 ∷ y) e)

-- Entries, each on a line of its own that begins with the same characters, before something that begins with no such line.
module _ {A : Type 0} {Good : A → Type 0} (f : A → ℕ → IndexSpaces → List ℕ) (g : A → IndexSpaces → IndexSpaces) (c : ℕ) (front : List ℕ)
    (t : (s : IndexSpaces) → Told Good Anything (λ a. f a c s)) (opens : (a : A) (s : IndexSpaces) → (k : List ℕ) × (f a c s ≡ front ++ k)) where
  abbrev pub Over : List ℕ → Type 0
  Over x = (k : List ℕ) → x ≡ line c ++ (front ++ k) → ⊥

  one_more : (b : A) (ys : List A) (s : IndexSpaces) (x y : List ℕ) → Over x → x ≡ lines f g c s (b ∷ ys) ++ y → ⊥
  one_more b ys s x y over e =
      let o = opens b s in
      let more = lines f g c (g b s) ys in
      over ((o.0 ++ more) ++ y)
      (e ∙ append_assoc (line c) (f b c s ++ more) y ∙ ap (λ k. line c ++ ((k ++ more) ++ y)) o.1
      ∙ ap (λ k. line c ++ k) (append_assoc (front ++ o.0) more y ∙ append_assoc front o.0 (more ++ y) ∙ ap (λ k. front ++ k) (sym (append_assoc o.0 more y))))

  pub lines_law : (xs ys : List A) (s : IndexSpaces) (x y : List ℕ) → AllByRecursion Good xs → AllByRecursion Good ys → Over x → Over y
      → lines f g c s xs ++ x ≡ lines f g c s ys ++ y → (xs ≡ ys) × (x ≡ y)
  lines_law [] [] s x y p q n m e = (refl, e)
  lines_law [] (b ∷ ys) s x y p q n m e = absurd (one_more b ys s x y n e)
  lines_law (a ∷ xs) [] s x y p q n m e = absurd (one_more a xs s y x m (sym e))
  lines_law (a ∷ xs) (b ∷ ys) s x y p q n m e =
      let r = (t s).law a b (lines f g c (g a s) xs ++ x) (lines f g c (g b s) ys ++ y) p.0 q.0 tt tt
      (next_line c (f a c s) (f b c s) (lines f g c (g a s) xs) (lines f g c (g b s) ys) x y e) in
      let z = lines_law xs ys (g a s) x y p.1 q.1 n m (r.1 ∙ ap (λ k. lines f g c (g k s) ys ++ y) (sym r.0)) in
      (λ i. r.0 i ∷ z.0 i, z.1)

  pub are_lines : (xs : List A) (s : IndexSpaces) → AreLines (lines f g c s xs)
  are_lines [] s = inl refl
  are_lines (x ∷ xs) s = inr (_, refl)
