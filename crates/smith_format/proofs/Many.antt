-- Lists: pieces one after another, and loops that put them.
use Rattle.std.proofs.Common.{◌≡◌, ℕ, suc, ◌+◌, ◌<◌, ◌≤◌, List, [], ◌∷◌, ◌++◌, length, map, take, drop, get_or, refl, ap, subst, sym, ◌∙◌, Result, IsErrAnd}
use Rattle.std.proofs.Common.{take_all}
use Rattle.std.proofs.lemmas.List.{take_more, take-append-drop, length-map}
use Rattle.std.proofs.Math.Seq.{drop-cons}
use Rattle.std.specs.declared.vec.Vec.{Vec}
use Rattle.std.specs.declared.alloc.Global.{Global}
use Rattle.smith_input.specs.declared.error.Error.{Error}
use Rattle.smith_format.specs.Piece.{Piece, ◌⊕◌, each, many, u}
use Rattle.smith_format.specs.Writing.{Gains, Begins, IsDue, Puts}
use Rattle.smith_format.proofs.Piece.{assoc, right_nil, left_nil}
use Rattle.smith_format.proofs.Steps.{gains_then, gains_nothing, due_left, due_right, exits, gains_begins}

module _ {A : Type 0} (f : A → Piece) where
  pub each-append : (xs ys : List A) → each f (xs ++ ys) ≡ each f xs ⊕ each f ys
  each-append [] ys = sym (left_nil (each f ys))
  each-append (x ∷ xs) ys = ap (λ p. f x ⊕ p) (each-append xs ys) ∙ sym (assoc (f x) (each f xs) (each f ys))

  -- one more
  pub each_more : (xs : List A) (i : ℕ) (x : A) → i < length xs → x ≡ get_or xs i x → each f (take (i + 1) xs) ≡ each f (take i xs) ⊕ f x
  each_more xs i x h e =
      ap (each f) (take_more xs i x h) ∙ each-append (take i xs) _ ∙ ap (λ q. each f (take i xs) ⊕ q) (right_nil _ ∙ ap f (sym e))

  -- all, split at one of them
  pub each_at : (xs : List A) (i : ℕ) (x : A) → i < length xs → x ≡ get_or xs i x → each f xs ≡ each f (take i xs) ⊕ (f x ⊕ each f (drop (suc i) xs))
  each_at xs i x h e =
      ap (each f) (sym (take-append-drop i xs)) ∙ each-append (take i xs) (drop i xs)
      ∙ ap (λ q. each f (take i xs) ⊕ each f q) (drop-cons xs i x h) ∙ ap (λ q. each f (take i xs) ⊕ (f q ⊕ each f (drop (suc i) xs))) (sym e)

  -- what a loop has put so far
  pub record Put (xs : List A) (i : ℕ) (old new : Vec ℕ Global) : Type 0 where
    pub is : Gains old new (each f (take i xs))

  pub put_none : (xs : List A) (old : Vec ℕ Global) → Put xs 0 old old
  put_none xs old = record { is = gains_nothing }

  pub put_next : (xs : List A) (i : ℕ) (x : A) (a b c : Vec ℕ Global) → Put xs i a b → i < length xs → x ≡ get_or xs i x → Gains b c (f x) → Put xs (i + 1) a c
  put_next xs i x a b c p h e g = record { is = subst (λ (q : Piece). Gains a c q) (sym (each_more xs i x h e)) (gains_then p.is g) }

  pub put_all : (xs : List A) (i : ℕ) (a b : Vec ℕ Global) → Put xs i a b → length xs ≤ i → Gains a b (each f xs)
  put_all xs i a b p h = subst (λ (q : List A). Gains a b (each f q)) (take_all i xs h) p.is

  each_due : (xs : List A) (i : ℕ) (x : A) (e : Error) {a b : Vec ℕ Global} → Put xs i a b → i < length xs → x ≡ get_or xs i x → IsDue e b (f x)
      → IsDue e a (each f xs)
  each_due xs i x e {a} {b} p h is d = subst (λ (q : Piece). IsDue e a q) (sym (each_at xs i x h is)) (due_right p.is (due_left _ d))

  -- the same after a prefix, as the count
  pub front_exit : {T : Type 0} (r : Result T Error) (e : Error) (xs : List A) (i : ℕ) (x : A) {a b c : Vec ℕ Global} {front : Piece} → IsErrAnd r (λ y. y ≡ e)
      → Gains a b front → (h : Vec ℕ Global) → Put xs i b h → i < length xs → x ≡ get_or xs i x → Begins h c × IsDue e h (f x) → Puts r a c (front ⊕ each f xs)
  front_exit r e xs i x is n h p lt at d = exits r e is (gains_begins n (gains_begins p.is d.0)) (due_right n (each_due xs i x e p lt at d.1))

  pub loop_exit : {T : Type 0} (r : Result T Error) (e : Error) (xs : List A) (i : ℕ) (x : A) {a b c : Vec ℕ Global} → IsErrAnd r (λ y. y ≡ e)
      → Gains a b (u (length xs)) → (h : Vec ℕ Global) → Put xs i b h → i < length xs → x ≡ get_or xs i x → Begins h c × IsDue e h (f x)
      → Puts r a c (many f xs)
  loop_exit r e xs i x is n h p lt at d = front_exit r e xs i x is n h p lt at d

  pub loop_done : (xs : List A) (i : ℕ) {a b c : Vec ℕ Global} → Gains a b (u (length xs)) → Put xs i b c → length xs ≤ i → Gains a c (many f xs)
  loop_done xs i n p h = gains_then n (put_all xs i _ _ p h)

module _ {A B : Type 0} (f : B → Piece) (g : A → B) where
  pub each-map : (xs : List A) → each f (map g xs) ≡ each (λ x. f (g x)) xs
  each-map [] = refl
  each-map (x ∷ xs) = ap (λ p. f (g x) ⊕ p) (each-map xs)

  pub many-map : (xs : List A) → many f (map g xs) ≡ many (λ x. f (g x)) xs
  many-map xs = ap (λ n. u n ⊕ each f (map g xs)) (length-map xs g) ∙ ap (λ p. u (length xs) ⊕ p) (each-map xs)
