-- The offsets of all items are those of one item after another.
use Rattle.std.proofs.Common.{◌≡◌, ℕ, zero, suc, ◌+◌, ◌-◌, ◌<◌, ◌≤◌, List, [], ◌∷◌, ◌++◌, length, take, get_or, Option, Some, None, option_map}
use Rattle.std.proofs.Common.{refl, ap, sym, ◌∙◌, arith, Bool, true, false, cond, nat_lt}
use Rattle.std.proofs.Math.ListN.{get_or-append}
use Rattle.std.proofs.Math.Seq.{get_or-append_right}
use Rattle.std.proofs.lemmas.Bool.{le-ltb, lt-ltb, ltb-false, ltb-true}
use Rattle.std.proofs.lemmas.List.{length-append}
use Rattle.smith_format.specs.Piece.{Piece, ◌⊕◌, bytes, each, many, u}
use Rattle.smith_format.specs.Writing.{piece_length}
use Rattle.smith_format.proofs.Piece.{parts_are}
use Rattle.smith_syntax.specs.Grammar.{core_entry, entry, import_entry}
use Rattle.smith_tree.specs.Grammar.{Spells, canon, export_entry, part, parts, preamble}
use Rattle.smith_tree.specs.Tree.{Part, Tree, canons, component, core_module, core_types, custom, ends, exports, first, imports, types}
use Rattle.smith_read.specs.Items.{items, items_in}
use Rattle.smith_read.specs.Places.{contents_in, front, front_in, id_of, list_before, offset_in, opened, sole_before}
use Rattle.smith_read.proofs.Places.{first_holds, opened_is, passed_by, prefixed}
use Rattle.smith_print.specs.Offsets.{contents_at, each_at, head_length, many_at, offsets_of, parts_at}

-- as many offsets, each as f says
pub record Right (count : ℕ) (f : ℕ → Option ℕ) (os : List ℕ) : Type 0 where
  pub long : length os ≡ count
  pub each : (n : ℕ) → n < count → f n ≡ Some (get_or os n 0)

-- the offset of what is behind a piece that begins at an offset
abbrev behind : ℕ → Piece → Option ℕ
behind at p = option_map (λ (y : List ℕ). at + length y) p

behind_more : (at : ℕ) (head : List ℕ) (q : Piece) → behind at (option_map (λ y. head ++ y) q) ≡ behind (at + length head) q
behind_more at head None = refl
behind_more at head (Some y) = ap Some (omega (arith, length-append head y))

right_as : (count : ℕ) (f g : ℕ → Option ℕ) (os : List ℕ) → ((n : ℕ) → n < count → g n ≡ f n) → Right count f os → Right count g os
right_as count f g os same r = record { long = r.long; each = λ n low. same n low ∙ r.each n low }

right_cons : (count o : ℕ) (f g : ℕ → Option ℕ) (os : List ℕ) → Right count f os → g 0 ≡ Some o → ((n : ℕ) → g (suc n) ≡ f n) → Right (suc count) g (o ∷ os)
right_cons count o f g os r lead more = record { long = ap suc r.long; each = at }
  where
    at : (n : ℕ) → n < suc count → g n ≡ Some (get_or (o ∷ os) n 0)
    at zero low = lead
    at (suc n) low = more n ∙ r.each n (omega (arith, low))

right_join : (c d : ℕ) (f g h : ℕ → Option ℕ) (os ps : List ℕ) → Right c f os → Right d g ps → ((n : ℕ) → n < c → h n ≡ f n)
    → ((n : ℕ) → c ≤ n → h n ≡ g (n - c)) → Right (c + d) h (os ++ ps)
right_join c d f g h os ps r s inside past = record {
  long = omega (arith, length-append os ps, r.long, s.long);
  each = λ n low. by_test n low (nat_lt n c) refl;
}
  where
    by_test : (n : ℕ) → n < c + d → (t : Bool) → nat_lt n c ≡ t → h n ≡ Some (get_or (os ++ ps) n 0)
    by_test n low true e =
        let l : n < c = omega (arith, ltb-true n c e) in
        inside n l ∙ r.each n l ∙ ap Some (sym (get_or-append os ps 0 n (omega (arith, l, r.long))))
    by_test n low false e =
        let l : c ≤ n = omega (arith, ltb-false n c e) in
        past n l ∙ s.each (n - c) (omega (arith, l, low)) ∙ ap (λ k. Some (get_or ps (n - k) 0)) (sym r.long)
        ∙ ap Some (sym (get_or-append_right os ps n 0 (omega (arith, l, r.long))))

-- entries one after another

each_right : {A : Type 0} (f : A → Piece) (at : ℕ) (xs : List A) (b : List ℕ) → each f xs ≡ Some b
    → Right (length xs) (λ n. behind at (each f (take n xs))) (each_at f at xs)
each_right f at [] b e = record { long = refl; each = λ n low. absurd (omega (arith, low)) }
each_right f at (x ∷ xs) b e =
    let s = parts_are (f x) (each f xs) b e in
    right_cons (length xs) at (λ n. behind (at + piece_length (f x)) (each f (take n xs))) (λ n. behind at (each f (take n (x ∷ xs))))
    (each_at f (at + piece_length (f x)) xs) (each_right f (at + piece_length (f x)) xs s.right s.q_is) (ap Some (omega arith))
    (λ n. ap (λ q. behind at (q ⊕ each f (take n xs))) s.p_is ∙ ap (behind at) (prefixed s.left (each f (take n xs)))
    ∙ behind_more at s.left (each f (take n xs)) ∙ ap (λ k. behind (at + k) (each f (take n xs))) (sym (ap piece_length s.p_is)))

many_right : {A : Type 0} (f : A → Piece) (at : ℕ) (xs : List A) (b : List ℕ) → many f xs ≡ Some b
    → Right (length xs) (λ n. behind at (list_before f xs n)) (many_at f at xs)
many_right f at xs b e =
    let s = parts_are (u (length xs)) (each f xs) b e in
    let size = piece_length (u (length xs)) in
    right_as (length xs) (λ n. behind (at + size) (each f (take n xs))) (λ n. behind at (list_before f xs n)) (many_at f at xs)
    (λ n low. ap (λ t. behind at (cond t (u (length xs) ⊕ each f (take n xs)) None)) (lt-ltb n (length xs) low)
    ∙ ap (λ q. behind at (q ⊕ each f (take n xs))) s.p_is ∙ ap (behind at) (prefixed s.left (each f (take n xs)))
    ∙ behind_more at s.left (each f (take n xs)) ∙ ap (λ k. behind (at + k) (each f (take n xs))) (sym (ap piece_length s.p_is)))
    (each_right f (at + size) xs s.right s.q_is)

-- what is one item
sole_right : (at : ℕ) → Right 1 (λ n. behind at (sole_before n)) (at ∷ [])
sole_right at = right_cons 0 at (λ n. behind at None) (λ n. behind at (sole_before n)) [] (record { long = refl; each = λ n low. absurd (omega (arith, low)) })
    (ap Some (omega arith)) (λ n. refl)

-- sections

into_preamble : (at : ℕ) (q : Piece) → behind at (bytes preamble ⊕ q) ≡ behind (at + length preamble) q
into_preamble at q = ap (behind at) (prefixed preamble q) ∙ behind_more at preamble q

mutual
  part_right : (p : Part) (at : ℕ) (b : List ℕ) → contents_in p ≡ Some b → Right (items_in p) (λ n. behind at (front_in n p)) (contents_at at p)
  part_right (custom name contents) at b e = sole_right at
  part_right (core_module bs) at b e = sole_right at
  part_right (core_types ts) at b e = many_right core_entry at ts b e
  part_right (component t) at b e =
      let s = parts_are (bytes preamble) (parts t) b e in
      right_cons (items t) at (λ n. behind (at + length preamble) (front n t)) (λ n. behind at (front_in n (component t))) (parts_at (at + length preamble) t)
      (tree_right t (at + length preamble) s.right s.q_is) (ap Some (omega arith)) (λ n. into_preamble at (front n t))
  part_right (types ts) at b e = many_right entry at ts b e
  part_right (canons fs) at b e = many_right canon at fs b e
  part_right (imports is) at b e = many_right import_entry at is b e
  part_right (exports es) at b e = many_right export_entry at es b e

  tree_right : (t : Tree) (at : ℕ) (b : List ℕ) → parts t ≡ Some b → Right (items t) (λ n. behind at (front n t)) (parts_at at t)
  tree_right ends at b e = record { long = refl; each = λ n low. absurd (omega (arith, low)) }
  tree_right (first p t) at b e =
      let s = first_holds p (parts t) b e in
      let h = s.2 in
      let q = parts_are (part p) (parts t) b e in
      let head : head_length p ≡ length (id_of p ∷ h.size) =
      ap (λ x. 1 + piece_length (u (piece_length x))) h.is ∙ ap (λ x. 1 + piece_length x) h.size_is ∙ omega arith in
      right_join (items_in p) (items t) (λ n. behind (at + head_length p) (front_in n p)) (λ n. behind (at + piece_length (part p)) (front n t))
      (λ n. behind at (front n (first p t))) (contents_at (at + head_length p) p) (parts_at (at + piece_length (part p)) t)
      (part_right p (at + head_length p) h.contents h.is) (tree_right t (at + piece_length (part p)) q.right q.q_is)
      (λ n low. ap (λ o. behind at (cond o (opened (front_in n p) p) (part p ⊕ front (n - items_in p) t))) (lt-ltb n (items_in p) low)
      ∙ ap (behind at) (opened_is p b s.0 h (front_in n p)) ∙ behind_more at (id_of p ∷ h.size) (front_in n p)
      ∙ ap (λ k. behind (at + k) (front_in n p)) (sym head))
      (λ n low. ap (λ o. behind at (cond o (opened (front_in n p) p) (part p ⊕ front (n - items_in p) t))) (le-ltb n (items_in p) low)
      ∙ ap (behind at) (passed_by p (front (n - items_in p) t) q.left q.p_is) ∙ behind_more at q.left (front (n - items_in p) t)
      ∙ ap (λ k. behind (at + k) (front (n - items_in p) t)) (sym (ap piece_length q.p_is)))

length_is : (q : Piece) → option_map length q ≡ behind 0 q
length_is None = refl
length_is (Some y) = ap Some (omega arith)

pub offsets_are : (t : Tree) (b : List ℕ) → Spells t b
    → (length (offsets_of t) ≡ items t) × ((n : ℕ) → n < items t → offset_in n t ≡ Some (get_or (offsets_of t) n 0))
offsets_are t b spells =
    let s = parts_are (bytes preamble) (parts t) b spells in
    let r = tree_right t (length preamble) s.right s.q_is in
    (r.long, λ n low. length_is (bytes preamble ⊕ front n t) ∙ into_preamble 0 (front n t) ∙ r.each n low)
