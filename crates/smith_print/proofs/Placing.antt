-- Offsets that are added one after another.
use Rattle.std.proofs.Common.{◌≡◌, ℕ, ◌+◌, ◌-◌, ◌<◌, ◌≤◌, List, [], ◌∷◌, ◌++◌, length, map, drop, get_or, Some, Result, Ok, Err, refl, ap, sym, ◌∙◌}
use Rattle.std.proofs.Common.{append_assoc, append-nil, arith, subst}
use Rattle.std.proofs.lemmas.List.{length-append, length-map}
use Rattle.std.proofs.lemmas.Option.{same_Some}
use Rattle.std.specs.Borrow.{Bor}
use Rattle.std.specs.Prelude.{IfOk}
use Rattle.smith_input.proofs.Rests.{drop_past, rest_at}
use Rattle.smith_format.specs.Piece.{Piece, ◌⊕◌, bytes, each, many, u}
use Rattle.smith_format.specs.Writing.{piece_length}
use Rattle.smith_format.proofs.Many.{many-map}
use Rattle.smith_format.proofs.Piece.{joined, left_nil, parts_are}
use Rattle.smith_tree.specs.Grammar.{component_text, part, parts, preamble}
use Rattle.smith_tree.specs.Tree.{Part}
use Rattle.smith_read.specs.PartNodes.{shown_part_node}
use Rattle.smith_read.specs.Places.{contents_in, id_of}
use Rattle.smith_read.specs.Reading.{byte_at, u_at}
use Rattle.smith_read.specs.declared.nodes.PartNode.{PartNode}
use Rattle.smith_read.specs.declared.unread.Unread.{Unread}
use Rattle.smith_read.proofs.Places.{first_holds}
use Rattle.smith_read.proofs.Telling.{parted, tells_u}
use Rattle.smith_print.proofs.Sections.{held}
use Rattle.smith_print.specs.Offsets.{contents_at, each_at, head_length, many_at, parts_at}
use Rattle.smith_print.specs.Passing.{Places}

pub longer : (p : Piece) (b rest : List ℕ) → p ⊕ Some rest ≡ Some b → length b ≡ piece_length p + length rest
longer p b rest e =
    let s = parts_are p (Some rest) b e in
    omega (arith, ap length s.is, length-append s.left s.right, ap piece_length s.p_is, ap length (same_Some rest s.right s.q_is))

-- ---- entries of a list

module _ {A : Type 0} (f : A → Piece) (total : ℕ) where
  -- What is left of the bytes begins with the entries from i on; what was added, and then their offsets, is what was there and then all offsets.
  pub record Reached (xs : List A) (i : ℕ) (b r old new rest : List ℕ) : Type 0 where
    pub spelled : each f (drop i xs) ⊕ Some rest ≡ Some r
    pub fits : length r ≤ total
    pub is : new ++ each_at f (total - length r) (drop i xs) ≡ old ++ each_at f (total - length b) xs

  abbrev pub Reaching : List A → ℕ → List ℕ → List ℕ → List ℕ → List ℕ → Type 0
  Reaching xs i b r old new = (rest : List ℕ) → each f xs ⊕ Some rest ≡ Some b → length b ≤ total → Reached xs i b r old new rest

  pub reaching_first : (xs : List A) (b old : List ℕ) → Reaching xs 0 b b old old
  reaching_first xs b old = λ rest e low. record { spelled = e; fits = low; is = refl }

  pub reaching_next : (xs : List A) (i : ℕ) (x : A) (b r next old new more : List ℕ) → Reaching xs i b r old new → i < length xs → x ≡ get_or xs i x
      → more ≡ new ++ (total - length r) ∷ [] → ((rest : List ℕ) → f x ⊕ Some rest ≡ Some r → next ≡ rest) → Reaching xs (i + 1) b next old more
  reaching_next xs i x b r next old new more h low at added step = λ rest e fits.
      let ys = drop (i + 1) xs in
      let g = h rest e fits in
      let front : drop i xs ≡ x ∷ ys = rest_at xs i x low at in
      let s = parted (f x) (each f ys) r rest (sym (ap (λ zs. each f zs ⊕ Some rest) front) ∙ g.spelled) in
      let same : next ≡ s.mid = step s.mid s.front in
      let long : length r ≡ piece_length (f x) + length s.mid = longer (f x) r s.mid s.front in
      let there : total - length r + piece_length (f x) ≡ total - length next = omega (arith, long, ap length same, g.fits) in
      record {
        spelled = s.back ∙ ap Some (sym same);
        fits = omega (arith, long, ap length same, g.fits);
        is = ap (λ z. z ++ each_at f (total - length next) ys) added ∙ append_assoc new ((total - length r) ∷ []) (each_at f (total - length next) ys)
            ∙ ap (λ n. new ++ ((total - length r) ∷ each_at f n ys)) (sym there) ∙ sym (ap (λ zs. new ++ each_at f (total - length r) zs) front) ∙ g.is;
      }

  reaching_last : (xs : List A) (i : ℕ) (b r old new : List ℕ) → Reaching xs i b r old new → length xs ≤ i → (rest : List ℕ) → each f xs ⊕ Some rest ≡ Some b
      → length b ≤ total → (r ≡ rest) × (new ≡ old ++ each_at f (total - length b) xs)
  reaching_last xs i b r old new h past rest e fits =
      let g = h rest e fits in
      let none : drop i xs ≡ [] = drop_past xs i past in (
        same_Some r rest (sym g.spelled ∙ ap (λ ys. each f ys ⊕ Some rest) none ∙ left_nil (Some rest)),
        sym (append-nil new) ∙ ap (λ ys. new ++ each_at f (total - length r) ys) (sym none) ∙ g.is,
      )

  -- behind their count
  pub reaching_done : (xs : List A) (i : ℕ) (b first r old new : List ℕ) → Reaching xs i first r old new → length xs ≤ i
      → ((rest : List ℕ) → u (length xs) ⊕ Some rest ≡ Some b → first ≡ rest) → (rest : List ℕ) → many f xs ⊕ Some rest ≡ Some b → length b ≤ total
      → (r ≡ rest) × (new ≡ old ++ many_at f (total - length b) xs)
  reaching_done xs i b first r old new h past counted rest e fits =
      let s = parted (u (length xs)) (each f xs) b rest e in
      let same : first ≡ s.mid = counted s.mid s.front in
      let long : length b ≡ piece_length (u (length xs)) + length s.mid = longer (u (length xs)) b s.mid s.front in
      let there : total - length first ≡ total - length b + piece_length (u (length xs)) = omega (arith, long, ap length same, fits) in
      let g = reaching_last xs i first r old new h past rest (s.back ∙ ap Some (sym same)) (omega (arith, long, ap length same, fits)) in
      (g.0, g.1 ∙ ap (λ n. old ++ each_at f n xs) there)

-- ---- sections of a component

module _ (total : ℕ) where
  pub record PartsReached (ns : List PartNode) (i : ℕ) (b r old new rest : List ℕ) : Type 0 where
    pub spelled : parts (held (drop i ns)) ⊕ Some rest ≡ Some r
    pub fits : length r ≤ total
    pub is : new ++ parts_at (total - length r) (held (drop i ns)) ≡ old ++ parts_at (total - length b) (held ns)

  abbrev pub PartsReaching : List PartNode → ℕ → List ℕ → List ℕ → List ℕ → List ℕ → Type 0
  PartsReaching ns i b r old new = (rest : List ℕ) → parts (held ns) ⊕ Some rest ≡ Some b → length b ≤ total → PartsReached ns i b r old new rest

  pub parts_first : (ns : List PartNode) (b old : List ℕ) → PartsReaching ns 0 b b old old
  parts_first ns b old = λ rest e low. record { spelled = e; fits = low; is = refl }

  pub parts_next : (ns : List PartNode) (i : ℕ) (n : PartNode) (b r next old new more : List ℕ) → PartsReaching ns i b r old new
      → i < length ns → n ≡ get_or ns i n
      → ((rest : List ℕ) → part (shown_part_node n) ⊕ Some rest ≡ Some r → length r ≤ total
      → (next ≡ rest) × (more ≡ new ++ contents_at (total - length r + head_length (shown_part_node n)) (shown_part_node n)))
      → PartsReaching ns (i + 1) b next old more
  parts_next ns i n b r next old new more h low at step = λ rest e fits.
      let ms = drop (i + 1) ns in
      let p = shown_part_node n in
      let g = h rest e fits in
      let front : drop i ns ≡ n ∷ ms = rest_at ns i n low at in
      let s = parted (part p) (parts (held ms)) r rest (sym (ap (λ zs. parts (held zs) ⊕ Some rest) front) ∙ g.spelled) in
      let t = step s.mid s.front g.fits in
      let long : length r ≡ piece_length (part p) + length s.mid = longer (part p) r s.mid s.front in
      let there : total - length r + piece_length (part p) ≡ total - length next = omega (arith, long, ap length t.0, g.fits) in
      let own = contents_at (total - length r + head_length p) p in
      record {
        spelled = s.back ∙ ap Some (sym t.0);
        fits = omega (arith, long, ap length t.0, g.fits);
        is = ap (λ z. z ++ parts_at (total - length next) (held ms)) t.1 ∙ append_assoc new own (parts_at (total - length next) (held ms))
            ∙ ap (λ k. new ++ (own ++ parts_at k (held ms))) (sym there) ∙ sym (ap (λ zs. new ++ parts_at (total - length r) (held zs)) front) ∙ g.is;
      }

  pub parts_done : (ns : List PartNode) (i : ℕ) (b first r old new : List ℕ) → PartsReaching ns i first r old new → length ns ≤ i
      → ((rest : List ℕ) → bytes preamble ⊕ Some rest ≡ Some b → first ≡ rest) → (rest : List ℕ) → component_text (held ns) ⊕ Some rest ≡ Some b
      → length b ≤ total → (r ≡ rest) × (new ≡ old ++ parts_at (total - length b + length preamble) (held ns))
  parts_done ns i b first r old new h past counted rest e fits =
      let s = parted (bytes preamble) (parts (held ns)) b rest e in
      let same : first ≡ s.mid = counted s.mid s.front in
      let long : length b ≡ length preamble + length s.mid = longer (bytes preamble) b s.mid s.front in
      let there : total - length first ≡ total - length b + length preamble = omega (arith, long, ap length same, fits) in
      let g = h rest (s.back ∙ ap Some (sym same)) (omega (arith, long, ap length same, fits)) in
      let none : drop i ns ≡ [] = drop_past ns i past in (
        same_Some r rest (sym g.spelled ∙ ap (λ ms. parts (held ms) ⊕ Some rest) none ∙ left_nil (Some rest)),
        sym (append-nil new) ∙ ap (λ ms. new ++ parts_at (total - length r) (held ms)) (sym none) ∙ g.is
            ∙ ap (λ k. old ++ parts_at k (held ns)) there,
      )

-- ---- in a section

-- what a section holds, behind its id and its length
pub record Inside (p : Part) (b rest inner : List ℕ) (n : ℕ) : Type 0 where
  pub contents : List ℕ
  pub is : contents_in p ≡ Some contents
  pub size : n ≡ length contents
  pub split : inner ≡ contents ++ rest
  pub long : length b ≡ head_length p + length inner

pub inside : (p : Part) (b rest framed inner : List ℕ) (id n : ℕ) → byte_at b ≡ Some (id, framed) → u_at framed ≡ Some (n, inner)
    → part p ⊕ Some rest ≡ Some b → Inside p b rest inner n
inside p b rest framed inner id n f g e =
    let s = first_holds p (Some rest) b e in
    let h = s.2 in
    let behind = h.contents ++ s.0 in
    let same : rest ≡ s.0 = same_Some rest s.0 s.1 in
    let first : framed ≡ h.framed = ap (λ z. z.1) (same_Some (id, framed) (id_of p, h.framed) (sym f ∙ h.byte_is)) in
    let read : u_at framed ≡ Some (length h.contents, behind) =
    ap u_at first ∙ tells_u.whole h.framed (length h.contents, behind) (ap (λ r. r ⊕ Some behind) h.size_is ∙ joined h.size behind ∙ ap Some (sym h.sized)) in
    let pair = same_Some (n, inner) (length h.contents, behind) (sym g ∙ read) in
    let head : head_length p ≡ 1 + length h.size =
    ap (λ q. 1 + piece_length (u (piece_length q))) h.is ∙ ap (λ q. 1 + piece_length q) h.size_is in
    record {
      contents = h.contents;
      is = h.is;
      size = ap (λ z. z.0) pair;
      split = ap (λ z. z.1) pair ∙ ap (λ r. h.contents ++ r) (sym same);
      long = omega (arith, ap length h.split, ap length h.sized, length-append h.size behind, head, ap (λ z. length z.1) pair);
    }

pub inside_at : {p : Part} {b rest inner : List ℕ} {n : ℕ} (total : ℕ) → Inside p b rest inner n → length b ≤ total
    → total - length inner ≡ total - length b + head_length p
inside_at total i fits = omega (arith, i.long, fits)

pub inside_fits : {p : Part} {b rest inner : List ℕ} {n : ℕ} (total : ℕ) → Inside p b rest inner n → length b ≤ total → length inner ≤ total
inside_fits total i fits = omega (arith, i.long, fits)

pub inside_begins : {p : Part} {b rest inner : List ℕ} {n : ℕ} → Inside p b rest inner n → contents_in p ⊕ Some rest ≡ Some inner
inside_begins {rest = rest} i = ap (λ q. q ⊕ Some rest) i.is ∙ joined i.contents rest ∙ ap Some (sym i.split)

pub inside_contents : {p : Part} {b rest inner : List ℕ} {n : ℕ} (i : Inside p b rest inner n) → Some i.contents ⊕ Some rest ≡ Some inner
inside_contents {rest = rest} i = joined i.contents rest ∙ ap Some (sym i.split)

pub placed_one : (r : Result (Bor (List ℕ)) Unread) (rest old new : List ℕ) (m n : ℕ) → IfOk r (λ x. x.now ≡ rest) → new ≡ old ++ m ∷ [] → m ≡ n
    → Places r rest old new (n ∷ [])
placed_one (Ok x) rest old new m n h added e = (h, added ∙ ap (λ k. old ++ k ∷ []) e)
placed_one (Err x) rest old new m n h added e = tt

pub placed_behind : (r : Result (Bor (List ℕ)) Unread) (rest old mid new os : List ℕ) (m : ℕ) → mid ≡ old ++ m ∷ [] → Places r rest mid new os
    → Places r rest old new (m ∷ os)
placed_behind (Ok x) rest old mid new os m added h = (h.0, h.1 ∙ ap (λ z. z ++ os) added ∙ append_assoc old (m ∷ []) os)
placed_behind (Err x) rest old mid new os m added h = tt

pub placed_same : (r : Result (Bor (List ℕ)) Unread) (rest old new : List ℕ) {os ps : List ℕ} → os ≡ ps → Places r rest old new os → Places r rest old new ps
placed_same r rest old new e h = subst (λ (xs : List ℕ). Places r rest old new xs) e h

module _ {A B : Type 0} (f : B → Piece) (v : A → B) where
  each_at-map : (at : ℕ) (xs : List A) → each_at f at (map v xs) ≡ each_at (λ x. f (v x)) at xs
  each_at-map at [] = refl
  each_at-map at (x ∷ xs) = ap (λ q. at ∷ q) (each_at-map (at + piece_length (f (v x))) xs)

  many_at-map : (at : ℕ) (xs : List A) → many_at (λ x. f (v x)) at xs ≡ many_at f at (map v xs)
  many_at-map at xs =
      ap (λ n. each_at (λ x. f (v x)) (at + piece_length (u n)) xs) (sym (length-map xs v))
      ∙ sym (each_at-map (at + piece_length (u (length (map v xs)))) xs)

  -- the entries of a section that is a list of them
  pub placed_list : (total : ℕ) (xs : List A) (p : Part) (r : Result (Bor (List ℕ)) Unread) (b rest framed inner old new : List ℕ) (id n : ℕ)
      → byte_at b ≡ Some (id, framed) → u_at framed ≡ Some (n, inner) → part p ⊕ Some rest ≡ Some b
      → length b ≤ total → contents_in p ≡ many f (map v xs)
      → ((rest : List ℕ) → many (λ x. f (v x)) xs ⊕ Some rest ≡ Some inner → length inner ≤ total
      → Places r rest old new (many_at (λ x. f (v x)) (total - length inner) xs))
      → Places r rest old new (many_at f (total - length b + head_length p) (map v xs))
  placed_list total xs p r b rest framed inner old new id n byte size e fits is placed =
      let i = inside p b rest framed inner id n byte size e in
      placed_same r rest old new (ap (λ k. many_at (λ x. f (v x)) k xs) (inside_at total i fits) ∙ many_at-map (total - length b + head_length p) xs)
      (placed rest (ap (λ q. q ⊕ Some rest) (sym (is ∙ many-map f v xs)) ∙ inside_begins i) (inside_fits total i fits))
