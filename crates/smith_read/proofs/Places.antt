-- Items in the bytes of a component.
use Rattle.std.proofs.Common.{◌≡◌, ℕ, zero, suc, ◌+◌, ◌-◌, ◌<◌, ◌≤◌, List, [], ◌∷◌, ◌++◌, length, take, drop, get_or, Some, None, option_map, slice_get}
use Rattle.std.proofs.Common.{append_assoc, refl, ap, sym, ◌∙◌, subst, arith, Bool, true, false, cond, nat_lt, lit<}
use Rattle.std.proofs.Math.Seq.{drop-cons}
use Rattle.std.proofs.lemmas.List.{drop_at, length-append, length-drop, take-append-drop}
use Rattle.std.proofs.lemmas.Option.{same_Some, slice_get-get_or}
use borrow.Author.Tests.{ltb-true}
use Rattle.smith_format.specs.Piece.{Piece, ◌⊕◌, byte, bytes, each, framed, many, raw, sized, text, u}
use Rattle.smith_format.proofs.Many.{each-append}
use Rattle.smith_format.proofs.Piece.{joined, parts_are, right_nil, right_none}
use Rattle.smith_syntax.specs.Grammar.{core_entry, entry, import_entry}
use Rattle.smith_tree.specs.Grammar.{Spells, canon, component_text, embedded, export_entry, part, parts, preamble}
use Rattle.smith_tree.specs.Tree.{Part, Tree, canons, component, core_module, core_types, custom, ends, exports, first, imports, types}
use Rattle.smith_read.specs.Items.{items_in}
use Rattle.smith_read.specs.Places.{IsAtFront, before, contents_in, front, front_in, id_of, item_text, list_before, offset_in, opened, sole_before}
use Rattle.smith_read.specs.Places.{sole_text, text_in}
use Rattle.smith_read.specs.Reading.{◌>>=◌, byte_at, frame_at, u_at}
use Rattle.smith_read.proofs.Telling.{byte_read, parted, tells_u}
use Rattle.smith_read.proofs.TellingFrames.{frame_whole, framed_cases}

-- ---- one section

-- the bytes of a section: its id, the length of its contents, these, and what follows
pub record Holds (id : ℕ) (c : Piece) (b rest : List ℕ) : Type 0 where
  pub contents : List ℕ
  pub size : List ℕ
  pub framed : List ℕ
  pub is : c ≡ Some contents
  pub size_is : u (length contents) ≡ Some size
  pub byte_is : byte_at b ≡ Some (id, framed)
  pub frame_is : frame_at framed ≡ Some (contents, rest)
  pub sized : framed ≡ size ++ (contents ++ rest)
  pub split : b ≡ id ∷ framed

holds : (id : ℕ) → id < 256 → (c : Piece) (b rest : List ℕ) → sized id c ⊕ Some rest ≡ Some b → Holds id c b rest
holds id low c b rest e =
    let p = parted (byte id) (framed c) b rest e in
    let f = framed_cases c p.mid rest p.back in
    let g = parted (u (length f.0)) (Some f.0) p.mid rest f.2 in
    let k = parts_are (u (length f.0)) (Some g.mid) p.mid g.front in
    let front : id ∷ p.mid ≡ b = same_Some _ _ (sym (joined (id ∷ []) p.mid) ∙ p.front) in
    let back : f.0 ++ rest ≡ g.mid = same_Some _ _ (sym (joined f.0 rest) ∙ g.back) in
    record {
      contents = f.0;
      size = k.left;
      framed = p.mid;
      is = f.1;
      size_is = k.p_is;
      byte_is = byte_read b (id, p.mid) low p.front;
      frame_is = frame_whole p.mid f.0 rest f.2;
      sized = k.is ∙ ap (λ l. k.left ++ l) (sym (same_Some g.mid k.right k.q_is) ∙ sym back);
      split = sym front;
    }

part_holds : (p : Part) (b rest : List ℕ) → part p ⊕ Some rest ≡ Some b → Holds (id_of p) (contents_in p) b rest
part_holds (custom n c) b rest e = holds 0 (lit< tt) _ b rest e
part_holds (core_module m) b rest e = holds 1 (lit< tt) _ b rest e
part_holds (core_types ts) b rest e = holds 3 (lit< tt) _ b rest e
part_holds (component t) b rest e = holds 4 (lit< tt) _ b rest e
part_holds (types ts) b rest e = holds 7 (lit< tt) _ b rest e
part_holds (canons fs) b rest e = holds 8 (lit< tt) _ b rest e
part_holds (imports is) b rest e = holds 10 (lit< tt) _ b rest e
part_holds (exports es) b rest e = holds 11 (lit< tt) _ b rest e

pub first_holds : (p : Part) (q : Piece) (b : List ℕ) → part p ⊕ q ≡ Some b → (rest : List ℕ) × (q ≡ Some rest) × Holds (id_of p) (contents_in p) b rest
first_holds p q b e =
    let s = parts_are (part p) q b e in
    (s.right, s.q_is, part_holds p b s.right (ap (λ r. part p ⊕ r) (sym s.q_is) ∙ e))

-- ---- what precedes something in a section

pub prefixed : (a : List ℕ) (x : Piece) → Some a ⊕ x ≡ option_map (λ y. a ++ y) x
prefixed a None = right_none (Some a)
prefixed a (Some y) = joined a y

pub prefixed_twice : (a c : List ℕ) (x : Piece) → option_map (λ y. a ++ y) (option_map (λ y. c ++ y) x) ≡ option_map (λ y. (a ++ c) ++ y) x
prefixed_twice a c None = refl
prefixed_twice a c (Some y) = ap Some (sym (append_assoc a c y))

pub opened_is : (p : Part) (b rest : List ℕ) (h : Holds (id_of p) (contents_in p) b rest) (x : Piece)
    → opened x p ≡ option_map (λ y. (id_of p ∷ h.size) ++ y) x
opened_is p b rest h x =
    ap (λ q. byte (id_of p) ⊕ (q >>= λ z. u (length z)) ⊕ x) h.is ∙ ap (λ q. byte (id_of p) ⊕ q ⊕ x) h.size_is
    ∙ ap (λ q. byte (id_of p) ⊕ q) (prefixed h.size x) ∙ prefixed (id_of p ∷ []) (option_map (λ y. h.size ++ y) x)
    ∙ prefixed_twice (id_of p ∷ []) h.size x

-- ---- lists

module _ {A : Type 0} (f : A → Piece) where
  -- a list that has an encoding, split before one of its entries
  pub record Split (index : ℕ) (xs : List A) (b : List ℕ) : Type 0 where
    pub count : List ℕ
    pub front : List ℕ
    pub back : List ℕ
    pub count_is : u (length xs) ≡ Some count
    pub front_is : each f (take index xs) ≡ Some front
    pub back_is : each f (drop index xs) ≡ Some back
    pub split : b ≡ count ++ (front ++ back)
    pub read : u_at b ≡ Some (length xs, front ++ back)
    pub before_is : u (length xs) ⊕ each f (take index xs) ≡ Some (count ++ front)

  pub split : (index : ℕ) (xs : List A) (b : List ℕ) → many f xs ≡ Some b → Split index xs b
  split index xs b e =
      let p = parts_are (u (length xs)) (each f xs) b e in
      let g : each f (take index xs) ⊕ each f (drop index xs) ≡ Some p.right =
      sym (each-append f (take index xs) (drop index xs)) ∙ ap (each f) (take-append-drop index xs) ∙ p.q_is in
      let q = parts_are (each f (take index xs)) (each f (drop index xs)) p.right g in
      let h : b ≡ p.left ++ (q.left ++ q.right) = p.is ∙ ap (λ l. p.left ++ l) q.is in
      record {
        count = p.left;
        front = q.left;
        back = q.right;
        count_is = p.p_is;
        front_is = q.p_is;
        back_is = q.q_is;
        split = h;
        read = tells_u.whole b (length xs, q.left ++ q.right) (ap (λ r. r ⊕ Some (q.left ++ q.right)) p.p_is ∙ joined _ _ ∙ ap Some (sym h));
        before_is = ap (λ r. r ⊕ each f (take index xs)) p.p_is ∙ ap (λ r. Some p.left ⊕ r) q.p_is ∙ joined p.left q.left;
      }

-- ---- what begins at an entry

-- Bytes that are split where that is at the front of the rest.
pub record Front (p : Piece) (x b : List ℕ) : Type 0 where
  pub rest : List ℕ
  pub split : b ≡ x ++ rest
  pub there : IsAtFront p rest

pub front_fits : {p : Piece} {x b : List ℕ} → Front p x b → length x ≤ length b
front_fits {p} {x} {b} f = omega (arith, ap length f.split, length-append x f.rest)

-- more bytes follow
at_front : (p : Piece) (b more : List ℕ) → IsAtFront p b → IsAtFront p (b ++ more)
at_front p b more h =
    let q = parts_are p (Some h.0) b h.1 in
    let r : h.0 ≡ q.right = same_Some _ _ q.q_is in (
      h.0 ++ more,
      ap (λ o. o ⊕ Some (h.0 ++ more)) q.p_is ∙ joined q.left (h.0 ++ more)
          ∙ ap Some (sym (append_assoc q.left h.0 more) ∙ ap (λ l. (q.left ++ l) ++ more) r ∙ ap (λ l. l ++ more) (sym q.is)),
    )

module _ {A : Type 0} (f : A → Piece) (index : ℕ) (xs : List A) where
  list_front : (b x : List ℕ) → many f xs ≡ Some b → list_before f xs index ≡ Some x → Front (slice_get xs index >>= f) x b
  list_front b x e h = let s = split f index xs b e in by_test s (nat_lt index (length xs)) refl h
    where
      first_is : (s : Split f index xs b) → (y : A) → slice_get xs index ≡ Some y → drop index xs ≡ y ∷ drop (suc index) xs
          → IsAtFront (slice_get xs index >>= f) s.back
      first_is s y g d =
          let q = parts_are (f y) (each f (drop (suc index) xs)) s.back (ap (each f) (sym d) ∙ s.back_is) in
          (q.right, ap (λ o. (o >>= f) ⊕ Some q.right) g ∙ ap (λ o. o ⊕ Some q.right) q.p_is ∙ joined q.left q.right ∙ ap Some (sym q.is))

      some : (s : Split f index xs b) → index < length xs → (zs : List A) → drop index xs ≡ zs → IsAtFront (slice_get xs index >>= f) s.back
      some s l [] d = absurd (omega (arith, l, ap length d, length-drop index xs))
      some s l (z ∷ zs) d = first_is s (get_or xs index z) (slice_get-get_or xs index z l) (drop-cons xs index z l)

      by_test : (s : Split f index xs b) (t : Bool) → nat_lt index (length xs) ≡ t → cond t (u (length xs) ⊕ each f (take index xs)) None ≡ Some x
          → Front (slice_get xs index >>= f) x b
      by_test s true l g = record {
        rest = s.back;
        split = s.split ∙ sym (append_assoc s.count s.front s.back) ∙ ap (λ y. y ++ s.back) (same_Some _ _ (sym s.before_is ∙ g));
        there = some s (ltb-true index (length xs) l) (drop index xs) refl;
      }
      by_test s false l g = absurd cc

-- what counts as one entry begins with it
sole_front : (index : ℕ) (p : Piece) (b x : List ℕ) → p ≡ Some b → sole_before index ≡ Some x → Front (sole_text p index) x b
sole_front zero p b x e h = record { rest = b; split = ap (λ y. y ++ b) (same_Some [] x h); there = ([], right_nil p ∙ e) }
sole_front (suc index) p b x e h = absurd cc

pub into : {p : Piece} {y c : List ℕ} (head after : List ℕ) → Front p y c → Front p (head ++ y) (head ++ (c ++ after))
into {p} {y} head after f = record {
  rest = f.rest ++ after;
  split = ap (λ l. head ++ (l ++ after)) f.split ∙ ap (λ l. head ++ l) (append_assoc y f.rest after) ∙ sym (append_assoc head y (f.rest ++ after));
  there = at_front p f.rest after f.there;
}

past : {p : Piece} {y b : List ℕ} (head : List ℕ) → Front p y b → Front p (head ++ y) (head ++ b)
past {p} {y} head f = record { rest = f.rest; split = ap (λ l. head ++ l) f.split ∙ sym (append_assoc head y f.rest); there = f.there }

mapped : (h x : List ℕ) (o : Piece) → option_map (λ y. h ++ y) o ≡ Some x → (y : List ℕ) × (o ≡ Some y) × (h ++ y ≡ x)
mapped h x None e = absurd cc
mapped h x (Some y) e = (y, refl, same_Some _ _ e)

-- the header of a section, and what it holds
abbrev pub header : {id : ℕ} {c : Piece} {b rest : List ℕ} → Holds id c b rest → List ℕ
header {id} h = id ∷ h.size

pub header_split : {id : ℕ} {c : Piece} {b rest : List ℕ} (h : Holds id c b rest) → b ≡ header h ++ (h.contents ++ rest)
header_split {id} h = h.split ∙ ap (λ l. id ∷ l) h.sized

-- what follows a part of which these are the bytes
pub passed_by : (p : Part) (q : Piece) (left : List ℕ) → part p ≡ Some left → part p ⊕ q ≡ option_map (λ y. left ++ y) q
passed_by p q left e = ap (λ r. r ⊕ q) e ∙ prefixed left q

first_front : (n : ℕ) (p : Part) (t : Tree) (b x : List ℕ) → parts (first p t) ≡ Some b → front n (first p t) ≡ Some x
    → ((c y : List ℕ) → contents_in p ≡ Some c → front_in n p ≡ Some y → Front (text_in n p) y c)
    → ((c y : List ℕ) → parts t ≡ Some c → front (n - items_in p) t ≡ Some y → Front (item_text (n - items_in p) t) y c)
    → Front (item_text n (first p t)) x b
first_front n p t b x e f inside behind = by_test (nat_lt n (items_in p)) f
  where
    by_test : (o : Bool) → cond o (opened (front_in n p) p) (part p ⊕ front (n - items_in p) t) ≡ Some x
        → Front (cond o (text_in n p) (item_text (n - items_in p) t)) x b
    by_test true g =
        let s = first_holds p (parts t) b e in
        let h = s.2 in
        let y = mapped (header h) x (front_in n p) (sym (opened_is p b s.0 h (front_in n p)) ∙ g) in
        subst (λ z. Front (text_in n p) z b) y.2 (subst (λ c. Front (text_in n p) (header h ++ y.0) c) (sym (header_split h))
        (into (header h) s.0 (inside h.contents y.0 h.is y.1)))
    by_test false g =
        let q = parts_are (part p) (parts t) b e in
        let y = mapped q.left x (front (n - items_in p) t) (sym (passed_by p (front (n - items_in p) t) q.left q.p_is) ∙ g) in
        subst (λ z. Front (item_text (n - items_in p) t) z b) y.2
        (subst (λ c. Front (item_text (n - items_in p) t) (q.left ++ y.0) c) (sym q.is) (past q.left (behind q.right y.0 q.q_is y.1)))

after_preamble : (n : ℕ) (t : Tree) (b x : List ℕ) → component_text t ≡ Some b → bytes preamble ⊕ front n t ≡ Some x
    → ((c y : List ℕ) → parts t ≡ Some c → front n t ≡ Some y → Front (item_text n t) y c) → Front (item_text n t) x b
after_preamble n t b x e f inside =
    let q = parts_are (bytes preamble) (parts t) b e in
    let y = mapped q.left x (front n t) (sym (ap (λ r. r ⊕ front n t) q.p_is ∙ prefixed q.left (front n t)) ∙ f) in
    subst (λ z. Front (item_text n t) z b) y.2
    (subst (λ c. Front (item_text n t) (q.left ++ y.0) c) (sym q.is) (past q.left (inside q.right y.0 q.q_is y.1)))

mutual
  pub part_front : (n : ℕ) (p : Part) (b x : List ℕ) → contents_in p ≡ Some b → front_in n p ≡ Some x → Front (text_in n p) x b
  part_front n (custom a c) b x e h = sole_front n (text a ⊕ raw c) b x e h
  part_front n (core_module a) b x e h = sole_front n (embedded a) b x e h
  part_front n (core_types ts) b x e h = list_front core_entry n ts b x e h
  part_front zero (component t) b x e h = sole_front zero (component_text t) b x e h
  part_front (suc n) (component t) b x e h = after_preamble n t b x e h (λ c y g i. tree_front n t c y g i)
  part_front n (types ts) b x e h = list_front entry n ts b x e h
  part_front n (canons fs) b x e h = list_front canon n fs b x e h
  part_front n (imports is) b x e h = list_front import_entry n is b x e h
  part_front n (exports es) b x e h = list_front export_entry n es b x e h

  pub tree_front : (n : ℕ) (t : Tree) (b x : List ℕ) → parts t ≡ Some b → front n t ≡ Some x → Front (item_text n t) x b
  tree_front n ends b x e h = absurd cc
  tree_front n (first p t) b x e h =
      first_front n p t b x e h (λ c y g i. part_front n p c y g i) (λ c y g i. tree_front (n - items_in p) t c y g i)

-- What begins at the offset of an item is that item.
pub there : (n : ℕ) (t : Tree) (b : List ℕ) (k : ℕ) → Spells t b → offset_in n t ≡ Some k → IsAtFront (item_text n t) (drop k b)
there n t b k e f = by_case (before n t) refl f
  where
    by_case : (o : Piece) → before n t ≡ o → option_map length o ≡ Some k → IsAtFront (item_text n t) (drop k b)
    by_case None g h = absurd cc
    by_case (Some x) g h =
        let p = after_preamble n t b x e g (λ c y i j. tree_front n t c y i j) in
        let d : p.rest ≡ drop k b = sym (drop_at x p.rest k (same_Some (length x) k h)) ∙ ap (drop k) (sym p.split) in
        subst (λ (r : List ℕ). IsAtFront (item_text n t) r) d p.there
