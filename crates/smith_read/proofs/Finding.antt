-- An entry is found in the bytes of a component at its offset.
use Rattle.std.proofs.Common.{◌≡◌, ℕ, zero, suc, ◌+◌, ◌-◌, ◌<◌, ◌≤◌, inl, inr, List, [], ◌∷◌, ◌++◌, length, take, Option, Some, None, option_map}
use Rattle.std.proofs.Common.{refl, ap, sym, ◌∙◌, subst, arith, append_assoc, Bool, true, false, cond, eqb, nat_lt}
use Rattle.std.proofs.lemmas.Bool.{eqb-true, le-ltb, lt-ltb, ltb-false, ltb-true}
use Rattle.std.proofs.lemmas.List.{append_cancel_right, length-append, length-take-le}
use Rattle.std.proofs.lemmas.Option.{same_Some}
use Rattle.smith_format.specs.Clear.{IsClear}
use Rattle.smith_format.specs.Piece.{Piece, ◌⊕◌, bytes, each, many, u}
use Rattle.smith_format.proofs.Clear.{clear_each}
use Rattle.smith_format.proofs.Piece.{assoc, joined, left_nil, left_none, parts_are}
use Rattle.smith_syntax.specs.Entries.{Entry}
use Rattle.smith_syntax.specs.Grammar.{core_entry, entry, import_entry}
use Rattle.smith_syntax.specs.Nesting.{nesting}
use Rattle.smith_syntax.proofs.ClearTypes.{clear_entry}
use Rattle.smith_tree.specs.Depths.{scope_depth}
use Rattle.smith_tree.specs.Grammar.{Spells, canon, component_text, export_entry, part, parts, preamble}
use Rattle.smith_tree.specs.Tree.{Part, Tree, canons, component, core_module, core_types, custom, ends, exports, first, imports, most, types}
use Rattle.smith_read.specs.Finding.{Finds, counted_at, found_at, into_at, items_of, listed_at, pass_at, passed, passing, past_at, reached, sole_at}
use Rattle.smith_read.specs.Finding.{walk_at, within_at}
use Rattle.smith_read.specs.Items.{items, items_in}
use Rattle.smith_read.specs.Levels.{entry_at, entry_in}
use Rattle.smith_read.specs.Parts.{preamble_at}
use Rattle.smith_read.specs.Places.{contents_in, front, front_in, id_of, list_before, offset_in, opened, sole_before}
use Rattle.smith_read.specs.Reading.{Found, ◌>>=◌, byte_at, frame_at, times_at, u_at}
use Rattle.smith_read.specs.Reads.{most_depth}
use Rattle.smith_read.specs.Tells.{Tells}
use Rattle.smith_read.proofs.Inner.{NestWithin, Under, each_same, each_under}
use Rattle.smith_read.proofs.Places.{Holds, Split, first_holds, front_fits, header, header_split, opened_is, part_front, passed_by, prefixed, prefixed_twice}
use Rattle.smith_read.proofs.Places.{split, tree_front}
use Rattle.smith_read.proofs.Telling.{bind_some, clear_told, tells_u, times_sound, times_whole}
use Rattle.smith_read.proofs.TellingCore.{tells_core_entry}
use Rattle.smith_read.proofs.TellingEntries.{tells_canon, tells_export}
use Rattle.smith_read.proofs.TellingLevels.{tells_entry}
use Rattle.smith_read.proofs.TellingParts.{preamble_whole, tells_import}

pub same_found : {D : Type 0} (found there : Option ℕ) → found ≡ there → Finds D found there
same_found found there e = record { right = λ n h. sym e ∙ h; whole = λ d. e }

-- ---- lists

under_begins : (p q : Piece) (rest b : List ℕ) → Under p q → p ⊕ Some rest ≡ Some b → q ⊕ Some rest ≡ Some b
under_begins p q rest b (inl h) e = let z : None ≡ Some b = sym (left_none (Some rest)) ∙ ap (λ r. r ⊕ Some rest) (sym h) ∙ e in absurd cc
under_begins p q rest b (inr h) e = ap (λ r. r ⊕ Some rest) (sym h) ∙ e

-- Entries that are read are spelled so, by `f` in as far as they are spelled by `g`.
module _ {A : Type 0} (f g : A → Piece) (r : List ℕ → Found A) (told : Tells f r) (clear : IsClear g) (under : (ys : List A) → Under (each f ys) (each g ys))
    (index : ℕ) (xs : List A) where
  listed_is : (b : List ℕ) (s : Split g index xs b)
      → listed_at r index b ≡ cond (nat_lt index (length xs)) (times_at r index (s.front ++ s.back) >>= λ x. Some (length b - length x.1)) None
  unfolding listed_at
  listed_is b s = rw s.read refl

  pub list_found : {D : Type 0} → (D → each f (take index xs) ≡ each g (take index xs)) → (b : List ℕ) → many g xs ≡ Some b
      → Finds D (listed_at r index b) (option_map length (list_before g xs index))
  list_found {D} same b e =
      let s = split g index xs b e in
      subst (λ o. Finds D o (option_map length (list_before g xs index))) (sym (listed_is b s)) (by_test s (nat_lt index (length xs)) refl)
    where
      by_test : (s : Split g index xs b) (t : Bool) → nat_lt index (length xs) ≡ t
          → Finds D (cond t (times_at r index (s.front ++ s.back) >>= λ x. Some (length b - length x.1)) None)
          (option_map length (cond t (u (length xs) ⊕ each g (take index xs)) None))
      by_test s false l = same_found None None refl
      by_test s true l =
          let all = s.front ++ s.back in
          let taken : length (take index xs) ≡ index = length-take-le index xs (omega (arith, ltb-true index (length xs) l)) in
          let size : length b - length s.back ≡ length (s.count ++ s.front) =
          omega (arith, ap length s.split, length-append s.count s.front, length-append s.count all, length-append s.front s.back) in
          let there : option_map length (u (length xs) ⊕ each g (take index xs)) ≡ Some (length b - length s.back) =
          ap (option_map length) s.before_is ∙ ap Some (sym size) in
          record {
            right = λ n h.
                let m = bind_some (times_at r index all) (λ x. Some (length b - length x.1)) n h in
                let w = times_sound told index all m.0 m.1 in
                let a = clear_each g clear m.0.0 (take index xs) (Some m.0.1) (Some s.back) all (w.1 ∙ sym taken)
                (under_begins _ _ m.0.1 all (under m.0.0) w.0) (ap (λ q. q ⊕ Some s.back) s.front_is ∙ joined s.front s.back) in
                let left : m.0.1 ≡ s.back = same_Some _ _ (a.rests.first ∙ sym a.rests.second) in
                there ∙ ap (λ z. Some (length b - length z)) (sym left) ∙ m.2;
            whole = λ d.
                ap (λ o. o >>= λ x. Some (length b - length x.1))
                (ap (λ n. times_at r n all) (sym taken)
                ∙ times_whole told (take index xs) all s.back (ap (λ q. q ⊕ Some s.back) (same d ∙ s.front_is) ∙ joined s.front s.back))
                ∙ sym there;
          }

-- ---- sections

nest_taken : (levels k : ℕ) (ts : List Entry) → most nesting ts ≤ levels → NestWithin levels (take k ts)
nest_taken levels zero ts h = tt
nest_taken levels (suc k) [] h = tt
nest_taken levels (suc k) (t ∷ ts) h = (omega (arith, h), nest_taken levels k ts (omega (arith, h)))

sole_found : {D : Type 0} (index : ℕ) → Finds D (sole_at index) (option_map length (sole_before index))
sole_found zero = same_found (Some 0) (Some 0) refl
sole_found {D} (suc index) = by_test (eqb (suc index) 0) refl
  where
    by_test : (t : Bool) → eqb (suc index) 0 ≡ t → Finds D (cond t (Some 0) None) None
    by_test true e = absurd (omega (arith, eqb-true (suc index) 0 e))
    by_test false e = same_found None None refl

-- a list that is read whatever it holds
told_found : {A D : Type 0} (f : A → Piece) (r : List ℕ → Found A) → Tells f r → (index : ℕ) (xs : List A) (b : List ℕ) → many f xs ≡ Some b
    → Finds D (listed_at r index b) (option_map length (list_before f xs index))
told_found f r told index xs b e = list_found f f r told (clear_told told) (λ ys. inr refl) index xs (λ d. refl) b e

-- as many of the bytes as an item and what follows it take
abbrev left_of : List ℕ → Piece → Option ℕ
left_of b x = option_map (λ y. length b - length y) x

-- an item in a section that is found
abbrev shift : List ℕ → List ℕ → Option ℕ → Option ℕ
shift contents after o = o >>= λ k. Some (length contents - k + length after)

shifted : {D E : Type 0} (b head contents after : List ℕ) (found : Option ℕ) (there : Piece) → b ≡ head ++ (contents ++ after)
    → ((y : List ℕ) → there ≡ Some y → length y ≤ length contents) → (E → D) → Finds D found (option_map length there)
    → Finds E (shift contents after found) (left_of b (option_map (λ y. head ++ y) there))
shifted b head contents after found None split fits weaker f = record {
  right = λ n h. let m = bind_some found _ n h in let z : None ≡ Some m.0 = f.right m.0 m.1 in absurd cc;
  whole = λ e. ap (shift contents after) (f.whole (weaker e));
}
shifted b head contents after found (Some y) split fits weaker f =
    let size : length b ≡ length head + (length contents + length after) =
    ap length split ∙ length-append head (contents ++ after) ∙ ap (λ n. length head + n) (length-append contents after) in
    let there : length b - length (head ++ y) ≡ length contents - length y + length after =
    omega (arith, length-append head y, size, fits y refl) in
    record {
      right = λ n h.
          let m = bind_some found _ n h in
          ap Some (there ∙ ap (λ k. length contents - k + length after) (same_Some (length y) m.0 (f.right m.0 m.1)) ∙ same_Some _ n m.2);
      whole = λ e. ap (shift contents after) (f.whole (weaker e)) ∙ ap Some (sym there);
    }

-- an item further on
further : {D E : Type 0} (b head rest : List ℕ) (found : Option ℕ) (there : Piece) → b ≡ head ++ rest → (E → D) → Finds D found (left_of rest there)
    → Finds E found (left_of b (option_map (λ y. head ++ y) there))
further b head rest found None split weaker f = record { right = f.right; whole = λ e. f.whole (weaker e) }
further b head rest found (Some y) split weaker f =
    let size : length b ≡ length head + length rest = ap length split ∙ length-append head rest in
    let there : length b - length (head ++ y) ≡ length rest - length y = omega (arith, length-append head y, size) in
    record { right = λ n h. ap Some there ∙ f.right n h; whole = λ e. f.whole (weaker e) ∙ ap Some (sym there) }

-- ---- section after section

-- what an item is sought in further on, and where it is there
abbrev Sought : (most : ℕ) → Type 0
Sought most = (n : ℕ) (t : Tree) (b : List ℕ) → parts t ≡ Some b → length b ≤ most
    → Finds (scope_depth t ≤ most_depth) (walk_at most n b) (left_of b (front n t))

walk_next : (most n : ℕ) (b : List ℕ) → walk_at (suc most) n b ≡ pass_at n b >>= passing (walk_at most)
unfolding walk_at
walk_next most n b = refl

pass_none : (n : ℕ) → pass_at n [] ≡ None
unfolding pass_at byte_at
pass_none n = refl

pass_into : (n : ℕ) (b rest : List ℕ) → byte_at b ≡ Some (4, rest) → pass_at n b ≡ into_at n rest
unfolding pass_at
pass_into n b rest e = rw e refl

pass_past : (n id : ℕ) (b rest : List ℕ) → eqb id 4 ≡ false → byte_at b ≡ Some (id, rest) → pass_at n b ≡ past_at n id rest
unfolding pass_at
pass_past n id b rest other e = rw (e, other) refl

past_is : (n id count : ℕ) (b contents rest : List ℕ) → frame_at b ≡ Some (contents, rest) → items_of id contents ≡ Some count
    → past_at n id b
    ≡ cond (nat_lt n count) (within_at n id contents >>= λ k. Some (reached (length contents - k + length rest))) (Some (passed (n - count) rest))
unfolding past_at
past_is n id count b contents rest e f = rw (e, f) refl

found_shifted : (walk : ℕ → List ℕ → Option ℕ) (contents rest : List ℕ) (o : Option ℕ)
    → (o >>= λ k. Some (reached (length contents - k + length rest))) >>= passing walk ≡ shift contents rest o
found_shifted walk contents rest None = refl
found_shifted walk contents rest (Some k) = refl

-- a section that holds no component

module _ (most : ℕ) (sought : Sought most) (n : ℕ) (p : Part) (t : Tree) (b : List ℕ) (e : parts (first p t) ≡ Some b) (fits : length b ≤ suc most) where
  past_found : eqb (id_of p) 4 ≡ false
      → ((c : List ℕ) → contents_in p ≡ Some c → items_of (id_of p) c ≡ Some (items_in p))
      → ((c : List ℕ) → contents_in p ≡ Some c
      → Finds (scope_depth (first p t) ≤ most_depth) (within_at n (id_of p) c) (option_map length (front_in n p)))
      → Finds (scope_depth (first p t) ≤ most_depth) (walk_at (suc most) n b) (left_of b (front n (first p t)))
  past_found other counted within =
      let s = first_holds p (parts t) b e in
      let h = s.2 in
      let step : walk_at (suc most) n b
      ≡ cond (nat_lt n (items_in p)) (within_at n (id_of p) h.contents >>= λ k. Some (reached (length h.contents - k + length s.0)))
      (Some (passed (n - items_in p) s.0)) >>= passing (walk_at most) =
      walk_next most n b
      ∙ ap (λ o. o >>= passing (walk_at most))
      (pass_past n (id_of p) b h.framed other h.byte_is ∙ past_is n (id_of p) (items_in p) h.framed h.contents s.0 h.frame_is (counted h.contents h.is)) in
      subst (λ o. Finds (scope_depth (first p t) ≤ most_depth) o (left_of b (front n (first p t)))) (sym step) (by_test s (nat_lt n (items_in p)))
    where
      by_test : (s : (rest : List ℕ) × (parts t ≡ Some rest) × Holds (id_of p) (contents_in p) b rest) (o : Bool)
          → Finds (scope_depth (first p t) ≤ most_depth)
          (cond o (within_at n (id_of p) s.2.contents >>= λ k. Some (reached (length s.2.contents - k + length s.0)))
          (Some (passed (n - items_in p) s.0)) >>= passing (walk_at most))
          (left_of b (cond o (opened (front_in n p) p) (part p ⊕ front (n - items_in p) t)))
      by_test s true =
          let h = s.2 in
          subst (λ o. Finds (scope_depth (first p t) ≤ most_depth) o (left_of b (opened (front_in n p) p)))
          (sym (found_shifted (walk_at most) h.contents s.0 (within_at n (id_of p) h.contents)))
          (subst (λ o. Finds (scope_depth (first p t) ≤ most_depth) (shift h.contents s.0 (within_at n (id_of p) h.contents)) (left_of b o))
          (sym (opened_is p b s.0 h (front_in n p)))
          (shifted b (header h) h.contents s.0 (within_at n (id_of p) h.contents) (front_in n p) (header_split h)
          (λ y i. front_fits (part_front n p h.contents y h.is i)) (λ d. d) (within h.contents h.is)))
      by_test s false =
          let h = s.2 in
          let q = parts_are (part p) (parts t) b e in
          let same : s.0 ≡ q.right = same_Some _ _ (sym s.1 ∙ q.q_is) in
          let some : 0 < length (header h) = omega (arith) in
          subst (λ o. Finds (scope_depth (first p t) ≤ most_depth) (walk_at most (n - items_in p) s.0) (left_of b o))
          (sym (passed_by p (front (n - items_in p) t) q.left q.p_is))
          (further b q.left s.0 (walk_at most (n - items_in p) s.0) (front (n - items_in p) t) (q.is ∙ ap (λ l. q.left ++ l) (sym same))
          (λ d. omega (arith, d))
          (sought (n - items_in p) t s.0 s.1
          (omega (arith, fits, some, ap length (header_split h), length-append (header h) (h.contents ++ s.0), length-append h.contents s.0))))

-- a component

-- those parts, and then these
abbrev joined_trees : Tree → Tree → Tree
joined_trees ends t = t
joined_trees (first p u) t = first p (joined_trees u t)

parts_joined : (u t : Tree) → parts (joined_trees u t) ≡ parts u ⊕ parts t
parts_joined ends t = sym (left_nil (parts t))
parts_joined (first p u) t = ap (λ q. part p ⊕ q) (parts_joined u t) ∙ sym (assoc (part p) (parts u) (parts t))

depth_joined : (u t : Tree) (d : ℕ) → scope_depth u ≤ d → scope_depth t ≤ d → scope_depth (joined_trees u t) ≤ d
depth_joined ends t d h i = i
depth_joined (first p u) t d h i = let j = depth_joined u t d (omega (arith, h)) i in omega (arith, h, j)

front_joined : (n : ℕ) (u t : Tree) → front n (joined_trees u t) ≡ cond (nat_lt n (items u)) (front n u) (parts u ⊕ front (n - items u) t)
front_joined n ends t =
    let no : nat_lt n 0 ≡ false = le-ltb n 0 (omega arith) in
    let none : n ≡ n - 0 = omega arith in
    ap (λ m. front m t) none ∙ sym (left_nil (front (n - 0) t)) ∙ ap (λ o. cond o None (Some [] ⊕ front (n - 0) t)) (sym no)
front_joined n (first p u) t = by_test (nat_lt n (items_in p)) refl (nat_lt (n - items_in p) (items u)) refl (front_joined (n - items_in p) u t)
  where
    by_test : (a : Bool) → nat_lt n (items_in p) ≡ a → (b : Bool) → nat_lt (n - items_in p) (items u) ≡ b
        → front (n - items_in p) (joined_trees u t)
        ≡ cond (nat_lt (n - items_in p) (items u)) (front (n - items_in p) u) (parts u ⊕ front (n - items_in p - items u) t)
        → front n (joined_trees (first p u) t)
        ≡ cond (nat_lt n (items (first p u))) (front n (first p u)) (parts (first p u) ⊕ front (n - items (first p u)) t)
    by_test true e b f i =
        let yes : nat_lt n (items_in p + items u) ≡ true = lt-ltb n (items_in p + items u) (omega (arith, ltb-true n (items_in p) e)) in
        rw (yes, e) refl
    by_test false e true f i =
        let yes : nat_lt n (items_in p + items u) ≡ true
        = lt-ltb n (items_in p + items u) (omega (arith, ltb-false n (items_in p) e, ltb-true (n - items_in p) (items u) f)) in
        rw (yes, e) (ap (λ q. part p ⊕ q) (rw f at i))
    by_test false e false f i =
        let no : nat_lt n (items_in p + items u) ≡ false
        = le-ltb n (items_in p + items u) (omega (arith, ltb-false n (items_in p) e, ltb-false (n - items_in p) (items u) f)) in
        let same : n - items_in p - items u ≡ n - (items_in p + items u) = omega arith in
        rw (no, e) (ap (λ q. part p ⊕ q) (rw (f, same) at i) ∙ sym (assoc (part p) (parts u) (front (n - (items_in p + items u)) t)))

-- the header of a component, and its preamble, precede what is in it and what follows it
front_into : (n : ℕ) (u t : Tree) (head : List ℕ) (inner : List ℕ) → parts u ≡ Some inner
    → ((x : Piece) → opened x (component u) ≡ option_map (λ y. head ++ y) x) → part (component u) ≡ Some (head ++ (preamble ++ inner))
    → front (suc n) (first (component u) t) ≡ option_map (λ y. (head ++ preamble) ++ y) (front n (joined_trees u t))
front_into n u t head inner e opens is = by_test (nat_lt n (items u)) refl
  where
    by_test : (a : Bool) → nat_lt n (items u) ≡ a
        → front (suc n) (first (component u) t) ≡ option_map (λ y. (head ++ preamble) ++ y) (front n (joined_trees u t))
    by_test true f =
        let yes : nat_lt (suc n) (suc (items u)) ≡ true = lt-ltb (suc n) (suc (items u)) (omega (arith, ltb-true n (items u) f)) in
        rw yes
        (opens (bytes preamble ⊕ front n u) ∙ ap (option_map (λ y. head ++ y)) (prefixed preamble (front n u)) ∙ prefixed_twice head preamble (front n u)
        ∙ ap (option_map (λ y. (head ++ preamble) ++ y)) (sym (rw f at (front_joined n u t))))
    by_test false f =
        let no : nat_lt (suc n) (suc (items u)) ≡ false = le-ltb (suc n) (suc (items u)) (omega (arith, ltb-false n (items u) f)) in
        let same : suc n - suc (items u) ≡ n - items u = omega arith in
        let behind = front (n - items u) t in
        let last : option_map (λ y. (head ++ (preamble ++ inner)) ++ y) behind
        ≡ option_map (λ y. (head ++ preamble) ++ y) (option_map (λ y. inner ++ y) behind) =
        ap (λ l. option_map (λ y. l ++ y) behind) (sym (append_assoc head preamble inner)) ∙ sym (prefixed_twice (head ++ preamble) inner behind) in
        rw (no, same)
        (passed_by (component u) behind (head ++ (preamble ++ inner)) is ∙ last
        ∙ ap (option_map (λ y. (head ++ preamble) ++ y)) (sym (rw f at (front_joined n u t) ∙ ap (λ q. q ⊕ behind) e ∙ prefixed inner behind)))

suc_eqb : (n : ℕ) → eqb (suc n) 0 ≡ false
suc_eqb n = by_test (eqb (suc n) 0) refl
  where
    by_test : (t : Bool) → eqb (suc n) 0 ≡ t → eqb (suc n) 0 ≡ false
    by_test true e = absurd (omega (arith, eqb-true (suc n) 0 e))
    by_test false e = e

into_found : (b s : List ℕ) (size : ℕ) → u_at b ≡ Some (size, s) → into_at 0 b ≡ Some (reached (length s))
unfolding into_at
into_found b s size e = rw e refl

into_passed : (n : ℕ) (b s rest : List ℕ) (size : ℕ) → u_at b ≡ Some (size, s) → preamble_at s ≡ Some rest → into_at (suc n) b ≡ Some (passed n rest)
unfolding into_at
into_passed n b s rest size e f =
    let other : eqb (suc n) 0 ≡ false = suc_eqb n in
    let same : suc n - 1 ≡ n = omega arith in
    rw (e, other, f, same) refl

component_found : (most : ℕ) → Sought most → (n : ℕ) (u t : Tree) (b : List ℕ) → parts (first (component u) t) ≡ Some b → length b ≤ suc most
    → Finds (scope_depth (first (component u) t) ≤ most_depth) (walk_at (suc most) n b) (left_of b (front n (first (component u) t)))
component_found most sought n u t b e fits = by_number n (first_holds (component u) (parts t) b e)
  where
    by_number : (n : ℕ) → (rest : List ℕ) × (parts t ≡ Some rest) × Holds 4 (component_text u) b rest
        → Finds (scope_depth (first (component u) t) ≤ most_depth) (walk_at (suc most) n b) (left_of b (front n (first (component u) t)))
    by_number zero s =
        let h = s.2 in
        let inner = h.contents ++ s.0 in
        let read = tells_u.whole h.framed (length h.contents, inner) (ap (λ r. r ⊕ Some inner) h.size_is ∙ joined h.size inner ∙ ap Some (sym h.sized)) in
        let step : walk_at (suc most) 0 b ≡ Some (length inner) =
        walk_next most 0 b ∙ ap (λ o. o >>= passing (walk_at most)) (pass_into 0 b h.framed h.byte_is ∙ into_found h.framed inner (length h.contents) read) in
        let yes : nat_lt 0 (suc (items u)) ≡ true = lt-ltb 0 (suc (items u)) (omega arith) in
        let is : front 0 (first (component u) t) ≡ Some (header h ++ []) = rw yes (opened_is (component u) b s.0 h (Some [])) in
        let size : length b - length (header h ++ []) ≡ length inner =
        omega (arith, ap length (header_split h), length-append (header h) inner, length-append (header h) []) in
        same_found _ _ (step ∙ ap Some (sym size) ∙ sym (ap (left_of b) is))
    by_number (suc m) s =
        let h = s.2 in
        let inner = h.contents ++ s.0 in
        let read = tells_u.whole h.framed (length h.contents, inner) (ap (λ r. r ⊕ Some inner) h.size_is ∙ joined h.size inner ∙ ap Some (sym h.sized)) in
        let q = parts_are (bytes preamble) (parts u) h.contents h.is in
        let contents : h.contents ≡ preamble ++ q.right = q.is ∙ ap (λ l. l ++ q.right) (sym (same_Some preamble q.left q.p_is)) in
        let rest = q.right ++ s.0 in
        let behind : inner ≡ preamble ++ rest = ap (λ l. l ++ s.0) contents ∙ append_assoc preamble q.right s.0 in
        let step : walk_at (suc most) (suc m) b ≡ walk_at most m rest =
        walk_next most (suc m) b
        ∙ ap (λ o. o >>= passing (walk_at most))
        (pass_into (suc m) b h.framed h.byte_is
        ∙ into_passed m h.framed inner rest (length h.contents) read (ap preamble_at behind ∙ preamble_whole rest)) in
        let split : b ≡ (header h ++ preamble) ++ rest =
        header_split h ∙ ap (λ l. header h ++ l) behind ∙ sym (append_assoc (header h) preamble rest) in
        let v = parts_are (part (component u)) (parts t) b e in
        let same : s.0 ≡ v.right = same_Some _ _ (sym s.1 ∙ v.q_is) in
        let whole : v.left ≡ header h ++ (preamble ++ q.right) =
        append_cancel_right v.left (header h ++ (preamble ++ q.right)) s.0
        (ap (λ l. v.left ++ l) same ∙ sym v.is ∙ split ∙ sym (append_assoc (header h ++ preamble) q.right s.0)
        ∙ ap (λ l. l ++ s.0) (append_assoc (header h) preamble q.right)) in
        let joins : parts (joined_trees u t) ≡ Some rest =
        parts_joined u t ∙ ap (λ o. o ⊕ parts t) q.q_is ∙ ap (λ o. Some q.right ⊕ o) s.1 ∙ joined q.right s.0 in
        let some : 0 < length (header h ++ preamble) = omega (arith, length-append (header h) preamble) in
        subst (λ o. Finds (scope_depth (first (component u) t) ≤ most_depth) o (left_of b (front (suc m) (first (component u) t)))) (sym step)
        (subst (λ o. Finds (scope_depth (first (component u) t) ≤ most_depth) (walk_at most m rest) (left_of b o))
        (sym (front_into m u t (header h) q.right q.q_is (λ x. opened_is (component u) b s.0 h x) (v.p_is ∙ ap Some whole)))
        (further b (header h ++ preamble) rest (walk_at most m rest) (front m (joined_trees u t)) split
        (λ d. depth_joined u t most_depth (omega (arith, d)) (omega (arith, d)))
        (sought m (joined_trees u t) rest joins (omega (arith, fits, some, ap length split, length-append (header h ++ preamble) rest)))))

-- ---- each section

counted_list : {A : Type 0} (f : A → Piece) (xs : List A) (c : List ℕ) → many f xs ≡ Some c → counted_at c ≡ Some (length xs)
counted_list f xs c e = ap (λ o. o >>= λ n. Some n.0) (split f 0 xs c e).read

first_found : (most : ℕ) → Sought most → (n : ℕ) (p : Part) (t : Tree) (b : List ℕ) → parts (first p t) ≡ Some b → length b ≤ suc most
    → Finds (scope_depth (first p t) ≤ most_depth) (walk_at (suc most) n b) (left_of b (front n (first p t)))
unfolding within_at items_of
first_found most sought n (custom m c) t b e h = past_found most sought n (custom m c) t b e h refl (λ d i. refl) (λ d i. sole_found n)
first_found most sought n (core_module m) t b e h = past_found most sought n (core_module m) t b e h refl (λ d i. refl) (λ d i. sole_found n)
first_found most sought n (core_types ts) t b e h =
    past_found most sought n (core_types ts) t b e h refl (λ c i. counted_list core_entry ts c i) (λ c i. told_found core_entry _ tells_core_entry n ts c i)
first_found most sought n (component u) t b e h = component_found most sought n u t b e h
first_found most sought n (types ts) t b e h =
    past_found most sought n (types ts) t b e h refl (λ c i. counted_list entry ts c i)
    (λ c i. list_found (entry_in most_depth) entry (entry_at most_depth) (tells_entry most_depth) clear_entry (each_under most_depth) n ts
    (λ d. each_same most_depth (take n ts) (nest_taken most_depth n ts (omega (arith, d)))) c i)
first_found most sought n (canons fs) t b e h =
    past_found most sought n (canons fs) t b e h refl (λ c i. counted_list canon fs c i) (λ c i. told_found canon _ tells_canon n fs c i)
first_found most sought n (imports is) t b e h =
    past_found most sought n (imports is) t b e h refl (λ c i. counted_list import_entry is c i) (λ c i. told_found import_entry _ tells_import n is c i)
first_found most sought n (exports es) t b e h =
    past_found most sought n (exports es) t b e h refl (λ c i. counted_list export_entry es c i) (λ c i. told_found export_entry _ tells_export n es c i)

walk_found : (most : ℕ) → Sought most
unfolding walk_at
walk_found zero n ends b e h = same_found None None refl
walk_found zero n (first p t) b e h = let s = first_holds p (parts t) b e in absurd (omega (arith, h, ap length s.2.split))
walk_found (suc most) n ends b e h =
    same_found _ None (walk_next most n b ∙ ap (λ o. o >>= passing (walk_at most)) (ap (pass_at n) (sym (same_Some [] b e)) ∙ pass_none n))
walk_found (suc most) n (first p t) b e h = first_found most (walk_found most) n p t b e h

-- ---- in a component

found_is : (n : ℕ) (b rest : List ℕ) → preamble_at b ≡ Some rest → found_at n b ≡ walk_at (length rest) n rest >>= λ left. Some (length b - left)
unfolding found_at
found_is n b rest e = rw e refl

pub place_found : (n : ℕ) (t : Tree) (b : List ℕ) → Spells t b → Finds (scope_depth t ≤ most_depth) (found_at n b) (offset_in n t)
place_found n t b spells =
    let q = parts_are (bytes preamble) (parts t) b spells in
    let is : b ≡ preamble ++ q.right = q.is ∙ ap (λ l. l ++ q.right) (sym (same_Some preamble q.left q.p_is)) in
    subst (λ o. Finds (scope_depth t ≤ most_depth) o (offset_in n t))
    (sym (found_is n b q.right (ap preamble_at is ∙ preamble_whole q.right)))
    (subst (λ o. Finds (scope_depth t ≤ most_depth) (walk_at (length q.right) n q.right >>= λ left. Some (length b - left)) (option_map length o))
    (sym (prefixed preamble (front n t)))
    (by_case q.right (walk_at (length q.right) n q.right) (front n t) (ap length is ∙ length-append preamble q.right)
    (λ y i. front_fits (tree_front n t q.right y q.q_is i)) (walk_found (length q.right) n t q.right q.q_is (omega arith))))
  where
    by_case : {D : Type 0} (r : List ℕ) (o : Option ℕ) (x : Piece) → length b ≡ length preamble + length r → ((y : List ℕ) → x ≡ Some y → length y ≤ length r)
        → Finds D o (left_of r x) → Finds D (o >>= λ left. Some (length b - left)) (option_map length (option_map (λ y. preamble ++ y) x))
    by_case r o None size fits f = record {
      right = λ k h. let m = bind_some o _ k h in let z : None ≡ Some m.0 = f.right m.0 m.1 in absurd cc;
      whole = λ d. ap (λ l. l >>= λ left. Some (length b - left)) (f.whole d);
    }
    by_case {D} r o (Some y) size fits f =
        let there : length (preamble ++ y) ≡ length b - (length r - length y) = omega (arith, size, fits y refl, length-append preamble y) in
        record {
          right = λ k h.
              let m = bind_some o _ k h in
              ap Some there ∙ ap (λ left. Some (length b - left)) (same_Some _ _ (f.right m.0 m.1)) ∙ m.2;
          whole = λ d. ap (λ l. l >>= λ left. Some (length b - left)) (f.whole d) ∙ ap Some (sym there);
        }

-- ---- the loop

pub walk_more : (count i n m : ℕ) (b rest : List ℕ) (total : Option ℕ) → i < count → pass_at n b ≡ Some (passed m rest)
    → walk_at (count - i) n b ≡ total → walk_at (count - (i + 1)) m rest ≡ total
walk_more count i n m b rest total lt e so_far =
    let k : count - i ≡ suc (count - (i + 1)) = omega arith in
    sym (ap (λ l. walk_at l n b) k ∙ walk_next (count - (i + 1)) n b ∙ ap (λ o. o >>= passing (walk_at (count - (i + 1)))) e) ∙ so_far

pub walk_ends : (count i n left : ℕ) (b : List ℕ) (total : Option ℕ) → i < count → pass_at n b ≡ Some (reached left)
    → walk_at (count - i) n b ≡ total → total ≡ Some left
walk_ends count i n left b total lt e so_far =
    let k : count - i ≡ suc (count - (i + 1)) = omega arith in
    sym so_far ∙ ap (λ l. walk_at l n b) k ∙ walk_next (count - (i + 1)) n b ∙ ap (λ o. o >>= passing (walk_at (count - (i + 1)))) e

pub walk_fails : (count i n : ℕ) (b : List ℕ) (total : Option ℕ) → i < count → walk_at (count - i) n b ≡ total → pass_at n b ≡ None → total ≡ None
walk_fails count i n b total lt so_far e =
    let k : count - i ≡ suc (count - (i + 1)) = omega arith in
    sym so_far ∙ ap (λ l. walk_at l n b) k ∙ walk_next (count - (i + 1)) n b ∙ ap (λ o. o >>= passing (walk_at (count - (i + 1)))) e

pub walk_over : (count i n : ℕ) (b : List ℕ) (total : Option ℕ) → count ≤ i → walk_at (count - i) n b ≡ total → total ≡ None
unfolding walk_at
walk_over count i n b total le so_far = let k : count - i ≡ 0 = omega arith in sym so_far ∙ ap (λ l. walk_at l n b) k
