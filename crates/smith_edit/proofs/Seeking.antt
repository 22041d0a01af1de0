-- What is sought, item by item.
use Rattle.std.proofs.Common.{◌≡◌, ℕ, ◌+◌, ◌-◌, ◌<◌, ◌≤◌, true, false, Option, Some, None, ap, sym, refl, ◌∙◌, arith, nat_lt, ⊎_elim}
use Rattle.std.proofs.Common.{List, [], ◌∷◌, ◌++◌, drop, get_or, map, length}
use Rattle.std.proofs.lemmas.Bool.{cases_lt}
use Rattle.std.proofs.lemmas.Bool.Decides.{nat_tests}
use Rattle.std.specs.Prelude.{if◌then◌else◌}
use Rattle.std.specs.Option.{option_map}
use Rattle.std.proofs.lemmas.List.{map-append}
use Rattle.smith_syntax.specs.Entries.{Decl, Decls, Entry, in_order, then_decls}
use Rattle.smith_tree.specs.Tree.{Part, Tree, first, tree_of}
use Rattle.smith_read.specs.PartNodes.{shown_part_node}
use Rattle.smith_read.specs.declared.nodes.PartNode.{PartNode}
use Rattle.smith_read.specs.TypeNodes.{shown_decl_node, shown_type_node}
use Rattle.smith_read.specs.declared.type_nodes.DeclNode.{DeclNode}
use Rattle.smith_read.specs.declared.type_nodes.TypeNode.{TypeNode}
use Rattle.smith_read.specs.Search.{past, sought}
use Rattle.smith_read.specs.declared.search.Search.{Search}
use Rattle.smith_read.specs.declared.search.Search.TheVariants.{Ahead, Over}
use Rattle.smith_read.proofs.Seeking.{and_then, past_less, past_more, past_past, sought_less, sought_more, sought_none}
use Rattle.smith_edit.specs.Items.{decl_items, decls_items, entry_items, part_items, row_items, tree_items}
use Rattle.smith_edit.specs.Simpler.{decl_simplified, decls_simplified, entry_simplified, itself_or, part_simplified, sections_simplified}
use Rattle.smith_edit.specs.Simpler.{simpler_decl, simpler_entry, simpler_part, types_simplified}
use Rattle.smith_input.proofs.Lists.{map_drop, map_dropped}

-- the item here or one inside it, or one of the ones after it

pub turn_here : {C : Type 0} (k n : ℕ) (here there : C) → k < n → (if nat_lt k n then here else there) ≡ here
turn_here k n here there h = let t : nat_lt k n ≡ true = grind (arith, nat_tests) in rw t refl

pub turn_there : {C : Type 0} (k n : ℕ) (here there : C) → n ≤ k → (if nat_lt k n then here else there) ≡ there
turn_there k n here there h = let t : nat_lt k n ≡ false = grind (arith, nat_tests) in rw t refl

-- A first that has n items, and a rest that has m.

module _ {A B C : Type 0} (cons : A → B → C) (n m : ℕ) (f : ℕ → Option A) (g : ℕ → Option B) (h : ℕ → Option C) (x : A) (xs : B)
    (here : (k : ℕ) → k < n → h k ≡ option_map (λ y. cons y xs) (f k)) (there : (k : ℕ) → n ≤ k → h k ≡ option_map (cons x) (g (k - n))) where
  -- the first, and then the rest
  abbrev pub in_turn : Search → Option A → Option C
  in_turn s o = and_then o (λ y. option_map (cons y) (sought m (past n s) g xs))

  first_by : (o : Option A) → option_map (λ y. cons y xs) o ≡ and_then o (λ y. option_map (cons y) (Some xs))
  first_by None = refl
  first_by (Some y) = refl

  first_turn : (k : ℕ) → k < n → sought (n + m) (Ahead k) h (cons x xs) ≡ in_turn (Ahead k) (sought n (Ahead k) f x)
  first_turn k lt = grind (arith, sought_less, first_by, past_less)

  rest_there : (k : ℕ) → n ≤ k → k < n + m → sought (n + m) (Ahead k) h (cons x xs) ≡ option_map (cons x) (sought m (Ahead (k - n)) g xs)
  rest_there k ge lt =
      sought_less (n + m) k h (cons x xs) lt ∙ there k ge ∙ sym (ap (option_map (cons x)) (sought_less m (k - n) g xs (omega arith)))

  rest_later : (k : ℕ) → n + m ≤ k → sought (n + m) (Ahead k) h (cons x xs) ≡ option_map (cons x) (sought m (Ahead (k - n)) g xs)
  rest_later k ge = sought_more (n + m) k h (cons x xs) ge ∙ sym (ap (option_map (cons x)) (sought_more m (k - n) g xs (omega arith)))

  rest_turn : (k : ℕ) → n ≤ k → sought (n + m) (Ahead k) h (cons x xs) ≡ in_turn (Ahead k) (sought n (Ahead k) f x)
  rest_turn k ge = grind (arith, rest_there, rest_later, cases_lt, past_more, sought_more)

  pub sought_turn : (s : Search) → sought (n + m) s h (cons x xs) ≡ in_turn s (sought n s f x)
  sought_turn (Ahead k) = ⊎_elim (first_turn k) (rest_turn k) (cases_lt k n)
  sought_turn Over = refl

-- what is sought among items in a row

map_map : {A B C : Type 0} (f : B → C) (g : A → B) (o : Option A) → option_map f (option_map g o) ≡ option_map (λ x. f (g x)) o
map_map f g None = refl
map_map f g (Some x) = refl

map_with : {A B : Type 0} (f g : A → B) (o : Option A) → ((x : A) → f x ≡ g x) → option_map f o ≡ option_map g o
map_with f g None h = refl
map_with f g (Some x) h = ap Some (h x)

-- Items that are gathered to a whole, each of which is that many items with what is inside it.
pub record InRow (X A C : Type 0) : Type 0 where
  pub shown : X → A
  pub gather : List A → C
  pub cons : A → C → C
  pub size : A → ℕ
  pub sizes : C → ℕ
  pub simpler : ℕ → A → Option A
  pub all : ℕ → C → Option C
  pub first : (x : A) (xs : List A) → gather (x ∷ xs) ≡ cons x (gather xs)
  pub none : sizes (gather []) ≡ 0
  pub sum : (x : A) (c : C) → sizes (cons x c) ≡ size x + sizes c
  pub here : (k : ℕ) (x : A) (c : C) → k < size x → all k (cons x c) ≡ option_map (λ y. cons y c) (simpler k x)
  pub there : (k : ℕ) (x : A) (c : C) → size x ≤ k → all k (cons x c) ≡ option_map (cons x) (all (k - size x) c)

-- items, and then a whole
abbrev pub prepend : {A C : Type 0} → (A → C → C) → List A → C → C
prepend cons [] c = c
prepend cons (x ∷ xs) c = cons x (prepend cons xs c)

prepend_push : {A C : Type 0} (cons : A → C → C) (xs : List A) (x : A) (c : C) → prepend cons xs (cons x c) ≡ prepend cons (xs ++ x ∷ []) c
prepend_push cons [] x c = refl
prepend_push cons (y ∷ ys) x c = ap (cons y) (prepend_push cons ys x c)

module _ {X A C : Type 0} (r : InRow X A C) where
  -- what is sought in an item, and in a whole

  abbrev pub seek_one : Search → A → Option A
  seek_one s x = sought (r.size x) s (λ k. r.simpler k x) x

  abbrev pub seek : Search → C → Option C
  seek s c = sought (r.sizes c) s (λ k. r.all k c) c

  -- after these
  abbrev pub after_these : List A → Search → List A → Option C
  after_these done s rest = option_map (prepend r.cons done) (seek s (r.gather rest))

  -- what follows an item
  abbrev pub and_rest : Search → A → C → Option A → Option C
  and_rest s x c o = and_then o (λ y. option_map (r.cons y) (seek (past (r.size x) s) c))

  pub prepend_all : (xs : List A) → prepend r.cons xs (r.gather []) ≡ r.gather xs
  prepend_all [] = refl
  prepend_all (x ∷ xs) = ap (r.cons x) (prepend_all xs) ∙ sym (r.first x xs)

  seek_cons : (s : Search) (x : A) (c : C) → seek s (r.cons x c) ≡ and_rest s x c (seek_one s x)
  seek_cons s x c =
      ap (λ n. sought n s (λ k. r.all k (r.cons x c)) (r.cons x c)) (r.sum x c)
      ∙ sought_turn r.cons (r.size x) (r.sizes c) (λ k. r.simpler k x) (λ k. r.all k c) (λ k. r.all k (r.cons x c)) x c (λ k. r.here k x c)
      (λ k. r.there k x c) s

  module _ (s : Search) (xs : List X) (i : ℕ) (x : X) (lt : i < length xs) (at : x ≡ get_or xs i x) where
    here_first : seek s (r.gather (map r.shown (drop i xs))) ≡ and_rest s (r.shown x) (r.gather (map r.shown (drop (i + 1) xs))) (seek_one s (r.shown x))
    here_first =
        ap (λ ys. seek s (r.gather ys)) (map_drop r.shown xs i x lt at)
        ∙ ap (seek s) (r.first (r.shown x) (map r.shown (drop (i + 1) xs))) ∙ seek_cons s (r.shown x) (r.gather (map r.shown (drop (i + 1) xs)))

    pub seek_step : (v : Search) (done done2 : List X) (y : X) (whole : Option C) → Some (r.shown y) ≡ seek_one s (r.shown x)
        → v ≡ past (r.size (r.shown x)) s → done2 ≡ done ++ y ∷ []
        → after_these (map r.shown done) s (map r.shown (drop i xs)) ≡ whole → after_these (map r.shown done2) v (map r.shown (drop (i + 1) xs)) ≡ whole
    seek_step v done done2 y whole is on more h =
        let left : C = r.gather (map r.shown (drop (i + 1) xs)) in
        let rest : Option C = seek (past (r.size (r.shown x)) s) left in
        let next : seek s (r.gather (map r.shown (drop i xs))) ≡ option_map (r.cons (r.shown y)) rest =
        here_first ∙ sym (ap (and_rest s (r.shown x) left) is) in
        rw (more, map-append r.shown done (y ∷ []), on)
        (sym (map_with (λ c. prepend r.cons (map r.shown done) (r.cons (r.shown y) c)) (prepend r.cons (map r.shown done ++ r.shown y ∷ [])) rest
        (prepend_push r.cons (map r.shown done) (r.shown y)))
        ∙ (sym (map_map (prepend r.cons (map r.shown done)) (r.cons (r.shown y)) rest) ∙ (sym (ap (option_map (prepend r.cons (map r.shown done))) next) ∙ h)))

    pub moved_step : (v whole : Search) → v ≡ past (r.size (r.shown x)) s → past (r.sizes (r.gather (map r.shown (drop i xs)))) s ≡ whole
        → past (r.sizes (r.gather (map r.shown (drop (i + 1) xs)))) v ≡ whole
    moved_step v whole on h =
        let left : C = r.gather (map r.shown (drop (i + 1) xs)) in
        let n : r.sizes (r.gather (map r.shown (drop i xs))) ≡ r.size (r.shown x) + r.sizes left =
        ap (λ ys. r.sizes (r.gather ys)) (map_drop r.shown xs i x lt at) ∙ ap r.sizes (r.first (r.shown x) (map r.shown (drop (i + 1) xs)))
        ∙ r.sum (r.shown x) left in
        rw on (past_past (r.sizes left) (r.size (r.shown x)) s ∙ (sym (ap (λ m. past m s) n) ∙ h))

  empty_sought : (s : Search) → seek s (r.gather []) ≡ Some (r.gather [])
  empty_sought s = ap (λ n. sought n s (λ k. r.all k (r.gather [])) (r.gather [])) r.none ∙ sought_none s (λ k. r.all k (r.gather [])) (r.gather [])

  pub seek_end : (s : Search) (xs : List X) (i : ℕ) (done : List A) (whole : Option C) → length xs ≤ i
      → after_these done s (map r.shown (drop i xs)) ≡ whole → Some (r.gather done) ≡ whole
  seek_end s xs i done whole ge h =
      sym (ap Some (prepend_all done))
      ∙ (sym (ap (option_map (prepend r.cons done)) (ap (λ ys. seek s (r.gather ys)) (map_dropped r.shown xs i ge) ∙ empty_sought s)) ∙ h)

-- types, declarations and sections in a row, one of which is made simpler

-- with itself

abbrev pub one_entry : ℕ → Entry → Option Entry
one_entry k e = itself_or (simpler_entry e) (λ j. entry_simplified j e) k

abbrev pub one_decl : List (List ℕ) → List (List ℕ) → ℕ → Decl → Option Decl
one_decl is es k d = itself_or (simpler_decl is es d) (λ j. decl_simplified j d) k

abbrev pub one_part : List (List ℕ) → List (List ℕ) → ℕ → Part → Option Part
one_part is es k p = itself_or (simpler_part p) (λ j. part_simplified is es j p) k

abbrev pub type_row : InRow TypeNode Entry (List Entry)
type_row = record {
  shown = shown_type_node;
  gather = λ es. es;
  cons = λ e es. e ∷ es;
  size = λ e. entry_items e + 1;
  sizes = row_items entry_items;
  simpler = one_entry;
  all = types_simplified;
  first = λ e es. refl;
  none = refl;
  sum = λ e es. refl;
  here = λ k e es h. turn_here k (entry_items e + 1) _ _ h;
  there = λ k e es h. turn_there k (entry_items e + 1) _ _ h;
}

module _ (is es : List (List ℕ)) where
  abbrev pub decl_row : InRow DeclNode Decl Decls
  decl_row = record {
    shown = shown_decl_node;
    gather = in_order;
    cons = then_decls;
    size = λ d. decl_items d + 1;
    sizes = decls_items;
    simpler = one_decl is es;
    all = decls_simplified is es;
    first = λ d ds. refl;
    none = refl;
    sum = λ d ds. refl;
    here = λ k d ds h. turn_here k (decl_items d + 1) _ _ h;
    there = λ k d ds h. turn_there k (decl_items d + 1) _ _ h;
  }

  abbrev pub part_row : InRow PartNode Part Tree
  part_row = record {
    shown = shown_part_node;
    gather = tree_of;
    cons = first;
    size = λ p. part_items p + 1;
    sizes = tree_items;
    simpler = one_part is es;
    all = sections_simplified is es;
    first = λ p ps. refl;
    none = refl;
    sum = λ p t. refl;
    here = λ k p t h. turn_here k (part_items p + 1) _ _ h;
    there = λ k p t h. turn_there k (part_items p + 1) _ _ h;
  }
