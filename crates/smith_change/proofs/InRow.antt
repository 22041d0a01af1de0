-- Entries in a row, one after another.
use Rattle.std.proofs.Common.{◌≡◌, ℕ, ◌+◌, ◌<◌, ◌≤◌, true, false, Option, Some, None, ap, sym, refl, ◌∙◌}
use Rattle.std.proofs.Common.{List, [], ◌∷◌, ◌++◌, drop, get_or, map, length}
use Rattle.std.proofs.lemmas.List.{map-append, take_rest}
use Rattle.std.specs.Prelude.{slice_range}
use Rattle.std.specs.Option.{option_map}
use Rattle.smith_change.specs.Rows.{first_or}
use Rattle.smith_read.specs.Search.{is_here, past, sought}
use Rattle.smith_read.specs.declared.search.Search.{Search}
use Rattle.smith_read.proofs.Seeking.{and_then, past_none, past_past, sought_none}
use Rattle.smith_change.proofs.Seeking.{both, past_here, sought_both, sought_here, sought_later}
use Rattle.smith_input.proofs.Lists.{map_drop, map_dropped}

range_end : {A : Type 0} (xs : List A) (i : ℕ) → slice_range xs i (length xs) ≡ drop i xs
range_end xs i = take_rest xs i

map_map : {A B C : Type 0} (f : B → C) (g : A → B) (o : Option A) → option_map f (option_map g o) ≡ option_map (λ x. f (g x)) o
map_map f g None = refl
map_map f g (Some x) = refl

map_with : {A B : Type 0} (f g : A → B) (o : Option A) → ((x : A) → f x ≡ g x) → option_map f o ≡ option_map g o
map_with f g None h = refl
map_with f g (Some x) h = ap Some (h x)

-- Entries that are gathered to a whole, each of which is one place with what is inside it.
pub record InRow (X A C : Type 0) : Type 0 where
  pub shown : X → A
  pub gather : List A → C
  pub cons : A → C → C
  pub size : A → ℕ
  pub sizes : C → ℕ
  pub changed : ℕ → A → Option A
  pub edited : List A → Option (List A)
  pub own : A → C → Option C
  pub all : ℕ → C → Option C
  pub first : (x : A) (xs : List A) → gather (x ∷ xs) ≡ cons x (gather xs)
  pub none : sizes (gather []) ≡ 0
  pub sum : (x : A) (c : C) → sizes (cons x c) ≡ 1 + (size x + sizes c)
  pub own_is : (x : A) (xs : List A) → own x (gather xs) ≡ option_map gather (edited (x ∷ xs))
  pub turn : (x : A) (c : C) → (λ k. all k (cons x c))
      ≡ first_or (own x c) (both cons (size x) (sizes c) (λ j. changed j x) (λ j. all j c) x c)

-- entries, and then a whole
abbrev pub prepend : {A C : Type 0} → (A → C → C) → List A → C → C
prepend cons [] c = c
prepend cons (x ∷ xs) c = cons x (prepend cons xs c)

prepend_push : {A C : Type 0} (cons : A → C → C) (xs : List A) (x : A) (c : C) → prepend cons xs (cons x c) ≡ prepend cons (xs ++ x ∷ []) c
prepend_push cons [] x c = refl
prepend_push cons (y ∷ ys) x c = ap (cons y) (prepend_push cons ys x c)

module _ {X A C : Type 0} (r : InRow X A C) where
  -- what is sought in an entry, and in a whole

  abbrev pub seek_one : Search → A → Option A
  seek_one s x = sought (r.size x) s (λ k. r.changed k x) x

  abbrev pub seek : Search → C → Option C
  seek s c = sought (r.sizes c) s (λ k. r.all k c) c

  -- after these
  abbrev pub after_these : List A → Search → List A → Option C
  after_these done s rest = option_map (prepend r.cons done) (seek s (r.gather rest))

  -- what follows an entry
  abbrev and_rest : Search → A → C → Option A → Option C
  and_rest s x c o = and_then o (λ y. option_map (r.cons y) (seek (past (r.size x) s) c))

  prepend_all : (xs : List A) → prepend r.cons xs (r.gather []) ≡ r.gather xs
  prepend_all [] = refl
  prepend_all (x ∷ xs) = ap (r.cons x) (prepend_all xs) ∙ sym (r.first x xs)

  gather_append : (xs ys : List A) → r.gather (xs ++ ys) ≡ prepend r.cons xs (r.gather ys)
  gather_append [] ys = refl
  gather_append (x ∷ xs) ys = r.first x (xs ++ ys) ∙ ap (r.cons x) (gather_append xs ys)

  -- what is sought in an entry and a whole, as the places are counted
  abbrev pub turned : Search → A → C → Option C
  turned s x c = sought (1 + (r.size x + r.sizes c)) s
      (first_or (r.own x c) (both r.cons (r.size x) (r.sizes c) (λ j. r.changed j x) (λ j. r.all j c) x c)) (r.cons x c)

  seek_turned : (s : Search) (x : A) (c : C) → seek s (r.cons x c) ≡ turned s x c
  seek_turned s x c =
      ap (λ n. sought n s (λ k. r.all k (r.cons x c)) (r.cons x c)) (r.sum x c)
      ∙ ap (λ f. sought (1 + (r.size x + r.sizes c)) s f (r.cons x c)) (r.turn x c)

  -- the entry itself
  seek_own : (s : Search) (x : A) (c : C) → is_here s ≡ true → seek s (r.cons x c) ≡ r.own x c
  seek_own s x c is = seek_turned s x c ∙ sought_here (r.size x + r.sizes c) (r.own x c)
      (both r.cons (r.size x) (r.sizes c) (λ j. r.changed j x) (λ j. r.all j c) x c) (r.cons x c) s is

  -- an entry and what follows it, past the entry's own place
  seek_past : (s : Search) (x : A) (c : C) → is_here s ≡ false → seek s (r.cons x c) ≡ and_rest (past 1 s) x c (seek_one (past 1 s) x)
  seek_past s x c is =
      seek_turned s x c
      ∙ sought_later (r.size x + r.sizes c) (r.own x c)
      (both r.cons (r.size x) (r.sizes c) (λ j. r.changed j x) (λ j. r.all j c) x c) (r.cons x c) s is
      ∙ sought_both r.cons (r.size x) (r.sizes c) (λ j. r.changed j x) (λ j. r.all j c) x c (past 1 s)

  module _ (s : Search) (xs : List X) (i : ℕ) (x : X) (lt : i < length xs) (at : x ≡ get_or xs i x) where
    abbrev left : C
    left = r.gather (map r.shown (drop (i + 1) xs))

    split : r.gather (map r.shown (drop i xs)) ≡ r.cons (r.shown x) left
    split = ap r.gather (map_drop r.shown xs i x lt at) ∙ r.first (r.shown x) (map r.shown (drop (i + 1) xs))

    next : (t : Search) → is_here s ≡ false → t ≡ past 1 s
        → seek s (r.gather (map r.shown (drop i xs))) ≡ and_rest t (r.shown x) left (seek_one t (r.shown x))
    next t is on = ap (seek s) split ∙ seek_past s (r.shown x) left is ∙ ap (λ u. and_rest u (r.shown x) left (seek_one u (r.shown x))) (sym on)

    pub seek_step : (t v : Search) (done done2 : List X) (y : X) (whole : Option C) → is_here s ≡ false → t ≡ past 1 s
        → Some (r.shown y) ≡ seek_one t (r.shown x) → v ≡ past (r.size (r.shown x)) t → done2 ≡ done ++ y ∷ []
        → after_these (map r.shown done) s (map r.shown (drop i xs)) ≡ whole → after_these (map r.shown done2) v (map r.shown (drop (i + 1) xs)) ≡ whole
    seek_step t v done done2 y whole is on found moved more h =
        let rest : Option C = seek (past (r.size (r.shown x)) t) left in
        let now : seek s (r.gather (map r.shown (drop i xs))) ≡ option_map (r.cons (r.shown y)) rest =
        next t is on ∙ sym (ap (and_rest t (r.shown x) left) found) in
        rw (more, map-append r.shown done (y ∷ []), moved)
        (sym (map_with (λ c. prepend r.cons (map r.shown done) (r.cons (r.shown y) c)) (prepend r.cons (map r.shown done ++ r.shown y ∷ [])) rest
        (prepend_push r.cons (map r.shown done) (r.shown y)))
        ∙ (sym (map_map (prepend r.cons (map r.shown done)) (r.cons (r.shown y)) rest) ∙ (sym (ap (option_map (prepend r.cons (map r.shown done))) now) ∙ h)))

    pub seek_fails : (t : Search) (done : List X) (whole : Option C) → is_here s ≡ false → t ≡ past 1 s → None ≡ seek_one t (r.shown x)
        → after_these (map r.shown done) s (map r.shown (drop i xs)) ≡ whole → None ≡ whole
    seek_fails t done whole is on found h =
        sym (ap (option_map (prepend r.cons (map r.shown done))) (next t is on ∙ sym (ap (and_rest t (r.shown x) left) found))) ∙ h

    pub seek_here : {V : Type 0} (view : V → List X) (done : List X) (found : Option V) (whole : Option C) → is_here s ≡ true
        → option_map (λ v. map r.shown (view v)) found
        ≡ option_map (λ ys. map r.shown done ++ ys) (r.edited (map r.shown (slice_range xs i (length xs))))
        → after_these (map r.shown done) s (map r.shown (drop i xs)) ≡ whole → option_map (λ v. r.gather (map r.shown (view v))) found ≡ whole
    seek_here view done found whole is by h =
        let others : List A = map r.shown (drop (i + 1) xs) in
        let e : Option (List A) = r.edited (r.shown x ∷ others) in
        let now : seek s (r.gather (map r.shown (drop i xs))) ≡ option_map r.gather e =
        ap (seek s) split ∙ seek_own s (r.shown x) left is ∙ r.own_is (r.shown x) others in
        let told : option_map (λ v. map r.shown (view v)) found ≡ option_map (λ ys. map r.shown done ++ ys) e =
        by ∙ ap (λ ys. option_map (λ zs. map r.shown done ++ zs) (r.edited (map r.shown ys))) (range_end xs i)
        ∙ ap (λ ys. option_map (λ zs. map r.shown done ++ zs) (r.edited ys)) (map_drop r.shown xs i x lt at) in
        sym (map_map r.gather (λ v. map r.shown (view v)) found) ∙ ap (option_map r.gather) told
        ∙ map_map r.gather (λ ys. map r.shown done ++ ys) e
        ∙ map_with (λ ys. r.gather (map r.shown done ++ ys)) (λ ys. prepend r.cons (map r.shown done) (r.gather ys)) e (gather_append (map r.shown done))
        ∙ sym (map_map (prepend r.cons (map r.shown done)) r.gather e) ∙ sym (ap (option_map (prepend r.cons (map r.shown done))) now) ∙ h

    sizes_left : r.sizes (r.gather (map r.shown (drop i xs))) ≡ 1 + (r.size (r.shown x) + r.sizes left)
    sizes_left = ap r.sizes split ∙ r.sum (r.shown x) left

    pub moved_step : (t v whole : Search) → t ≡ past 1 s → v ≡ past (r.size (r.shown x)) t
        → past (r.sizes (r.gather (map r.shown (drop i xs)))) s ≡ whole → past (r.sizes left) v ≡ whole
    moved_step t v whole on moved h =
        rw (moved, on)
        (past_past (r.sizes left) (r.size (r.shown x)) (past 1 s) ∙ past_past (r.size (r.shown x) + r.sizes left) 1 s
        ∙ (sym (ap (λ m. past m s) sizes_left) ∙ h))

    pub moved_here : (t whole : Search) → is_here s ≡ true → t ≡ past 1 s → past (r.sizes (r.gather (map r.shown (drop i xs)))) s ≡ whole → t ≡ whole
    moved_here t whole is on h = on ∙ past_here (r.size (r.shown x) + r.sizes left) s is ∙ (sym (ap (λ m. past m s) sizes_left) ∙ h)

  empty_sought : (s : Search) → seek s (r.gather []) ≡ Some (r.gather [])
  empty_sought s = ap (λ n. sought n s (λ k. r.all k (r.gather [])) (r.gather [])) r.none ∙ sought_none s (λ k. r.all k (r.gather [])) (r.gather [])

  pub seek_end : (s : Search) (xs : List X) (i : ℕ) (done : List A) (whole : Option C) → length xs ≤ i
      → after_these done s (map r.shown (drop i xs)) ≡ whole → Some (r.gather done) ≡ whole
  seek_end s xs i done whole ge h =
      sym (ap Some (prepend_all done))
      ∙ (sym (ap (option_map (prepend r.cons done)) (ap (λ ys. seek s (r.gather ys)) (map_dropped r.shown xs i ge) ∙ empty_sought s)) ∙ h)

  pub moved_end : (s : Search) (xs : List X) (i : ℕ) (whole : Search) → length xs ≤ i
      → past (r.sizes (r.gather (map r.shown (drop i xs)))) s ≡ whole → s ≡ whole
  moved_end s xs i whole ge h =
      sym (ap (λ ys. past (r.sizes (r.gather ys)) s) (map_dropped r.shown xs i ge) ∙ ap (λ n. past n s) r.none ∙ past_none s) ∙ h

  -- nothing is done yet
  pub seek_start : (s : Search) (c : C) → option_map (prepend r.cons []) (seek s c) ≡ seek s c
  seek_start s c = by (seek s c)
    where
      by : (o : Option C) → option_map (prepend r.cons []) o ≡ o
      by None = refl
      by (Some d) = refl
