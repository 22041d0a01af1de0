-- Loops that ask before each turn: what they leave, that they are determined, what a script says, and turn by turn.
use Rattle.std.proofs.Common.{◌≡◌, ℕ, ◌+◌, ◌<◌, ◌≤◌, Bool, true, false, List, [], ◌∷◌, ◌++◌, length, refl, sym, ap, ◌∙◌, subst, arith, append-nil, append_assoc}
use Rattle.std.proofs.Common.{nat_lt, map}
use Rattle.std.specs.List.{AllByRecursion}
use Rattle.std.specs.Prelude.{if◌then◌else◌}
use Rattle.std.proofs.lemmas.Bool.Decides.{nat_tests}
use Rattle.smith_input.specs.Loops.{Loop, no_more, by_itself, an_item, after_all, Along}
use Rattle.smith_input.specs.Script.{script_end, script_more, script_loop}
use Rattle.smith_input.specs.Reading.{More, IsTail}
use Rattle.smith_input.proofs.Reading.{tail_trans, more_tail, more_unique, more_full, more_within, more_past, more_one, more_zero, more_first}

module _ {S A : Type 0} {Ends : S → List ℕ → List ℕ → S → Type 0} {Item : S → List ℕ → A → List ℕ → S → Type 0} {bits min max : ℕ} where
  -- What a loop leaves is a tail, if its items and its own end leave tails.
  pub loop_tail : ((s : S) (b r : List ℕ) (t : S) → Ends s b r t → IsTail r b)
      → ((s : S) (b : List ℕ) (x : A) (r : List ℕ) (t : S) → Item s b x r t → IsTail r b)
      → (done : ℕ) (s : S) (b : List ℕ) (xs : List A) (rest : List ℕ) (t : S) → Loop Ends Item bits min max done s b xs rest t → IsTail rest b
  loop_tail ends items done s b xs rest t (no_more m e) = more_tail m
  loop_tail ends items done s b xs rest t (by_itself {mid = mid} m e) = tail_trans (ends s mid rest t e) (more_tail m)
  loop_tail ends items done s b xs rest u (an_item {t = t} {mid = mid} {after = after} {x = x} {xs = ys} m i l) =
      tail_trans (loop_tail ends items (done + 1) t after ys rest u l) (tail_trans (items s mid x after t i) (more_tail m))

  -- What a loop produces, by what its ends and its items produce: R s xs t leads from the state s by the items to the
  -- state t.
  pub loop_gives : (R : S → List A → S → Type 0) → ((s : S) → R s [] s) → ((s : S) (b r : List ℕ) (t : S) → Ends s b r t → R s [] t)
      → ((s t u : S) (b : List ℕ) (x : A) (r : List ℕ) (xs : List A) → Item s b x r t → R t xs u → R s (x ∷ xs) u)
      → (done : ℕ) (s : S) (b : List ℕ) (xs : List A) (rest : List ℕ) (t : S) → Loop Ends Item bits min max done s b xs rest t → R s xs t
  loop_gives R none ends items done s b xs rest t (no_more m e) = subst (λ z. R s [] z) (sym e) (none s)
  loop_gives R none ends items done s b xs rest t (by_itself {mid = mid} m e) = ends s mid rest t e
  loop_gives R none ends items done s b xs rest u (an_item {t = t} {mid = mid} {after = after} {x = x} {xs = ys} m i l) =
      items s t u mid x after ys i (loop_gives R none ends items (done + 1) t after ys rest u l)

  -- each item is as it should be
  pub loop_all : (P : A → Type 0) → ((s : S) (b : List ℕ) (x : A) (r : List ℕ) (t : S) → Item s b x r t → P x)
      → (done : ℕ) (s : S) (b : List ℕ) (xs : List A) (rest : List ℕ) (t : S) → Loop Ends Item bits min max done s b xs rest t → AllByRecursion P xs
  loop_all P items = loop_gives (λ s xs t. AllByRecursion P xs) (λ s. tt) (λ s b r t e. tt) (λ s t u b x r xs i all. (items s b x r t i, all))

  -- a loop makes no more turns than it may
  pub loop_few : (done : ℕ) (s : S) (b : List ℕ) (xs : List A) (rest : List ℕ) (t : S) → done ≤ max → Loop Ends Item bits min max done s b xs rest t
      → done + length xs ≤ max
  loop_few done s b xs rest t h (no_more m e) = omega arith
  loop_few done s b xs rest t h (by_itself m e) = omega arith
  loop_few done s b xs rest u h (an_item {t = t} {after = after} {xs = ys} m i l) =
      let lt : done < max = more_within m in omega (arith, loop_few (done + 1) t after ys rest u (omega (arith, lt)) l)

  -- The bytes and the state decide a loop, if they decide its items and its own end, and which of both it is.
  pub loop_same : ((s : S) (b r q : List ℕ) (t u : S) → Ends s b r t → Ends s b q u → (r ≡ q) × (t ≡ u))
      → ((s : S) (b : List ℕ) (x : A) (r q : List ℕ) (t u : S) → Ends s b r t → Item s b x q u → ⊥)
      → ((s : S) (b : List ℕ) (x y : A) (r q : List ℕ) (t u : S) → Item s b x r t → Item s b y q u → (x ≡ y) × (r ≡ q) × (t ≡ u))
      → (done : ℕ) (s : S) (b : List ℕ) (xs ys : List A) (r q : List ℕ) (t u : S) → Loop Ends Item bits min max done s b xs r t
      → Loop Ends Item bits min max done s b ys q u → (xs ≡ ys) × (r ≡ q) × (t ≡ u)
  loop_same ends apart items done s b xs ys r q t u (no_more m e) (no_more n f) = (refl, (more_unique m n).1, e ∙ sym f)
  loop_same ends apart items done s b xs ys r q t u (no_more m e) (by_itself n f) = absurd (let z : false ≡ true = (more_unique m n).0 in cc)
  loop_same ends apart items done s b xs ys r q t u (no_more m e) (an_item n i l) = absurd (let z : false ≡ true = (more_unique m n).0 in cc)
  loop_same ends apart items done s b xs ys r q t u (by_itself m e) (no_more n f) = absurd (let z : true ≡ false = (more_unique m n).0 in cc)
  loop_same ends apart items done s b xs ys r q t u (by_itself {mid = mid} m e) (by_itself {mid = low} n f) =
      let d = ends s low r q t u (subst (λ z. Ends s z r t) (more_unique m n).1 e) f in (refl, d.0, d.1)
  loop_same ends apart items done s b xs ys r q t u (by_itself {mid = mid} m e) (an_item {t = v} {mid = low} {after = after} {x = x} n i l) =
      absurd (apart s low x r after t v (subst (λ z. Ends s z r t) (more_unique m n).1 e) i)
  loop_same ends apart items done s b xs ys r q t u (an_item m i l) (no_more n f) = absurd (let z : true ≡ false = (more_unique m n).0 in cc)
  loop_same ends apart items done s b xs ys r q t u (an_item {t = v} {mid = mid} {after = after} {x = x} m i l) (by_itself {mid = low} n f) =
      absurd (apart s low x q after u v f (subst (λ z. Item s z x after v) (more_unique m n).1 i))
  loop_same ends apart items done s b xs ys r q t u (an_item {t = v} {mid = mid} {after = after} {x = x} {xs = vs} m i l)
      (an_item {t = w} {mid = low} {after = behind} {x = y} {xs = ws} n j k) =
      let c = items s low x y after behind v w (subst (λ z. Item s z x after v) (more_unique m n).1 i) j in
      let d = loop_same ends apart items (done + 1) w behind vs ws r q t u
      (subst (λ z. Loop Ends Item bits min max (done + 1) z behind vs r t) c.2 (subst (λ z. Loop Ends Item bits min max (done + 1) v z vs r t) c.1 l)) k in
      (λ h. c.0 h ∷ d.0 h, d.1, d.2)

-- a loop that never ends by itself makes no fewer turns than it must
pub loop_enough : {S A : Type 0} {Ends : S → List ℕ → List ℕ → S → Type 0} {Item : S → List ℕ → A → List ℕ → S → Type 0} {bits min max : ℕ}
    → ((s : S) (b r : List ℕ) (t : S) → Ends s b r t → ⊥) → min ≤ max
    → (done : ℕ) (s : S) (b : List ℕ) (xs : List A) (rest : List ℕ) (t : S) → Loop Ends Item bits min max done s b xs rest t → min ≤ done + length xs
loop_enough {bits = bits} {min = min} {max = max} never h done s b xs rest t (no_more m e) = by_room (nat_lt done max) refl
  where
    by_room : (z : Bool) → nat_lt done max ≡ z → min ≤ done + 0
    by_room true f = let lt : done < max = grind (arith, nat_tests) in let le : min ≤ done = more_past lt m in omega arith
    by_room false f = let le : max ≤ done = grind (arith, nat_tests) in omega arith
loop_enough never h done s b xs rest t (by_itself {mid = mid} m e) = absurd (never s mid rest t e)
loop_enough never h done s b xs rest u (an_item {t = t} {after = after} {xs = ys} m i l) = omega (arith, loop_enough never h (done + 1) t after ys rest u l)

-- the bytes of a script that ask for a turn, and for none
module _ (bits min max : ℕ) where
  more_cases : (done : ℕ) (rest : List ℕ) → done < max → (b : Bool) → nat_lt done min ≡ b
      → More bits done min max ((if b then [] else 1 ∷ []) ++ rest) true rest
  more_cases done rest lt true e = more_first rest lt (let z : done < min = grind (arith, nat_tests) in z)
  more_cases done rest lt false e = more_one rest lt (let z : min ≤ done = grind (arith, nat_tests) in z)

  pub more_read : (done : ℕ) (rest : List ℕ) → done < max → More bits done min max (script_more min done ++ rest) true rest
  more_read done rest lt = more_cases done rest lt (nat_lt done min) refl

  end_cases : (done : ℕ) (rest : List ℕ) → min ≤ done → done ≤ max → (b : Bool) → nat_lt done max ≡ b
      → More bits done min max ((if b then 0 ∷ [] else []) ++ rest) false rest
  end_cases done rest some few true e = more_zero rest (let z : done < max = grind (arith, nat_tests) in z) some
  end_cases done rest some few false e = more_full rest (let z : max ≤ done = grind (arith, nat_tests) in z)

  pub end_read : (done : ℕ) (rest : List ℕ) → min ≤ done → done ≤ max → More bits done min max (script_end done max ++ rest) false rest
  end_read done rest some few = end_cases done rest some few (nat_lt done max) refl

-- what all items are holds along the list
pub along_all : {S A : Type 0} (P : A → Type 0) (next : S → A → S) (s : S) (xs : List A) → AllByRecursion P xs → Along (λ s x. P x) next s xs
along_all P next s [] all = tt
along_all P next s (x ∷ xs) all = (all.0, along_all P next (next s x) xs all.1)

-- A script of a loop is read as its items, if each item's script is read as that item in the state before it.
pub loop_read : {S A : Type 0} {Ends : S → List ℕ → List ℕ → S → Type 0} {Item : S → List ℕ → A → List ℕ → S → Type 0} {bits min max : ℕ}
    (script : S → A → List ℕ)
    (next : S → A → S) (P : S → A → Type 0)
    → ((s : S) (x : A) (rest : List ℕ) → P s x → Item s (script s x ++ rest) x rest (next s x))
    → (xs : List A) (done : ℕ) (s : S) (rest : List ℕ) → Along P next s xs → min ≤ done + length xs → done + length xs ≤ max
    → Loop Ends Item bits min max done s (script_loop script next min max done s xs ++ rest) xs rest (after_all next s xs)
loop_read {bits = bits} {min = min} {max = max} script next P one [] done s rest all some few =
    no_more (end_read bits min max done rest (omega arith) (omega arith)) refl
loop_read {Ends = Ends} {Item = Item} {bits = bits} {min = min} {max = max} script next P one (x ∷ xs) done s rest all some few =
    let later : List ℕ = script_loop script next min max (done + 1) (next s x) xs in
    let r = loop_read {Ends = Ends} {Item = Item} {bits = bits} {min = min} {max = max} script next P one xs (done + 1) (next s x) rest all.1 (omega arith)
    (omega arith) in
    let whole : ((script_more min done ++ script s x) ++ later) ++ rest ≡ script_more min done ++ (script s x ++ (later ++ rest)) =
    append_assoc (script_more min done ++ script s x) later rest ∙ append_assoc (script_more min done) (script s x) (later ++ rest) in
    subst
    (λ b. Loop Ends Item bits min max done s b (x ∷ xs) rest (after_all next (next s x) xs))
    (sym whole)
    (an_item (more_read bits min max done (script s x ++ (later ++ rest)) (omega arith)) (one s x (later ++ rest) all.0) r)

-- A loop turn by turn: whatever its rest reads from here, the whole reads that after what was read.
module _ {S A : Type 0} (Ends : S → List ℕ → List ℕ → S → Type 0) (Item : S → List ℕ → A → List ℕ → S → Type 0) (bits min max : ℕ) (first : S)
    (start : List ℕ) where
  -- the rest of the loop, from here on
  abbrev pub Onward : List A → ℕ → S → List ℕ → Type 0
  Onward so_far done s b = (xs : List A) (rest : List ℕ) (t : S) → Loop Ends Item bits min max done s b xs rest t
      → Loop Ends Item bits min max 0 first start (so_far ++ xs) rest t

  -- before the first turn
  pub begins : (so_far : List A) → so_far ≡ [] → Onward so_far 0 first start
  begins so_far none = λ xs rest t l. subst (λ ys. Loop Ends Item bits min max 0 first start (ys ++ xs) rest t) (sym none) l

  -- if the answer is false
  pub stops : (so_far : List A) (done : ℕ) (s : S) (b rest : List ℕ) (answer : Bool) → answer ≡ false → More bits done min max b answer rest
      → Onward so_far done s b
      → Loop Ends Item bits min max 0 first start so_far rest s
  stops so_far done s b rest answer e m onward =
      subst (λ xs. Loop Ends Item bits min max 0 first start xs rest s) (append-nil so_far)
      (onward [] rest s (no_more (subst (λ a. More bits done min max b a rest) e m) refl))

  -- if all turns are made
  pub ends_full : (so_far : List A) (done : ℕ) (s : S) (b : List ℕ) → max ≤ done → Onward so_far done s b → Loop Ends Item bits min max 0 first start so_far b s
  ends_full so_far done s b full onward = stops so_far done s b b false refl (more_full b full) onward

  -- if the loop ends by itself
  pub ends_early : (so_far : List A) (done : ℕ) (s t : S) (b mid rest : List ℕ) (answer : Bool) → answer ≡ true → More bits done min max b answer mid
      → Ends s mid rest t → Onward so_far done s b → Loop Ends Item bits min max 0 first start so_far rest t
  ends_early so_far done s t b mid rest answer e m end onward =
      subst (λ xs. Loop Ends Item bits min max 0 first start xs rest t) (append-nil so_far)
      (onward [] rest t (by_itself (subst (λ a. More bits done min max b a mid) e m) end))

  -- a turn that produces an item
  pub goes_on : (so_far next : List A) (x : A) (done : ℕ) (s t : S) (b mid after : List ℕ) (answer : Bool) → answer ≡ true → More bits done min max b answer mid
      → Item s mid x after t → next ≡ so_far ++ x ∷ [] → Onward so_far done s b → Onward next (done + 1) t after
  goes_on so_far next x done s t b mid after answer e m one more onward = λ xs rest u l.
      let whole : so_far ++ x ∷ xs ≡ next ++ xs = sym (append_assoc so_far (x ∷ []) xs) ∙ ap (λ ys. ys ++ xs) (sym more) in
      subst (λ ys. Loop Ends Item bits min max 0 first start ys rest u) whole
      (onward (x ∷ xs) rest u (an_item (subst (λ a. More bits done min max b a mid) e m) one l))

-- a loop of at most one turn
module _ {S A : Type 0} {Ends : S → List ℕ → List ℕ → S → Type 0} {Item : S → List ℕ → A → List ℕ → S → Type 0} {bits : ℕ} {s : S} {b mid : List ℕ}
    {answer : Bool} where
  pub none_more : answer ≡ false → More bits 0 0 1 b answer mid → Loop Ends Item bits 0 1 0 s b [] mid s
  none_more e m = no_more (subst (λ a. More bits 0 0 1 b a mid) e m) refl

  pub none_early : {rest : List ℕ} {t : S} → answer ≡ true → More bits 0 0 1 b answer mid → Ends s mid rest t → Loop Ends Item bits 0 1 0 s b [] rest t
  none_early e m end = by_itself (subst (λ a. More bits 0 0 1 b a mid) e m) end

  pub one_more : {x : A} {rest : List ℕ} {t : S} → answer ≡ true → More bits 0 0 1 b answer mid → Item s mid x rest t
      → Loop Ends Item bits 0 1 0 s b (x ∷ []) rest t
  one_more {rest = rest} e m one = an_item (subst (λ a. More bits 0 0 1 b a mid) e m) one (no_more (more_full rest (omega arith)) refl)

-- A loop over what its items show.
pub loop_map : {S A B : Type 0} {Ends : S → List ℕ → List ℕ → S → Type 0} {Item : S → List ℕ → A → List ℕ → S → Type 0}
    {Other : S → List ℕ → B → List ℕ → S → Type 0} {bits min max : ℕ} (f : A → B)
    → ((s : S) (b : List ℕ) (x : A) (r : List ℕ) (t : S) → Item s b x r t → Other s b (f x) r t)
    → (done : ℕ) (s : S) (b : List ℕ) (xs : List A) (rest : List ℕ) (t : S) → Loop Ends Item bits min max done s b xs rest t
    → Loop Ends Other bits min max done s b (map f xs) rest t
loop_map f one done s b xs rest t (no_more m e) = no_more m e
loop_map f one done s b xs rest t (by_itself m e) = by_itself m e
loop_map f one done s b xs rest u (an_item {t = t} {mid = mid} {after = after} {x = x} {xs = ys} m i l) =
    an_item m (one s mid x after t i) (loop_map f one (done + 1) t after ys rest u l)
