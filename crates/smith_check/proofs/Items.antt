-- A component with some of its items is judged by the steps up to the last of them.
use Rattle.std.proofs.Common.{◌≡◌, ◌<◌, ◌≤◌, ℕ, zero, suc, ◌+◌, ◌-◌, List, [], ◌∷◌, ◌++◌, length, take, refl, sym, ap, ◌∙◌, subst, arith, append-nil}
use Rattle.std.proofs.Common.{append_assoc, Bool, true, false, nat_lt}
use Rattle.std.proofs.lemmas.Bool.{ltb-false, ltb-true}
use Rattle.smith_tree.specs.Tree.{Part, Tree, canons, component, core_module, core_types, custom, ends, exports, first, imports, tree_of, types}
use Rattle.smith_tree.specs.WellFormed.{WellFormed}
use Rattle.smith_read.specs.Items.{cut, items, items_in, upto}
use Rattle.smith_read.specs.Walk.{Step, closes, entry_steps, items_at, marks, one, opens, steps_in, steps_of}
use Rattle.smith_check.specs.Preceding.{empty_scene}
use Rattle.smith_check.specs.Stepping.{State, next}
use Rattle.smith_check.proofs.Judging.{Same, same_by, same_trans}
use Rattle.smith_check.proofs.Scenes.{AllFit, named_first, state, tree_fits}

-- how many items begin
abbrev pub counted : List Step → ℕ
counted [] = 0
counted (x ∷ xs) = items_at x + counted xs

-- the steps before that item
abbrev pub taken : ℕ → List Step → List Step
taken n [] = []
taken zero (one p ∷ xs) = []
taken (suc n) (one p ∷ xs) = one p ∷ taken n xs
taken zero (opens ∷ xs) = []
taken (suc n) (opens ∷ xs) = opens ∷ taken n xs
taken n (closes ∷ xs) = closes ∷ taken n xs
taken n (marks ∷ xs) = marks ∷ taken n xs

pub taken_next : (n : ℕ) (x : Step) (xs : List Step) → taken (items_at x + n) (x ∷ xs) ≡ x ∷ taken n xs
taken_next n (one p) xs = let h : 1 + n ≡ suc n = omega arith in ap (λ m. taken m (one p ∷ xs)) h
taken_next n opens xs = let h : 1 + n ≡ suc n = omega arith in ap (λ m. taken m (opens ∷ xs)) h
taken_next n closes xs = let h : 0 + n ≡ n = omega arith in ap (λ m. closes ∷ taken m xs) h
taken_next n marks xs = let h : 0 + n ≡ n = omega arith in ap (λ m. marks ∷ taken m xs) h

-- ---- counts

pub counted-append : (xs ys : List Step) → counted (xs ++ ys) ≡ counted xs + counted ys
counted-append [] ys = omega arith
counted-append (x ∷ xs) ys = let e = counted-append xs ys in omega (arith, e)

entries_counted : {A : Type 0} (section : List A → Part) (xs : List A) → counted (entry_steps section xs) ≡ length xs
entries_counted section [] = refl
entries_counted section (x ∷ xs) = let e = entries_counted section xs in omega (arith, e)

mutual
  part_counted : (p : Part) → counted (steps_in p) ≡ items_in p
  part_counted (custom n c) = refl
  part_counted (core_module m) = refl
  part_counted (core_types ts) = let e = entries_counted core_types ts in omega (arith, e)
  part_counted (component t) =
      let e = tree_counted t in
      let f = counted-append (steps_of t) (closes ∷ []) in
      omega (arith, e, f)
  part_counted (types ts) = let e = entries_counted types ts in omega (arith, e)
  part_counted (canons fs) = let e = entries_counted canons fs in omega (arith, e)
  part_counted (imports is) = let e = entries_counted imports is in omega (arith, e)
  part_counted (exports es) = let e = entries_counted exports es in omega (arith, e)

  pub tree_counted : (t : Tree) → counted (steps_of t) ≡ items t
  tree_counted ends = refl
  tree_counted (first p t) =
      let e = part_counted p in
      let f = tree_counted t in
      let g = counted-append (steps_in p) (steps_of t) in
      omega (arith, e, f, g)

-- ---- some steps, and then steps at which nothing begins

pub record Ends (from all : List Step) : Type 0 where
  pub rest : List Step
  pub none : counted rest ≡ 0
  pub is : all ≡ from ++ rest

ends_here : (xs : List Step) → Ends xs xs
ends_here xs = record { rest = []; none = refl; is = sym (append-nil xs) }

ends_after : (x : Step) {from all : List Step} → Ends from all → Ends (x ∷ from) (x ∷ all)
ends_after x e = record { rest = e.rest; none = e.none; is = ap (λ l. x ∷ l) e.is }

ends_twice : {xs ys zs : List Step} → Ends xs ys → Ends ys zs → Ends xs zs
ends_twice {xs} {ys} {zs} e f = record {
  rest = e.rest ++ f.rest;
  none = let g = counted-append e.rest f.rest in omega (arith, g, e.none, f.none);
  is = f.is ∙ ap (λ l. l ++ f.rest) e.is ∙ append_assoc xs e.rest f.rest;
}

ends_past : (xs : List Step) {from all : List Step} → Ends from all → Ends (xs ++ from) (xs ++ all)
ends_past xs {from} {all} e = record { rest = e.rest; none = e.none; is = ap (λ l. xs ++ l) e.is ∙ sym (append_assoc xs from e.rest) }

none_taken : (n : ℕ) (xs : List Step) → counted xs ≡ 0 → taken n xs ≡ xs
none_taken n [] e = refl
none_taken n (one p ∷ xs) e = absurd (omega (arith, e))
none_taken n (opens ∷ xs) e = absurd (omega (arith, e))
none_taken n (closes ∷ xs) e = ap (λ l. closes ∷ l) (none_taken n xs (omega (arith, e)))
none_taken n (marks ∷ xs) e = ap (λ l. marks ∷ l) (none_taken n xs (omega (arith, e)))

-- behind steps, if nothing begins there
pub taken_ends : (n : ℕ) (xs ys : List Step) → counted ys ≡ 0 → Ends (taken n xs) (taken n (xs ++ ys))
taken_ends n [] ys e = record { rest = ys; none = e; is = none_taken n ys e }
taken_ends zero (one p ∷ xs) ys e = ends_here []
taken_ends (suc n) (one p ∷ xs) ys e = ends_after (one p) (taken_ends n xs ys e)
taken_ends zero (opens ∷ xs) ys e = ends_here []
taken_ends (suc n) (opens ∷ xs) ys e = ends_after opens (taken_ends n xs ys e)
taken_ends n (closes ∷ xs) ys e = ends_after closes (taken_ends n xs ys e)
taken_ends n (marks ∷ xs) ys e = ends_after marks (taken_ends n xs ys e)

-- before the last item of some steps, and past it

taken_within : (n : ℕ) (xs ys : List Step) → n < counted xs → taken n (xs ++ ys) ≡ taken n xs
taken_within n [] ys h = absurd (omega (arith, h))
taken_within zero (one p ∷ xs) ys h = refl
taken_within (suc n) (one p ∷ xs) ys h = ap (λ l. one p ∷ l) (taken_within n xs ys (omega (arith, h)))
taken_within zero (opens ∷ xs) ys h = refl
taken_within (suc n) (opens ∷ xs) ys h = ap (λ l. opens ∷ l) (taken_within n xs ys (omega (arith, h)))
taken_within n (closes ∷ xs) ys h = ap (λ l. closes ∷ l) (taken_within n xs ys (omega (arith, h)))
taken_within n (marks ∷ xs) ys h = ap (λ l. marks ∷ l) (taken_within n xs ys (omega (arith, h)))

taken_past : (n m : ℕ) (xs ys : List Step) → n ≡ counted xs + m → taken n (xs ++ ys) ≡ xs ++ taken m ys
taken_past n m [] ys e = ap (λ k. taken k ys) (omega (arith, e))
taken_past zero m (one p ∷ xs) ys e = absurd (omega (arith, e))
taken_past (suc n) m (one p ∷ xs) ys e = ap (λ l. one p ∷ l) (taken_past n m xs ys (omega (arith, e)))
taken_past zero m (opens ∷ xs) ys e = absurd (omega (arith, e))
taken_past (suc n) m (opens ∷ xs) ys e = ap (λ l. opens ∷ l) (taken_past n m xs ys (omega (arith, e)))
taken_past n m (closes ∷ xs) ys e = ap (λ l. closes ∷ l) (taken_past n m xs ys (omega (arith, e)))
taken_past n m (marks ∷ xs) ys e = ap (λ l. marks ∷ l) (taken_past n m xs ys (omega (arith, e)))

-- ---- a component with some of its items

entries_cut : {A : Type 0} (section : List A → Part) (n : ℕ) (xs : List A) → n < length xs
    → Ends (taken n (entry_steps section xs)) (entry_steps section (take n xs))
entries_cut section n [] h = absurd (omega (arith, h))
entries_cut section zero (x ∷ xs) h = record { rest = marks ∷ []; none = refl; is = refl }
entries_cut section (suc n) (x ∷ xs) h = ends_after (one (section (x ∷ []))) (entries_cut section n xs (omega (arith, h)))

list_cut : {A : Type 0} (section : List A → Part) (n : ℕ) (xs : List A) → n < length xs
    → Ends (taken n (marks ∷ entry_steps section xs)) ((marks ∷ entry_steps section (take n xs)) ++ [])
list_cut section n xs h =
    subst (Ends (taken n (marks ∷ entry_steps section xs))) (sym (append-nil (marks ∷ entry_steps section (take n xs))))
    (ends_after marks (entries_cut section n xs h))

first_cut : (n : ℕ) (p : Part) (t : Tree) → (n < items_in p → Ends (taken n (steps_in p)) (steps_of (tree_of (cut n p))))
    → Ends (taken (n - items_in p) (steps_of t)) (steps_of (upto (n - items_in p) t))
    → Ends (taken n (steps_in p ++ steps_of t)) (steps_of (upto n (first p t)))
first_cut n p t inside behind = by_case (nat_lt n (items_in p)) refl
  where
    by_case : (b : Bool) → nat_lt n (items_in p) ≡ b → Ends (taken n (steps_in p ++ steps_of t)) (steps_of (upto n (first p t)))
    by_case true e =
        let h : n < items_in p = ltb-true n (items_in p) e in
        rw e
        (subst (λ l. Ends l (steps_of (tree_of (cut n p))))
        (sym (taken_within n (steps_in p) (steps_of t) (let c = part_counted p in omega (arith, c, h))))
        (inside h))
    by_case false e =
        let h : items_in p ≤ n = ltb-false n (items_in p) e in
        rw e
        (subst (λ l. Ends l (steps_in p ++ steps_of (upto (n - items_in p) t)))
        (sym (taken_past n (n - items_in p) (steps_in p) (steps_of t) (let c = part_counted p in omega (arith, c, h))))
        (ends_past (steps_in p) behind))

mutual
  part_cut : (n : ℕ) (p : Part) → n < items_in p → Ends (taken n (steps_in p)) (steps_of (tree_of (cut n p)))
  part_cut zero (custom m c) h = ends_here []
  part_cut (suc n) (custom m c) h = absurd (omega (arith, h))
  part_cut zero (core_module m) h = ends_here []
  part_cut (suc n) (core_module m) h = absurd (omega (arith, h))
  part_cut n (core_types ts) h = list_cut core_types n ts h
  part_cut zero (component t) h = ends_here []
  part_cut (suc n) (component t) h =
      let inner = tree_cut n t in
      subst (Ends (opens ∷ taken n (steps_of t ++ closes ∷ []))) (sym (append-nil (opens ∷ (steps_of (upto n t) ++ closes ∷ []))))
      (ends_after opens
      (subst (λ l. Ends l (steps_of (upto n t) ++ closes ∷ []))
      (sym (taken_within n (steps_of t) (closes ∷ []) (let e = tree_counted t in omega (arith, e, h))))
      (ends_twice inner (record { rest = closes ∷ []; none = refl; is = refl }))))
  part_cut n (types ts) h = list_cut types n ts h
  part_cut n (canons fs) h = list_cut canons n fs h
  part_cut n (imports is) h = list_cut imports n is h
  part_cut n (exports es) h = list_cut exports n es h

  pub tree_cut : (n : ℕ) (t : Tree) → Ends (taken n (steps_of t)) (steps_of (upto n t))
  tree_cut n ends = ends_here []
  tree_cut n (first p t) = first_cut n p t (λ h. part_cut n p h) (tree_cut (n - items_in p) t)

-- ---- how it is judged

none_fit : (xs : List Step) (at : State) → counted xs ≡ 0 → AllFit xs at
none_fit [] at e = tt
none_fit (one p ∷ xs) at e = absurd (omega (arith, e))
none_fit (opens ∷ xs) at e = absurd (omega (arith, e))
none_fit (closes ∷ xs) at e = (tt, none_fit xs (next closes at) (omega (arith, e)))
none_fit (marks ∷ xs) at e = (tt, none_fit xs at (omega (arith, e)))

rest_fit : (xs ys : List Step) (at : State) → counted ys ≡ 0 → Same (AllFit (xs ++ ys) at) (AllFit xs at)
rest_fit [] ys at e = record { to = λ f. tt; from = λ f. none_fit ys at e }
rest_fit (x ∷ xs) ys at e = let s = rest_fit xs ys (next x at) e in record { to = λ f. (f.0, s.to f.1); from = λ f. (f.0, s.from f.1) }

ends_fit : {xs ys : List Step} (at : State) → Ends xs ys → Same (AllFit ys at) (AllFit xs at)
ends_fit {xs} {ys} at e = same_trans (same_by (λ l. AllFit l at) ys (xs ++ e.rest) e.is) (rest_fit xs e.rest at e.none)

abbrev pub start : State
start = state empty_scene []

-- the whole
pub whole_fits : (t : Tree) → Same (WellFormed t) (AllFit (steps_of t ++ closes ∷ []) start)
whole_fits t =
    let s = tree_fits t (closes ∷ []) ends [] named_first in
    record { to = λ w. s.to (w, (tt, tt)); from = λ f. (s.from f).0 }

-- that many items
pub items_fit : (n : ℕ) (t : Tree) → Same (WellFormed (upto n t)) (AllFit (taken n (steps_of t ++ closes ∷ [])) start)
items_fit n t =
    let all = same_trans (whole_fits (upto n t)) (rest_fit (steps_of (upto n t)) (closes ∷ []) start refl) in
    let cut = same_trans all (ends_fit start (tree_cut n t)) in
    let more = ends_fit start (taken_ends n (steps_of t) (closes ∷ []) refl) in
    record { to = λ w. more.from (cut.to w); from = λ f. cut.from (more.to f) }
