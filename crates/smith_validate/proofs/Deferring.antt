-- Types of instances that are named at once, and what they name later.
use Rattle.std.proofs.Common.{◌≡◌, ◌⊎◌, inl, inr, ℕ, suc, add-one, drop, ◌+◌, ◌<◌, Bool, true, false, List, [], ◌∷◌, ◌++◌, length, get_or}
use Rattle.std.proofs.Common.{refl, sym, ap, ◌∙◌, subst, arith, None, Some, Err, IfOk, Ok, Result}
use Rattle.std.proofs.Math.Seq.{drop-cons}
use Rattle.std.specs.List.{AllByRecursion}
use Rattle.smith_input.specs.NewNames.{is_among}
use Rattle.smith_tree.specs.Facts.{Id}
use Rattle.smith_tree.specs.Validates.{RefersTo, names_of}
use Rattle.smith_validate.specs.Deferring.{Adds, AreSettled, Gains, IsExposure, IsListed, IsOwed, IsUsed}
use Rattle.smith_validate.specs.Exact.{IsExposed, is_exposed}
use Rattle.smith_validate.specs.Exposing.{IsSettled, Meets, first_at, named_after, outside_at, uses_of}
use Rattle.smith_validate.specs.Instances.{Surface, Follow, IsInstanceType, IsTable, Piece, equal, externs_in, externs_of, named_by, no_surface}
use Rattle.smith_validate.specs.Instances.{outside_of, place_of, refers_of, single, uses_in, whole}
use Rattle.smith_validate.specs.Marks.{Within}
use Rattle.smith_validate.specs.Numbers.{is_in}
use Rattle.smith_validate.specs.Opening.{IsFound, IsOpenable, IsReached}
use Rattle.smith_validate.specs.Places.{IsInside, IsUnder}
use Rattle.smith_validate.specs.Tables.{AreDistinct, AreExact, Fits, IsLive, IsSeen}
use Rattle.smith_validate.specs.declared.exposure.Exposure.{Exposure}
use Rattle.smith_validate.specs.declared.instances.Exposed.{Exposed}
use Rattle.smith_validate.specs.declared.instances.InstanceType.{InstanceType}
use Rattle.smith_validate.specs.declared.instances.Use.{Use}
use Rattle.smith_validate.specs.declared.instances.Use.TheVariants.{Instance, Equal}
use Rattle.smith_validate.proofs.Exposed.{Both, both_at}
use Rattle.smith_validate.proofs.Ids.{child_of, under_same, under_then}
use Rattle.smith_validate.proofs.Names.{Sub, among_cases, or_cases, or_left, or_right, refers_of_append, sub_left, sub_right, sub_same}
use Rattle.smith_validate.proofs.Names.{refers_sub, sub_then, sub_within, within_first, within_last, within_sub}
use Rattle.smith_validate.proofs.Opened.{live_known, seen_live}
use Rattle.smith_validate.proofs.Tables.{settled_more, settled_sub}
use Rattle.smith_tree.proofs.Named.{names_of_both as names_append}

-- lists to which one is added

pub listed_front : (xs ys : List ℕ) (m : ℕ) → IsListed xs m → IsListed (xs ++ ys) m
listed_front [] ys m h = absurd h
listed_front (x ∷ xs) ys m h = elim h [ inl e ↦ inl e | inr r ↦ inr (listed_front xs ys m r) ]

pub listed_end : (xs : List ℕ) (n : ℕ) → IsListed (xs ++ n ∷ []) n
listed_end [] n = inl refl
listed_end (x ∷ xs) n = inr (listed_end xs n)

pub listed_cases : (xs : List ℕ) (n m : ℕ) → IsListed (xs ++ n ∷ []) m → IsListed xs m ⊎ (m ≡ n)
listed_cases [] n m h = elim h [ inl e ↦ inr (sym e) | inr r ↦ absurd r ]
listed_cases (x ∷ xs) n m h = elim h [ inl e ↦ inl (inl e) | inr r ↦ elim (listed_cases xs n m r) [ inl y ↦ inl (inr y) | inr y ↦ inr y ] ]

pub used_one : (n m : ℕ) → IsUsed (Instance n ∷ []) m → m ≡ n
used_one n m h = elim h [ inl e ↦ (let k : n ≡ m = cc in sym k) | inr r ↦ absurd r ]

-- what is added

pub adds_none : (e : Exposure) → Adds e e []
adds_none e = record {
  has = λ n u. absurd u;
  only = λ n h. inl h;
  more = λ n h. h;
  later_more = λ n h. h;
  later_only = λ n h. inl h;
  settled = refl;
}

pub adds_equal : (e : Exposure) (k : ℕ) → Adds e e (Equal k ∷ [])
adds_equal e k = record {
  has = λ n u. elim u [ inl z ↦ absurd (let y : Equal k ≡ Instance n = z in cc) | inr r ↦ absurd r ];
  only = λ n h. inl h;
  more = λ n h. h;
  later_more = λ n h. h;
  later_only = λ n h. inl h;
  settled = refl;
}

module _ (old new : Exposure) (n : ℕ) (g : Gains old.exposed new.exposed n) where
  has_one : (m : ℕ) → IsUsed (Instance n ∷ []) m → is_exposed new.exposed m ≡ true
  has_one m u = subst (λ k. is_exposed new.exposed k ≡ true) (sym (used_one n m u)) g.has

  -- one that was not exposed
  pub adds_new : new.later.items ≡ old.later.items ++ n ∷ [] → Adds old new (Instance n ∷ [])
  adds_new e = record {
    has = has_one;
    only = λ m h.
        elim (g.only m h) [
          | inl o ↦ inl o
          | inr y ↦ inr (
            inl (let z : n ≡ m = sym y in cc),
            subst (λ xs. IsListed xs m) (sym e) (subst (λ k. IsListed (old.later.items ++ n ∷ []) k) (sym y) (listed_end old.later.items n)),
          )
        ];
    more = g.more;
    later_more = λ m h. subst (λ xs. IsListed xs m) (sym e) (listed_front old.later.items (n ∷ []) m h);
    later_only = λ m h.
        elim (listed_cases old.later.items n m (subst (λ xs. IsListed xs m) e h))
        [ inl o ↦ inl o | inr y ↦ inr (inl (let z : n ≡ m = sym y in cc)) ];
    settled = g.settled;
  }

  -- one that was
  pub adds_old : is_exposed old.exposed n ≡ true → new.later.items ≡ old.later.items → Adds old new (Instance n ∷ [])
  adds_old is e = record {
    has = has_one;
    only = λ m h. elim (g.only m h) [ inl o ↦ inl o | inr y ↦ inl (subst (λ k. is_exposed old.exposed k ≡ true) (sym y) is) ];
    more = g.more;
    later_more = λ m h. subst (λ xs. IsListed xs m) (sym e) h;
    later_only = λ m h. inl (subst (λ xs. IsListed xs m) e h);
    settled = g.settled;
  }

-- one use after another
pub adds_then : (a b c : Exposure) (u : Use) (us : List Use) → Adds a b (u ∷ []) → Adds b c us → Adds a c (u ∷ us)
adds_then a b c u us x y = record {
  has = λ n h. elim h [ inl e ↦ y.more n (x.has n (inl e)) | inr r ↦ y.has n r ];
  only = λ n h.
      elim (y.only n h) [
        | inl z ↦ elim (x.only n z) [ inl o ↦ inl o | inr p ↦ inr (first n p.0, y.later_more n p.1) ]
        | inr p ↦ inr (inr p.0, p.1)
      ];
  more = λ n h. y.more n (x.more n h);
  later_more = λ n h. y.later_more n (x.later_more n h);
  later_only = λ n h.
      elim (y.later_only n h) [
        | inl z ↦ elim (x.later_only n z) [ inl o ↦ inl o | inr p ↦ inr (first n p) ]
        | inr p ↦ inr (inr p)
      ];
  settled = y.settled ∙ x.settled;
}
  where
    first : (n : ℕ) → IsUsed (u ∷ []) n → IsUsed (u ∷ us) n
    first n h = elim h [ inl e ↦ inl e | inr r ↦ absurd r ]

-- the use at an index, and those after it
pub adds_at : (a b c : Exposure) (us : List Use) (i : ℕ) (d : Use) → i < length us → Adds a b (get_or us i d ∷ []) → Adds b c (drop (i + 1) us)
    → Adds a c (drop i us)
adds_at a b c us i d h x y =
    let next = subst (λ n. Adds b c (drop n us)) (add-one i) y in
    subst (λ vs. Adds a c vs) (sym (drop-cons us i d h)) (adds_then a b c (get_or us i d) (drop (suc i) us) x next)

-- What is settled.

pub are_sub : (table : List Surface) (e : Exposure) (a b : List Id) → Sub a b → AreSettled table e a → AreSettled table e b
are_sub table e a b f s = record { settled = settled_sub table e.exposed a b f s.settled; later = s.later }

pub are_more : (table more : List Surface) (e : Exposure) (named : List Id) → AreSettled table e named → AreSettled (table ++ more) e named
are_more table more e named s = record { settled = settled_more table more e.exposed named s.settled; later = s.later }

pub settled_as : (table : List Surface) (old new : Exposure) (named : List Id) → new.exposed ≡ old.exposed → new.later.items ≡ old.later.items
    → AreSettled table old named → AreSettled table new named
settled_as table old new named e l s = record {
  settled = subst (λ x. IsSettled table x named) (sym e) s.settled;
  later = λ n h. subst (λ x. is_exposed x n ≡ true) (sym e) (s.later n (subst (λ xs. IsListed xs n) l h));
}

module _ (table : List Surface) where
  -- an instance that is among what follows
  used_known : (named : List Id) (ps : List Piece) (m : ℕ) → Follow table named ps → IsUsed (uses_in ps) m → m < length table
  used_known named [] m f u = absurd u
  used_known named (single x ∷ ps) m f u = used_known (named ++ x.names) ps m f.2 u
  used_known named (whole n ∷ ps) m f u =
      elim u [
        | inl e ↦ (let k : n ≡ m = cc in subst (λ j. j < length table) k f.0)
        | inr r ↦ used_known (named ++ named_by table (whole n)) ps m f.2 r
      ]
  used_known named (equal n ns ∷ ps) m f u =
      elim u [ inl e ↦ absurd (let z : Equal n ≡ Instance m = e in cc) | inr r ↦ used_known (named ++ ns) ps m f.2 r ]

  used_within : (named : List Id) (ps : List Piece) (m : ℕ) → IsUsed (uses_in ps) m → Within named (refers_of (externs_in table ps))
      → Within named (refers_of (externs_of table m))
  used_within named [] m u w = absurd u
  used_within named (single x ∷ ps) m u w = used_within named ps m u (within_last named x.refers (refers_of (externs_in table ps)) w)
  used_within named (whole n ∷ ps) m u w =
      let xs = externs_of table n in
      let both = subst (λ ids. Within named ids) (refers_of_append xs (externs_in table ps)) w in
      elim u [
        | inl e ↦ (let k : n ≡ m = cc in subst (λ j. Within named (refers_of (externs_of table j))) k (within_first named (refers_of xs)
            (refers_of (externs_in table ps)) both))
        | inr r ↦ used_within named ps m r (within_last named (refers_of xs) (refers_of (externs_in table ps)) both)
      ]
  used_within named (equal n ns ∷ ps) m u w =
      elim u [
        | inl e ↦ absurd (let z : Equal n ≡ Instance m = e in cc)
        | inr r ↦ used_within named ps m r (within_last named (refers_of (externs_of table n)) (refers_of (externs_in table ps)) w)
      ]

  module _ (all : List InstanceType) (ts : IsTable all table) (n : ℕ) (h : n < length table) where
    abbrev Entry : Type 0
    Entry = Both (IsInstanceType table) all n (get_or table n no_surface)

    uses_are : (e : Entry) → uses_of all n ≡ uses_in e.is.pieces
    uses_are e = ap (λ o. elim o as (λ x. List Use) [ None ↦ [] | Some t ↦ t.uses.items ]) e.at ∙ e.is.uses_are

    -- what one exports that refers to what is named
    pub used_settled : (named : List Id) (m : ℕ) → Within named (refers_of (externs_of table n)) → IsUsed (uses_of all n) m
        → (m < length table) × Within named (refers_of (externs_of table m))
    used_settled named m w u =
        let e : Entry = both_at (IsInstanceType table) all table n no_surface ts h in
        let v = subst (λ us. IsUsed us m) (uses_are e) u in (
          used_known (get_or table n no_surface).outside e.is.pieces m e.is.follow v,
          used_within named e.is.pieces m v (subst (λ xs. Within named (refers_of xs)) e.is.externs_are w),
        )

-- What is known of one that need not be looked at.
module _ (table : List Surface) (all : List InstanceType) (ts : IsTable all table) (n : ℕ) (h : n < length table) (named : List Id)
    (w : Within named (outside_of table n)) where
  pub first_met : first_at all n ≡ true → RefersTo named (externs_of table n)
  first_met is =
      let e : Both (IsInstanceType table) all n (get_or table n no_surface) = both_at (IsInstanceType table) all table n no_surface ts h in
      refers_sub (outside_of table n) named (externs_of table n) (sub_within named (outside_of table n) w)
      (e.is.first (sym (ap (λ o. elim o as (λ x. Bool) [ None ↦ false | Some t ↦ t.names_first ]) e.at) ∙ is))

  pub outside_met : outside_at all n ≡ true → Within named (refers_of (externs_of table n))
  outside_met is =
      let e : Both (IsInstanceType table) all n (get_or table n no_surface) = both_at (IsInstanceType table) all table n no_surface ts h in
      within_sub (outside_of table n) named (refers_of (externs_of table n)) (sub_within named (outside_of table n) w)
      (e.is.outward (sym (ap (λ o. elim o as (λ x. Bool) [ None ↦ false | Some t ↦ t.refers_outside ]) e.at) ∙ is))

-- those that were looked at, and one more
pub settled_add : (table : List Surface) (all : List InstanceType) (before mid new : Exposure) (n : ℕ) (named : List Id) → IsTable all table
    → AreSettled table before named → mid.exposed ≡ before.exposed → before.later.items ≡ mid.later.items ++ n ∷ [] → Adds mid new (uses_of all n)
    → AreSettled table new named
settled_add table all before mid new n named ts s same popped a =
    let listed = subst (λ xs. IsListed xs n) (sym popped) (listed_end mid.later.items n) in
    let is = s.settled n (or_left _ _ (s.later n listed)) in
    let old_one : (m : ℕ) → is_exposed mid.exposed m ≡ true → is_exposed before.exposed m ≡ true =
    λ m h. subst (λ x. is_exposed x m ≡ true) same h in
    record {
      settled = λ m h.
          elim (or_cases (is_in new.exposed.named m) (is_in new.exposed.settled m) h) [
            | inl x ↦ elim (a.only m x) [
              | inl o ↦ s.settled m (or_left _ _ (old_one m o))
              | inr u ↦ used_settled table all ts n is.0 named m is.1 u.0
            ]
            | inr y ↦ s.settled m
                (or_right _ _ (subst (λ x. is_in x.settled m ≡ true) same (subst (λ x. is_in x m ≡ true) a.settled y)))
          ];
      later = λ m h.
          elim (a.later_only m h) [
            | inl o ↦ a.more m
                (subst (λ x. is_exposed x m ≡ true) (sym same)
                (s.later m (subst (λ xs. IsListed xs m) (sym popped) (listed_front mid.later.items (n ∷ []) m o))))
            | inr u ↦ a.has m u
          ];
    }

-- one that is met
pub settled_put : (table : List Surface) (old new : Exposure) (n : ℕ) (named : List Id) → AreSettled table old named → Adds old new (Instance n ∷ [])
    → n < length table → Within named (refers_of (externs_of table n)) → AreSettled table new named
settled_put table old new n named s a h w = record {
  settled = λ m is.
      elim (or_cases (is_in new.exposed.named m) (is_in new.exposed.settled m) is) [
        | inl x ↦ elim (a.only m x) [
          | inl o ↦ s.settled m (or_left _ _ o)
          | inr u ↦ subst (λ j. (j < length table) × Within named (refers_of (externs_of table j))) (sym (used_one n m u.0)) (h, w)
        ]
        | inr y ↦ s.settled m (or_right _ _ (subst (λ x. is_in x m ≡ true) a.settled y))
      ];
  later = λ m is. elim (a.later_only m is) [ inl o ↦ a.more m (s.later m o) | inr u ↦ a.has m u ];
}

-- What is exposed.

pub exposure_sub : (table : List Surface) (e : Exposure) (a b : List Id) → Sub a b → Sub b a → IsExposure table e a → IsExposure table e b
exposure_sub table e a b f g x = record {
  opened = λ n id l h i. x.opened n id l (g id h) i;
  within = x.within;
  reached = x.reached;
  live = x.live;
  names = λ n h. let y = x.names n h in (y.0, λ id a. f id (y.1 id a));
}

-- nothing is to be looked at
pub exposure_whole : (table : List Surface) (e : Exposure) (named : List Id) → e.later.items ≡ [] → IsExposure table e named
    → IsExposed table e.exposed [] named
exposure_whole table e named none x = record {
  opened = λ n id l h i.
      elim (x.opened n id l h i) [
        | inl y ↦ inl y
        | inr y ↦ elim (x.within y.by n id y.exposed l y.names i)
            [ inl z ↦ inl z | inr z ↦ absurd (subst (λ xs. IsListed xs z.by) none z.listed) ]
      ];
  names = x.names;
}

pub whole_exposure : (table : List Surface) (e : Exposure) (named : List Id) → e.later.items ≡ [] → IsExposed table e.exposed [] named
    → IsExposure table e named
whole_exposure table e named none x =
    let not : (m : ℕ) → IsListed e.later.items m → ⊥ = λ m h. subst (λ xs. IsListed xs m) none h in
    let here : (n : ℕ) (id : Id) → IsLive table n → is_among named id ≡ true → IsInside id (place_of table n) → is_exposed e.exposed n ≡ true =
    λ n id l h i. elim (x.opened n id l h i) [ inl y ↦ y | inr y ↦ absurd y ] in
    record {
      opened = λ n id l h i. inl (here n id l h i);
      within = λ m n id h l a i. inl (here n id l ((x.names m h).1 id a) i);
      reached = λ m n h l u. absurd (not m h);
      live = λ m h. absurd (not m h);
      names = x.names;
    }

-- one that is named at once
pub exposure_put : (table : List Surface) (old new : Exposure) (n : ℕ) (named : List Id) → IsExposure table old named
    → IsOpenable table old.exposed [] (Instance n) → Adds old new (Instance n ∷ []) → IsExposure table new (named_after table (Instance n) named)
exposure_put table old new n named x o a =
    let ns = names_of (externs_of table n) in
    let has : is_exposed new.exposed n ≡ true = a.has n (inl refl) in
    record {
      opened = λ k id l h i.
          elim (among_cases named ns id h) [
            | inl y ↦ elim (x.opened k id l y i) [
              | inl z ↦ inl (a.more k z)
              | inr z ↦ inr (record { by = z.by; exposed = a.more z.by z.exposed; names = z.names })
            ]
            | inr y ↦ inr (record { by = n; exposed = has; names = y })
          ];
      within = λ m k id h l y i.
          elim (a.only m h) [
            | inl z ↦ elim (x.within m k id z l y i) [
              | inl w ↦ inl (a.more k w)
              | inr w ↦ inr (record { by = w.by; listed = a.later_more w.by w.listed; before = w.before; names = w.names })
            ]
            | inr z ↦ inr (record { by = m; listed = z.1; before = omega arith; names = y })
          ];
      reached = λ m k h l u.
          elim (a.later_only m h) [
            | inl z ↦ a.more k (x.reached m k z l u)
            | inr z ↦ elim (o.reached k l (subst (λ j. IsUnder (place_of table j) (place_of table k)) (used_one n m z) u)) [
              | inl e ↦ subst (λ j. is_exposed new.exposed j ≡ true) (sym e) has
              | inr w ↦ elim w [ inl y ↦ a.more k y | inr y ↦ absurd y ]
            ]
          ];
      live = λ m h. elim (a.later_only m h) [ inl z ↦ x.live m z | inr z ↦ subst (λ j. IsLive table j) (sym (used_one n m z)) o.live ];
      names = λ m h.
          elim (a.only m h) [
            | inl z ↦ let y = x.names m z in (y.0, λ id w. sub_left named ns id (y.1 id w))
            | inr z ↦ let e = used_one n m z.0 in (
              subst (λ j. j < length table) (sym e) (live_known table n o.live),
              λ id w. sub_right named ns id (subst (λ j. is_among (names_of (externs_of table j)) id ≡ true) e w),
            )
          ];
    }

-- one that is named
pub exposure_known : (table : List Surface) (e : Exposure) (n : ℕ) (named : List Id) → IsExposure table e named → is_exposed e.exposed n ≡ true
    → IsExposure table e (named_after table (Instance n) named)
exposure_known table e n named x is =
    let ns = names_of (externs_of table n) in
    exposure_sub table e named (named ++ ns) (sub_left named ns)
    (λ id h. elim (among_cases named ns id h) [ inl y ↦ y | inr y ↦ (x.names n is).1 id y ]) x

-- What an instance exports that is looked at.
module _ (table : List Surface) where
  -- an instance that is among what a type exports
  used_seen : (bound m : ℕ) (around : Id) (ps : List Piece) → AllByRecursion (Fits table bound around) ps → IsUsed (uses_in ps) m
      → IsSeen table bound around m × Sub (names_of (externs_of table m)) (names_of (externs_in table ps))
  used_seen bound m around [] fit u = absurd u
  used_seen bound m around (single x ∷ ps) fit u =
      let r = used_seen bound m around ps fit.1 u in (
        r.0,
        sub_then (names_of (externs_of table m)) (names_of (externs_in table ps)) (x.names ++ names_of (externs_in table ps)) r.1
            (sub_right x.names (names_of (externs_in table ps))),
      )
  used_seen bound m around (whole n ∷ ps) fit u =
      let xs = externs_of table n in
      let ys = externs_in table ps in
      let all : Sub (names_of xs ++ names_of ys) (names_of (xs ++ ys)) = subst (λ ids. Sub (names_of xs ++ names_of ys) ids) (sym (names_append xs ys))
      (sub_same (names_of xs ++ names_of ys)) in
      elim u [
        | inl e ↦ (
            let k : n ≡ m = cc in
            subst (λ j. IsSeen table bound around j × Sub (names_of (externs_of table j)) (names_of (xs ++ ys))) k
            (fit.0, sub_then (names_of xs) (names_of xs ++ names_of ys) (names_of (xs ++ ys)) (sub_left (names_of xs) (names_of ys)) all)
            )
        | inr v ↦ (
            let r = used_seen bound m around ps fit.1 v in (
              r.0,
              sub_then (names_of (externs_of table m)) (names_of ys) (names_of (xs ++ ys)) r.1
                  (sub_then (names_of ys) (names_of xs ++ names_of ys) (names_of (xs ++ ys)) (sub_right (names_of xs) (names_of ys)) all),
            )
            )
      ]
  used_seen bound m around (equal n ns ∷ ps) fit u =
      elim u [
        | inl e ↦ absurd (let z : Equal n ≡ Instance m = e in cc)
        | inr v ↦ (
            let r = used_seen bound m around ps fit.1 v in (
              r.0,
              sub_then (names_of (externs_of table m)) (names_of (externs_in table ps)) (ns ++ names_of (externs_in table ps)) r.1
                  (sub_right ns (names_of (externs_in table ps))),
            )
            )
      ]

  module _ (all : List InstanceType) (exact : AreExact all table) (distinct : AreDistinct table) (before mid new : Exposure) (n : ℕ)
      (named : List Id) (x : IsExposure table before named) (same : mid.exposed ≡ before.exposed) (popped : before.later.items ≡ mid.later.items ++ n ∷ [])
      (a : Adds mid new (uses_of all n)) where
    listed : IsListed before.later.items n
    listed = subst (λ xs. IsListed xs n) (sym popped) (listed_end mid.later.items n)

    live : IsLive table n
    live = x.live n listed

    more : (m : ℕ) → is_exposed before.exposed m ≡ true → is_exposed new.exposed m ≡ true
    more m h = a.more m (subst (λ s. is_exposed s m ≡ true) (sym same) h)

    only : (m : ℕ) → is_exposed new.exposed m ≡ true
        → (is_exposed before.exposed m ≡ true) ⊎ (IsUsed (uses_of all n) m × IsListed new.later.items m)
    only m h = elim (a.only m h) [ inl o ↦ inl (subst (λ s. is_exposed s m ≡ true) same o) | inr u ↦ inr u ]

    -- one that is to be looked at is that one, or still is
    listed_still : (m : ℕ) → IsListed before.later.items m → IsListed new.later.items m ⊎ (m ≡ n)
    listed_still m h =
        elim (listed_cases mid.later.items n m (subst (λ xs. IsListed xs m) popped h)) [ inl y ↦ inl (a.later_more m y) | inr e ↦ inr e ]

    listed_was : (m : ℕ) → IsListed mid.later.items m → IsListed before.later.items m
    listed_was m h = subst (λ xs. IsListed xs m) (sym popped) (listed_front mid.later.items (n ∷ []) m h)

    -- that one is opened
    opened_now : (k : ℕ) → IsLive table k → IsUnder (place_of table n) (place_of table k) → is_exposed new.exposed k ≡ true
    opened_now k l u = more k (x.reached n k listed l u)

    -- what it names is exposed, or is to be looked at
    owed : (k : ℕ) (id : Id) → IsLive table k → IsInside id (place_of table k) → (ps : List Piece) → AllByRecursion (Fits table n (place_of table n)) ps
        → ((m : ℕ) → IsUsed (uses_in ps) m → IsUsed (uses_of all n) m) → is_among (names_of (externs_in table ps)) id ≡ true
        → (is_exposed new.exposed k ≡ true) ⊎ IsOwed table new.later.items n id
    owed k id l i [] fit used h = absurd (let z : false ≡ true = h in cc)
    owed k id l i (single y ∷ ps) fit used h =
        elim (among_cases y.names (names_of (externs_in table ps)) id h) [
          | inl w ↦ inl (opened_now k l (child_of (place_of table n) id (place_of table k) (fit.0 id w) i))
          | inr w ↦ owed k id l i ps fit.1 used w
        ]
    owed k id l i (whole m ∷ ps) fit used h =
        let xs = externs_of table m in
        let ys = externs_in table ps in
        let u = used m (inl refl) in
        let below = fit.0.below in
        elim (among_cases (names_of xs) (names_of ys) id (subst (λ ids. is_among ids id ≡ true) (names_append xs ys) h)) [
          | inl w ↦ elim (only m (a.has m u)) [
            | inl o ↦ elim (x.within m k id o l w i) [
              | inl z ↦ inl (more k z)
              | inr z ↦ elim (listed_still z.by z.listed) [
                | inl v ↦ inr (record { by = z.by; listed = v; before = omega (arith, z.before, below); names = z.names })
                | inr e ↦ absurd (omega (arith, z.before, below, e))
              ]
            ]
            | inr v ↦ inr (record { by = m; listed = v.1; before = omega (arith, below); names = w })
          ]
          | inr w ↦ owed k id l i ps fit.1 (λ j v. used j (inr v)) w
        ]
    owed k id l i (equal m ns ∷ ps) fit used h =
        elim (among_cases ns (names_of (externs_in table ps)) id h) [
          | inl w ↦ inl (opened_now k l (child_of (place_of table n) id (place_of table k) (fit.0.1 id w) i))
          | inr w ↦ owed k id l i ps fit.1 (λ j v. used j (inr v)) w
        ]

    seen : (m : ℕ) → IsUsed (uses_of all n) m
        → IsSeen table n (place_of table n) m × Sub (names_of (externs_of table m)) (names_of (externs_of table n))
    seen m u =
        let e = exact n live in
        let r = used_seen n m (place_of table n) e.pieces e.fit (subst (λ us. IsUsed us m) e.uses_are u) in
        (r.0, subst (λ xs. Sub (names_of (externs_of table m)) (names_of xs)) (sym e.externs_are) r.1)

    within_now : (m k : ℕ) (id : Id) → is_exposed new.exposed m ≡ true → IsLive table k → is_among (names_of (externs_of table m)) id ≡ true
        → IsInside id (place_of table k) → (is_exposed new.exposed k ≡ true) ⊎ IsOwed table new.later.items m id
    within_now m k id h l y i =
        elim (only m h) [
          | inl o ↦ elim (x.within m k id o l y i) [
            | inl z ↦ inl (more k z)
            | inr z ↦ elim (listed_still z.by z.listed) [
              | inl v ↦ inr (record { by = z.by; listed = v; before = z.before; names = z.names })
              | inr e ↦ (
                  let it = exact n live in
                  let w = subst (λ xs. is_among (names_of xs) id ≡ true) it.externs_are (subst (λ j. is_among (names_of (externs_of table j)) id ≡ true) e
                  z.names) in
                  let less = z.before in
                  elim (owed k id l i it.pieces it.fit (λ j u. subst (λ us. IsUsed us j) (sym it.uses_are) u) w) [
                    | inl v ↦ inl v
                    | inr v ↦ inr (record { by = v.by; listed = v.listed; before = omega (arith, v.before, less, e); names = v.names })
                  ]
                  )
            ]
          ]
          | inr v ↦ inr (record { by = m; listed = v.1; before = omega arith; names = y })
        ]

    reached_now : (m k : ℕ) → IsListed new.later.items m → IsLive table k → IsUnder (place_of table m) (place_of table k)
        → is_exposed new.exposed k ≡ true
    reached_now m k h l u =
        elim (a.later_only m h) [
          | inl o ↦ more k (x.reached m k (listed_was m o) l u)
          | inr v ↦ (
              let see = (seen m v).0 in
              let lm = seen_live table n m (place_of table n) see in
              elim (subst (λ p. IsUnder p (place_of table k)) see.place_is u) [
                | inl e ↦ subst (λ j. is_exposed new.exposed j ≡ true) (distinct m k lm l (see.place_is ∙ e)) (a.has m v)
                | inr w ↦ opened_now k l (under_then (place_of table n) see.scope (place_of table k) see.scope_is w)
              ]
              )
        ]

    -- that one is done
    pub exposure_add : IsExposure table new named
    exposure_add = record {
      opened = λ k id l h i.
          elim (x.opened k id l h i) [
            | inl z ↦ inl (more k z)
            | inr z ↦ inr (record { by = z.by; exposed = more z.by z.exposed; names = z.names })
          ];
      within = within_now;
      reached = reached_now;
      live = λ m h. elim (a.later_only m h) [ inl o ↦ x.live m (listed_was m o) | inr v ↦ seen_live table n m (place_of table n) (seen m v).0 ];
      names = λ m h.
          elim (only m h) [
            | inl o ↦ x.names m o
            | inr v ↦ (
                let s = seen m v.0 in (
                  live_known table m (seen_live table n m (place_of table n) s.0),
                  λ id w. (x.names n (x.reached n n listed live (under_same (place_of table n)))).1 id (s.1 id w),
                )
                )
          ];
    }

-- A look at what it exports, once nothing is to be looked at.

pub ok_then : {A E : Type 0} (r : Result A E) {P Q : A → Type 0} → ((x : A) → P x → Q x) → IfOk r P → IfOk r Q
ok_then (Ok x) {P} {Q} f h = f x h
ok_then (Err e) {P} {Q} f h = tt

pub openable_more : (table : List Surface) (s new : Exposed) (u : Use) → ((m : ℕ) → is_exposed s m ≡ true → is_exposed new m ≡ true)
    → IsOpenable table s [] u → IsOpenable table new [] u
openable_more table s new u more o = record { live = o.live; after = tt; reached = by_use u o.reached }
  where
    by_use : (v : Use) → IsReached table s [] v → IsReached table new [] v
    by_use (Instance n) r = λ m l i. elim (r m l i) [ inl e ↦ inl e | inr y ↦ elim y [ inl z ↦ inr (inl (more m z)) | inr z ↦ absurd z ] ]
    by_use (Equal n) r = tt

module _ (table : List Surface) (e : Exposure) (none : e.later.items ≡ []) (u : Use) (named : List Id) where
  pub settled_whole : Meets table u (IsSettled table e.exposed) named → Meets table u (AreSettled table e) named
  settled_whole m = record {
    met = m.met;
    settled = record { settled = m.settled; later = λ n h. absurd (subst (λ xs. IsListed xs n) none h) };
  }

  pub found_whole : (is : Bool) → IsFound table u (IsExposed table e.exposed []) named is → IsFound table u (IsExposure table e) named is
  found_whole true f = whole_exposure table e (named_after table u named) none f
  found_whole false f = f
