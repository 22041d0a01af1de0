-- Types of instances that are opened one within another.
use Rattle.std.proofs.Common.{◌≡◌, ◌⊎◌, inl, inr, ℕ, zero, suc, ◌+◌, ◌<◌, true, false, List, [], ◌∷◌, ◌++◌, length, drop}
use Rattle.std.proofs.Common.{refl, sym, ap, ◌∙◌, subst, arith, append_assoc, append-nil, None, Some}
use Rattle.std.specs.List.{AllByRecursion}
use Rattle.std.specs.Prelude.{slice_get}
use Rattle.smith_input.specs.NewNames.{is_among}
use Rattle.smith_tree.specs.Facts.{Extern, Id}
use Rattle.smith_tree.specs.Validates.{RefersTo, names_of}
use Rattle.smith_validate.specs.Exact.{IsExposed, IsOpening, is_exposed}
use Rattle.smith_validate.specs.Exposing.{AreMet, IsMet, is_settled, named_after, named_past, number_of, refers_own, use_in, uses_of}
use Rattle.smith_validate.specs.Instances.{Surface, Piece, equal, externs_in, externs_of, place_of, refers_of, single, uses_in, whole}
use Rattle.smith_validate.specs.Marks.{Within}
use Rattle.smith_validate.specs.Opening.{AreAfter, AreHalf, IsMidway, IsNamedThen, IsOpenable, IsReached}
use Rattle.smith_validate.specs.Places.{IsChild}
use Rattle.smith_validate.specs.Tables.{AreExact, Fits, IsLive, IsSeen}
use Rattle.smith_validate.specs.declared.instances.Exposed.{Exposed}
use Rattle.smith_validate.specs.declared.instances.InstanceType.{InstanceType}
use Rattle.smith_validate.specs.declared.instances.Use.{Use}
use Rattle.smith_validate.specs.declared.instances.Use.TheVariants.{Instance, Equal}
use Rattle.smith_validate.proofs.Exposed.{drop_at, drop_none}
use Rattle.smith_validate.proofs.Ids.{child_of, under_then}
use Rattle.smith_validate.proofs.Names.{Sub, among_cases, or_left, refers_of_append, sub_left, sub_right, sub_within}
use Rattle.smith_validate.proofs.Names.{within_first, within_last, within_sub}
use Rattle.smith_tree.proofs.Named.{names_of_both as names_append}

-- what holds of two in a row holds of each
pub refers_first : (a : List Id) (xs ys : List Extern) → RefersTo a (xs ++ ys) → RefersTo a xs
refers_first a [] ys r = tt
refers_first a (x ∷ xs) ys r = (r.0, refers_first (a ++ x.names) xs ys r.1)

pub refers_last : (a : List Id) (xs ys : List Extern) → RefersTo a (xs ++ ys) → RefersTo (a ++ names_of xs) ys
refers_last a [] ys r = subst (λ n. RefersTo n ys) (sym (append-nil a)) r
refers_last a (x ∷ xs) ys r = subst (λ n. RefersTo n ys) (append_assoc a x.names (names_of xs)) (refers_last (a ++ x.names) xs ys r.1)

-- those after one are after another before it
pub after_less : (m n : ℕ) (us : List (Use × ℕ)) → m < n → AreAfter n us → AreAfter m us
after_less m n [] h a = tt
after_less m n (u ∷ us) h a = (omega (arith, h, a.0), after_less m n us h a.1)

pub after_not : (n : ℕ) (us : List (Use × ℕ)) → AreAfter n us → IsOpening us n → ⊥
after_not n [] a o = o
after_not n (u ∷ us) a o =
    elim o [ inl e ↦ let h : number_of u.0 ≡ n = ap number_of e in omega (arith, h, a.0) | inr r ↦ after_not n us a.1 r ]

pub live_known : (table : List Surface) (n : ℕ) → IsLive table n → n < length table
live_known [] n l = absurd (l refl)
live_known (e ∷ table) zero l = omega arith
live_known (e ∷ table) (suc n) l = let h = live_known table n l in omega (arith, h)

module _ (table : List Surface) where
  pub seen_live : (bound n : ℕ) (around : Id) → IsSeen table bound around n → IsLive table n
  seen_live bound n around s = λ e. let z : (s.index ∷ s.scope) ≡ [] = sym s.place_is ∙ e in cc

  pub exposed_sub : (s : Exposed) (us : List (Use × ℕ)) (a b : List Id) → Sub a b → Sub b a → IsExposed table s us a → IsExposed table s us b
  exposed_sub s us a b f g e = grind arith

  module _ (all : List InstanceType) (exact : AreExact all table) (last : Use) (before : List Id) (s : Exposed) where
    abbrev Half : List (Use × ℕ) → List Id → Type 0
    Half us named = AreHalf table all last before s us named

    abbrev Goal : Type 0
    Goal = IsMet table last before

    module _ (us : List (Use × ℕ)) (named : List Id) (x : IsExposed table s us named) where
      -- one that is opened
      pub use_half : (u : Use) → IsOpenable table s us u → (Goal → IsMet table u named) → Half us (named_after table u named)
          → IsMidway table all last before s ((u, 0) ∷ us)
      use_half u o met h =
          let e = exact (number_of u) o.live in
          let same = e.externs_are in
          record {
            named = named;
            exposed = record { opened = λ m id l a i. elim (x.opened m id l a i) [ inl y ↦ inl y | inr y ↦ inr (inr y) ]; names = x.names };
            half = (
              e.pieces,
              o,
              record { uses_are = sym e.uses_are; fit = e.fit; names = names_then u e.pieces same; met = λ g. all_met u e.pieces same (met g) },
              half_past u e.pieces same h,
            );
          }
        where
          names_then : (v : Use) (ps : List Piece) → externs_of table (number_of v) ≡ externs_in table ps → IsNamedThen table v ps named
          names_then (Instance n) ps same = λ id a.
              sub_right named (names_of (externs_in table ps)) id (subst (λ xs. is_among (names_of xs) id ≡ true) same a)
          names_then (Equal n) ps same = tt

          all_met : (v : Use) (ps : List Piece) → externs_of table (number_of v) ≡ externs_in table ps → IsMet table v named → AreMet table v named ps
          all_met (Instance n) ps same m = subst (λ xs. RefersTo named xs) same m
          all_met (Equal n) ps same m = subst (λ xs. Within named (refers_of xs)) same m

          half_past : (v : Use) (ps : List Piece) → externs_of table (number_of v) ≡ externs_in table ps → Half us (named_after table v named)
              → Half us (named_past table v named ps)
          half_past (Instance n) ps same k = subst (λ xs. Half us (named ++ names_of xs)) same k
          half_past (Equal n) ps same k = k

      -- one that is
      pub instance_known : (n : ℕ) → is_exposed s n ≡ true → Half us (named_after table (Instance n) named) → IsMidway table all last before s us
      instance_known n is h =
          let new = names_of (externs_of table n) in
          record {
            named = named ++ new;
            exposed = exposed_sub s us named (named ++ new) (sub_left named new)
                (λ id a. elim (among_cases named new id a) [ inl y ↦ y | inr y ↦ (x.names n is).1 id y ]) x;
            half = h;
          }

      -- a type that is equal to one that is settled
      pub equal_known : (n : ℕ) → Half us (named_after table (Equal n) named) → IsMidway table all last before s us
      equal_known n h = record { named = named; exposed = x; half = h }

      -- to one that refers to types of its own, and is not settled
      pub equal_not : (n : ℕ) → IsOpenable table s us (Equal n) → is_settled s n ≡ false → refers_own all n ≡ true
          → (Goal → IsMet table (Equal n) named) → ¬ Goal
      equal_not n o settled own met = grind (arith, sub_within, named, met, or_left, after_not)

    -- what a type that is being opened names
    grown : (us : List (Use × ℕ)) (named : List Id) (n done : ℕ) (ns : List Id) → IsOpenable table s us (Instance n)
        → ((id : Id) → is_among ns id ≡ true → IsChild (place_of table n) id)
        → IsExposed table s ((Instance n, done) ∷ us) named → IsExposed table s ((Instance n, done) ∷ us) (named ++ ns)
    grown us named n done ns o child e = grind (arith, among_cases, named, child_of, sub_left)

    -- The next of the uses of a use may be opened.
    pub record Opens (u v : Use) (done : ℕ) (us : List (Use × ℕ)) : Type 0 where
      pub named : List Id
      pub exposed : IsExposed table s ((u, done) ∷ us) named
      pub openable : IsOpenable table s ((u, done) ∷ us) v
      pub met : Goal → IsMet table v named
      pub half : Half ((u, done) ∷ us) (named_after table v named)

    module _ (distinct : (m n : ℕ) → IsLive table m → IsLive table n → place_of table m ≡ place_of table n → m ≡ n) where
      -- what is seen within a type that is being opened
      seen_reached : (n done m : ℕ) (us : List (Use × ℕ)) → IsOpenable table s us (Instance n) → IsSeen table n (place_of table n) m
          → IsReached table s ((Instance n, done) ∷ us) (Instance m)
      seen_reached n done m us o see = grind (arith, seen_live, under_then)

      module _ (n : ℕ) (us : List (Use × ℕ)) (done : ℕ) (v : Use) (left : List Use) (e : left ≡ drop done (uses_of all n)) where
        module _ (o : IsOpenable table s us (Instance n)) where
          instance_opens : (named : List Id) (ps : List Piece) → uses_in ps ≡ v ∷ left → IsExposed table s ((Instance n, done) ∷ us) named
              → AllByRecursion (Fits table n (place_of table n)) ps → IsNamedThen table (Instance n) ps named
              → (Goal → RefersTo named (externs_in table ps)) → Half us (named ++ names_of (externs_in table ps))
              → Opens (Instance n) v done us
          instance_opens named [] is x fit names met h = absurd (let z : [] ≡ v ∷ left = is in cc)
          instance_opens named (single y ∷ ps) is x fit names met h =
              let N = names_of (externs_in table ps) in
              let same : (named ++ y.names) ++ N ≡ named ++ (y.names ++ N) = append_assoc named y.names N in
              instance_opens (named ++ y.names) ps is (grown us named n done y.names o fit.0 x) fit.1
              (λ id a. subst (λ ids. is_among ids id ≡ true) (sym same) (names id a)) (λ g. (met g).1) (subst (λ ids. Half us ids) (sym same) h)
          instance_opens named (whole m ∷ ps) is x fit names met h =
              let xs = externs_of table m in
              let ys = externs_in table ps in
              let first : Instance m ≡ v = cc in
              let rest : uses_in ps ≡ left = cc in
              let same : named ++ names_of (xs ++ ys) ≡ (named ++ names_of xs) ++ names_of ys =
              ap (λ ids. named ++ ids) (names_append xs ys) ∙ sym (append_assoc named (names_of xs) (names_of ys)) in
              let it : Opens (Instance n) (Instance m) done us = record {
                named = named;
                exposed = x;
                openable = record {
                  live = seen_live n m (place_of table n) fit.0;
                  after = (fit.0.below, after_less m n us fit.0.below o.after);
                  reached = seen_reached n done m us o fit.0;
                };
                met = λ g. refers_first named xs ys (met g);
                half = (
                  ps,
                  o,
                  record {
                    uses_are = rest ∙ e;
                    fit = fit.1;
                    names = λ id a. subst (λ ids. is_among ids id ≡ true) same (names id a);
                    met = λ g. refers_last named xs ys (met g);
                  },
                  subst (λ ids. Half us ids) same h,
                );
              } in
              subst (λ w. Opens (Instance n) w done us) first it
          instance_opens named (equal m ns ∷ ps) is x fit names met h =
              let ys = externs_in table ps in
              let first : Equal m ≡ v = cc in
              let rest : uses_in ps ≡ left = cc in
              let same : (named ++ ns) ++ names_of ys ≡ named ++ (ns ++ names_of ys) = append_assoc named ns (names_of ys) in
              let it : Opens (Instance n) (Equal m) done us = record {
                named = named ++ ns;
                exposed = grown us named n done ns o fit.0.1 x;
                openable = record {
                  live = seen_live n m (place_of table n) fit.0.0;
                  after = (fit.0.0.below, after_less m n us fit.0.0.below o.after);
                  reached = tt;
                };
                met = λ g. within_sub named (named ++ ns) (refers_of (externs_of table m)) (sub_left named ns) (met g).0;
                half = (
                  ps,
                  o,
                  record {
                    uses_are = rest ∙ e;
                    fit = fit.1;
                    names = λ id a. subst (λ ids. is_among ids id ≡ true) (sym same) (names id a);
                    met = λ g. (met g).1;
                  },
                  subst (λ ids. Half us ids) (sym same) h,
                );
              } in
              subst (λ w. Opens (Instance n) w done us) first it

        module _ (o : IsOpenable table s us (Equal n)) (named : List Id) (x : IsExposed table s ((Equal n, done) ∷ us) named) (h : Half us named) where
          abbrev Then : Use → Type 0
          Then w = Opens (Equal n) w done us

          -- the next one of them is of that type
          equal_opened : (m : ℕ) (ps : List Piece) → IsSeen table n (place_of table n) m → uses_in ps ≡ left
              → AllByRecursion (Fits table n (place_of table n)) ps → (Goal → Within named (refers_of (externs_of table m)))
              → (Goal → Within named (refers_of (externs_in table ps))) → Then (Equal m)
          equal_opened m ps see rest fit one met = record {
            named = named;
            exposed = x;
            openable = record {
              live = seen_live n m (place_of table n) see;
              after = (see.below, after_less m n us see.below o.after);
              reached = tt;
            };
            met = one;
            half = (ps, o, record { uses_are = rest ∙ e; fit = fit; names = tt; met = met }, h);
          }

          equal_opens : (ps : List Piece) → uses_in ps ≡ v ∷ left → AllByRecursion (Fits table n (place_of table n)) ps
              → (Goal → Within named (refers_of (externs_in table ps))) → Then (Equal (number_of v))
          equal_opens [] is fit met = absurd (let z : [] ≡ v ∷ left = is in cc)
          equal_opens (single y ∷ ps) is fit met = equal_opens ps is fit.1 (λ g. within_last named y.refers (refers_of (externs_in table ps)) (met g))
          equal_opens (whole m ∷ ps) is fit met =
              let first : Instance m ≡ v = cc in
              let rest : uses_in ps ≡ left = cc in
              let xs = externs_of table m in
              let ys = externs_in table ps in
              let all_met : Goal → Within named (refers_of xs ++ refers_of ys) =
              λ g. subst (λ ids. Within named ids) (refers_of_append xs ys) (met g) in
              subst (λ w. Then (Equal (number_of w))) first
              (equal_opened m ps fit.0 rest fit.1 (λ g. within_first named (refers_of xs) (refers_of ys) (all_met g))
              (λ g. within_last named (refers_of xs) (refers_of ys) (all_met g)))
          equal_opens (equal m ns ∷ ps) is fit met = grind (arith, equal_opened, within_first, named, met, within_last)

      pub next_opens : (u v : Use) (done : ℕ) (us : List (Use × ℕ)) (named : List Id) → slice_get (uses_of all (number_of u)) done ≡ Some v
          → IsExposed table s ((u, done) ∷ us) named → Half ((u, done) ∷ us) named → Opens u (use_in u v) (done + 1) us
      next_opens (Instance n) v done us named at x h =
          let left = drop (done + 1) (uses_of all n) in
          instance_opens n us (done + 1) v left refl h.1 named h.0 (h.2.uses_are ∙ drop_at (uses_of all n) done v at)
          (record { opened = x.opened; names = x.names }) h.2.fit h.2.names h.2.met h.3
      next_opens (Equal n) v done us named at x h =
          let left = drop (done + 1) (uses_of all n) in
          equal_opens n us (done + 1) v left refl h.1 named (record { opened = x.opened; names = x.names }) h.3 h.0
          (h.2.uses_are ∙ drop_at (uses_of all n) done v at) h.2.fit h.2.met

    -- No use is left.

    instance_grown : (n done : ℕ) (us : List (Use × ℕ)) (o : IsOpenable table s us (Instance n)) (named : List Id) (ps : List Piece) → uses_in ps ≡ []
        → AllByRecursion (Fits table n (place_of table n)) ps → IsExposed table s ((Instance n, done) ∷ us) named
        → IsExposed table s ((Instance n, done) ∷ us) (named ++ names_of (externs_in table ps))
    instance_grown n done us o named [] is fit x =
        subst (λ ids. IsExposed table s ((Instance n, done) ∷ us) ids) (sym (append-nil named)) x
    instance_grown n done us o named (single y ∷ ps) is fit x =
        subst (λ ids. IsExposed table s ((Instance n, done) ∷ us) ids) (append_assoc named y.names (names_of (externs_in table ps)))
        (instance_grown n done us o (named ++ y.names) ps is fit.1 (grown us named n done y.names o fit.0 x))
    instance_grown n done us o named (whole m ∷ ps) is fit x = absurd (let z : Instance m ∷ uses_in ps ≡ [] = is in cc)
    instance_grown n done us o named (equal m ns ∷ ps) is fit x = absurd (let z : Equal m ∷ uses_in ps ≡ [] = is in cc)

    -- more is exposed
    module _ (new : Exposed) (more : (m : ℕ) → is_exposed s m ≡ true → is_exposed new m ≡ true) where
      reached_more : (us : List (Use × ℕ)) (u : Use) → IsReached table s us u → IsReached table new us u
      reached_more us (Instance n) r = λ m l i. elim (r m l i) [ inl e ↦ inl e | inr y ↦ inr (elim y [ inl z ↦ inl (more m z) | inr z ↦ inr z ]) ]
      reached_more us (Equal n) r = tt

      half_more : (us : List (Use × ℕ)) (named : List Id) → Half us named → AreHalf table all last before new us named
      half_more [] named h = h
      half_more (u ∷ us) named h = (
        h.0,
        record { live = h.1.live; after = h.1.after; reached = reached_more us u.0 h.1.reached },
        record { uses_are = h.2.uses_are; fit = h.2.fit; names = h.2.names; met = h.2.met },
        half_more us (named_past table u.0 named h.0) h.3,
      )

      pub instance_done : (n done : ℕ) (us : List (Use × ℕ)) (named : List Id) → slice_get (uses_of all n) done ≡ None
          → is_exposed new n ≡ true → ((m : ℕ) → is_exposed new m ≡ true → (is_exposed s m ≡ true) ⊎ (m ≡ n))
          → IsExposed table s ((Instance n, done) ∷ us) named → Half ((Instance n, done) ∷ us) named → IsMidway table all last before new us
      instance_done n done us named at is only x h =
          let ps = h.0 in
          let now = named ++ names_of (externs_in table ps) in
          let g = instance_grown n done us h.1 named ps (h.2.uses_are ∙ drop_none (uses_of all n) done at) h.2.fit x in
          record {
            named = now;
            exposed = record {
              opened = λ m id l a i.
                  elim (g.opened m id l a i) [
                    | inl y ↦ inl (more m y)
                    | inr y ↦ elim y [ inl e ↦ inl (let k : n ≡ m = cc in subst (λ j. is_exposed new j ≡ true) k is) | inr z ↦ inr z ]
                  ];
              names = λ m y.
                  elim (only m y) [
                    | inl z ↦ g.names m z
                    | inr e ↦ (
                      subst (λ j. j < length table) (sym e) (live_known table n h.1.live),
                      λ id a. h.2.names id (subst (λ j. is_among (names_of (externs_of table j)) id ≡ true) e a),
                    )
                  ];
            };
            half = half_more us now h.3;
          }

      pub equal_done : (n done : ℕ) (us : List (Use × ℕ)) (named : List Id) → ((m : ℕ) → is_exposed new m ≡ true → is_exposed s m ≡ true)
          → IsExposed table s ((Equal n, done) ∷ us) named → Half ((Equal n, done) ∷ us) named → IsMidway table all last before new us
      equal_done n done us named only x h = record {
        named = named;
        exposed = record {
          opened = λ m id l a i.
              elim (x.opened m id l a i) [
                | inl y ↦ inl (more m y)
                | inr y ↦ elim y [ inl e ↦ absurd (let z : Equal n ≡ Instance m = e in cc) | inr z ↦ inr z ]
              ];
          names = λ m y. x.names m (only m y);
        };
        half = half_more us named h.3;
      }

-- All uses are done.
pub found : (table : List Surface) (all : List InstanceType) (u : Use) (before : List Id) (s : Exposed) → IsMidway table all u before s []
    → IsExposed table s [] (named_after table u before)
found table all u before s m = subst (λ ids. IsExposed table s [] ids) m.half m.exposed
