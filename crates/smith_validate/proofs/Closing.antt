-- Types that are closed, and what is known then.
use Rattle.std.proofs.Common.{◌≡◌, ◌⊎◌, inl, inr, ℕ, zero, suc, ◌+◌, ◌<◌, ◌≤◌, Bool, true, false, List, [], ◌∷◌, ◌++◌, length, map, get_or}
use Rattle.std.proofs.Common.{refl, sym, ap, ◌∙◌, subst, arith, append-nil, length-append, Option, None, Some}
use Rattle.std.proofs.Math.Seq.{get_or-append_seam}
use Rattle.std.proofs.lemmas.Bool.{ltb-false, ltb-true}
use Rattle.std.specs.List.{AllByRecursion}
use Rattle.std.specs.Prelude.{ltb, slice_get}
use Rattle.smith_input.specs.NewNames.{is_among}
use Rattle.smith_tree.specs.Bodies.{Body}
use Rattle.smith_tree.specs.Facts.{FactScope, Id, id_at}
use Rattle.smith_tree.specs.Validates.{names_of}
use Rattle.smith_validate.specs.Attained.{AttainsInner}
use Rattle.smith_validate.specs.Exact.{AreExportsExactly, IsDeclaredExactly}
use Rattle.smith_validate.specs.Exposing.{refers_own}
use Rattle.smith_validate.specs.Instances.{Surface, Piece, equal, externs_in, externs_of, no_surface, place_of, refers_of, single, whole}
use Rattle.smith_validate.specs.Marks.{closed_needs, instance_facts, is_below}
use Rattle.smith_validate.specs.Nested.{instance_plain}
use Rattle.smith_validate.specs.Places.{IsBefore, IsChild, IsClosed, IsInside, IsOpen, IsUnder}
use Rattle.smith_validate.specs.Tables.{AreAdded, AreDistinct, AreExact, Fits, IsExact, IsGrown, IsLive, IsSeen, names_in}
use Rattle.smith_validate.specs.declared.body.Exported.{Exported}
use Rattle.smith_validate.specs.declared.instances.InstanceType.{InstanceType}
use Rattle.smith_validate.specs.declared.instances.Use.{Use}
use Rattle.smith_validate.specs.declared.known.Known.{Known}
use Rattle.smith_validate.proofs.Attaining.{attains_closed}
use Rattle.smith_validate.proofs.Ids.{added_open, before_leave, child_inside, inside_under, not_around, not_under, open_before, open_out, open_short}
use Rattle.smith_validate.proofs.Ids.{under_same, under_then}
use Rattle.smith_validate.proofs.Knowing.{added_leave, grown_then, names_in_append, next_at}
use Rattle.smith_validate.proofs.Names.{Sub, among_cases, sub_left, sub_right}
use Rattle.smith_validate.proofs.Opened.{live_known}
use Rattle.smith_validate.proofs.Zips.{all_by}
use Rattle.smith_validate.proofs.Tables.{externs_more, externs_one_more, place_more}
use Rattle.smith_scope.proofs.Places.{get_left as slice_left}

-- an id that was added to the scope within a place
pub open_child : (inner : ℕ) (place id : Id) → IsOpen (inner ∷ place) id → length id ≡ length place + 1 → IsChild place id
open_child inner place id o l =
    elim (open_out inner place id o) [ inl c ↦ c | inr p ↦ absurd (let k = open_short place id p in omega (arith, l, k)) ]

pub child_closed : (inner count : ℕ) (scope id : Id) → IsChild (count ∷ scope) id → IsClosed ((count + 1) ∷ scope) id
child_closed inner count scope [] h = absurd h
child_closed inner count scope (k ∷ id) h =
    subst (λ x. IsBefore 0 ((count + 1) ∷ scope) x) (sym h) (open_before 0 ((count + 1) ∷ scope) (count ∷ scope) (added_open count scope) (omega arith))

pub child_not_before : (place id : Id) → IsChild place id → IsBefore 0 place id → ⊥
child_not_before place id h b = not_under 0 place id b (inside_under id place (child_inside place id h))

-- an id that was added there at some depth
pub deep_inside : (inner level : ℕ) (place id : Id) → length place ≤ level → IsBefore level (inner ∷ place) id → IsInside id place
deep_inside inner level place id h b =
    elim (open_out inner place b.around b.open_is) [
      | inl c ↦ inside_of id b.around b.within c
      | inr o ↦ absurd (let k = open_short place b.around o in omega (arith, h, k, b.deep))
    ]
  where
    inside_of : (x around : Id) → IsUnder x around → IsChild place around → IsInside x place
    inside_of [] around u c = subst (λ y. IsInside y place) (sym u) (child_inside place around c)
    inside_of (j ∷ x) around u c =
        elim u [
          | inl e ↦ subst (λ y. IsInside y place) (sym e) (child_inside place around c)
          | inr v ↦ under_then x around place v (inside_under around place (child_inside place around c))
        ]

-- What is exported, if it fits in another way too.
pub fits_by : (a b : List Surface) (m n : ℕ) (around : Id) → ((k : ℕ) → IsSeen a m around k → (k < n) × (place_of b k ≡ place_of a k)) → (ps : List Piece)
    → AllByRecursion (Fits a m around) ps → AllByRecursion (Fits b n around) ps
fits_by a b m n around f = all_by (Fits a m around) (Fits b n around) one
  where
    seen : (k : ℕ) → IsSeen a m around k → IsSeen b n around k
    seen k s = record { scope = s.scope; index = s.index; below = (f k s).0; place_is = (f k s).1 ∙ s.place_is; scope_is = s.scope_is }

    one : (q : Piece) → Fits a m around q → Fits b n around q
    one (single x) g = g
    one (whole k) g = seen k g
    one (equal k names) g = (seen k g.0, g.1)

-- with more types of instances
module _ (table more : List Surface) (bound : ℕ) (around : Id) (h : bound ≤ length table) where
  pub fit_more : (ps : List Piece) → AllByRecursion (Fits table bound around) ps → AllByRecursion (Fits (table ++ more) bound around) ps
  fit_more = fits_by table (table ++ more) bound bound around (λ n s. (s.below, place_more table more n (omega (arith, s.below, h))))

  pub fit_less : (ps : List Piece) → AllByRecursion (Fits (table ++ more) bound around) ps → AllByRecursion (Fits table bound around) ps
  fit_less = fits_by (table ++ more) table bound bound around (λ n s. (s.below, sym (place_more table more n (omega (arith, s.below, h)))))

  pub externs_fit : (ps : List Piece) → AllByRecursion (Fits table bound around) ps → externs_in (table ++ more) ps ≡ externs_in table ps
  externs_fit [] f = refl
  externs_fit (single x ∷ ps) f = externs_one_more table more (single x) ps tt (externs_fit ps f.1)
  externs_fit (whole n ∷ ps) f = externs_one_more table more (whole n) ps (omega (arith, f.0.below, h)) (externs_fit ps f.1)
  externs_fit (equal n ns ∷ ps) f = externs_one_more table more (equal n ns) ps (omega (arith, f.0.0.below, h)) (externs_fit ps f.1)

pub fit_wider : (table : List Surface) (a b : ℕ) (around : Id) → a ≤ b → (ps : List Piece) → AllByRecursion (Fits table a around) ps
    → AllByRecursion (Fits table b around) ps
fit_wider table a b around h = fits_by table table a b around (λ n s. (omega (arith, s.below, h), refl))

abbrev pub uses_or : Option InstanceType → List Use
uses_or o = elim o [ None ↦ [] | Some t ↦ t.uses.items ]

abbrev pub own_or : Option InstanceType → Bool
own_or o = elim o [ None ↦ false | Some t ↦ t.refers_to_own ]

-- one of those that are in both
exact_by : (all now : List InstanceType) (a b : List Surface) (n : ℕ) → place_of b n ≡ place_of a n → externs_of b n ≡ externs_of a n
    → slice_get now n ≡ slice_get all n
    → ((ps : List Piece) → AllByRecursion (Fits a n (place_of a n)) ps → AllByRecursion (Fits b n (place_of a n)) ps × (externs_in a ps ≡ externs_in b ps))
    → IsExact all a n → IsExact now b n
exact_by all now a b n place externs same move e =
    let m = move e.pieces e.fit in
    record {
      pieces = e.pieces;
      externs_are = externs ∙ (e.externs_are ∙ m.1);
      uses_are = ap uses_or same ∙ e.uses_are;
      fit = subst (λ p. AllByRecursion (Fits b n p) e.pieces) (sym place) m.0;
      own = λ o.
          let r = e.own (sym (ap own_or same) ∙ o) in
          (r.0, subst (λ xs. is_among (refers_of xs) r.0 ≡ true) (sym externs) r.1, subst (λ p. IsInside r.0 p) (sym place) r.2);
    }

pub exact_more : (all now : List InstanceType) (table more : List Surface) (n : ℕ) → n < length table → slice_get now n ≡ slice_get all n
    → IsExact all table n → IsExact now (table ++ more) n
exact_more all now table more n h same =
    let around = place_of table n in
    exact_by all now table (table ++ more) n (place_more table more n h) (externs_more table more n h) same
    (λ ps f. (fit_more table more n around (omega (arith, h)) ps f, sym (externs_fit table more n around (omega (arith, h)) ps f)))

pub exact_less : (all : List InstanceType) (table more : List Surface) (n : ℕ) → n < length table → IsExact all (table ++ more) n → IsExact all table n
exact_less all table more n h =
    let around = place_of (table ++ more) n in
    exact_by all all (table ++ more) table n (sym (place_more table more n h)) (sym (externs_more table more n h)) refl
    (λ ps f. let g = fit_less table more n around (omega (arith, h)) ps f in (g, externs_fit table more n around (omega (arith, h)) ps g))

slice_seam : {A : Type 0} (xs : List A) (y : A) (ys : List A) → slice_get (xs ++ y ∷ ys) (length xs) ≡ Some y
slice_seam [] y ys = refl
slice_seam (x ∷ xs) y ys = slice_seam xs y ys

-- one more type of instances
module _ (all : List InstanceType) (table : List Surface) (t : InstanceType) (x : Surface) (long : length all ≡ length table) where
  abbrev now : List InstanceType
  now = all ++ t ∷ []

  abbrev then : List Surface
  then = table ++ x ∷ []

  at_end : get_or then (length table) no_surface ≡ x
  at_end = get_or-append_seam table x [] no_surface

  type_at_end : slice_get now (length table) ≡ Some t
  type_at_end = subst (λ n. slice_get now n ≡ Some t) long (slice_seam all t [])

  then_long : length then ≡ length table + 1
  then_long = length-append table (x ∷ [])

  -- each is one of the earlier ones, or the last
  live_cases : (n : ℕ) → IsLive then n → (n < length table) ⊎ (n ≡ length table)
  live_cases n l =
      let h = live_known then n l in
      by_length (ltb n (length table)) refl h
    where
      by_length : (b : Bool) → ltb n (length table) ≡ b → n < length then → (n < length table) ⊎ (n ≡ length table)
      by_length true e h = inl (ltb-true n (length table) e)
      by_length false e h = let g = ltb-false n (length table) e in inr (omega (arith, g, h, then_long))

  live_before : (n : ℕ) → n < length table → IsLive then n → IsLive table n
  live_before n h l = λ e. l (place_more table (x ∷ []) n h ∙ e)

  exact_push : AreExact all table → IsExact now then (length table) → AreExact now then
  exact_push e f = λ n l.
      elim (live_cases n l) [
        | inl h ↦ exact_more all now table (x ∷ []) n h (slice_left all (t ∷ []) n (omega (arith, h, long))) (e n (live_before n h l))
        | inr g ↦ subst (λ m. IsExact now then m) (sym g) f
      ]

  last_place : place_of then (length table) ≡ x.place
  last_place = ap (λ e. e.place) at_end

  last_externs : externs_of then (length table) ≡ x.externs
  last_externs = ap (λ e. e.externs) at_end

  names_then : (id : Id) → is_among (names_in then) id ≡ true → (is_among (names_in table) id ≡ true) ⊎ (is_among (names_of x.externs) id ≡ true)
  names_then id h =
      elim (among_cases (names_in table) (names_of x.externs ++ []) id (subst (λ ids. is_among ids id ≡ true) (names_in_append table (x ∷ [])) h))
      [ inl y ↦ inl y | inr y ↦ inr (subst (λ ids. is_among ids id ≡ true) (append-nil (names_of x.externs)) y) ]

is_deeper : (o : Option ℕ) (depth : ℕ) → is_below o depth ≡ true → (level : ℕ) × (o ≡ Some level) × (depth < level)
is_deeper None depth h = absurd (let z : false ≡ true = h in cc)
is_deeper (Some level) depth h = (level, refl, ltb-true depth level h)

pub scope_long : {A B : Type 0} (f : A → B) (xs : List A) → length (map f xs) ≡ length xs
scope_long f [] = refl
scope_long f (x ∷ xs) = let h = scope_long f xs in omega (arith, h)

-- An instance type is closed.
module _ (b : Body) (own : FactScope) (outer : List FactScope) (named : List Id) (table : List Surface) (old : Known) (e : Exported) (t : InstanceType)
    (size : ℕ) (depth : ℕ) (d : depth ≡ length outer) (new : List Surface) (grown : IsGrown (id_at (own ∷ outer)) table new)
    (exact : AreExact old.instances.items new) (added : AreAdded (id_at (b.own ∷ own ∷ outer)) new) (long : length old.instances.items ≡ length new)
    (are : (id : Id) → is_among (names_of b.exports) id ≡ true
    → (is_among (names_in new) id ≡ true) ⊎ (IsOpen (id_at (b.own ∷ own ∷ outer)) id × (length id ≡ length (own ∷ outer) + 1)))
    (role : AreExportsExactly new (id_at (b.own ∷ own ∷ outer)) (id_at (own ∷ outer)) ((names_of b.exports ++ named) ++ names_in new) e b.exports)
    (any : e.any ≡ true) (uses : t.uses.items ≡ e.uses.items) (refers_own_is : t.refers_to_own ≡ is_below e.refers.innermost depth) where
  abbrev place : Id
  place = id_at (own ∷ outer)

  abbrev next : Id
  next = next_at own outer

  abbrev last : Surface
  last = record { externs = b.exports; outside = []; place = place }

  abbrev wide : List Surface
  wide = new ++ last ∷ []

  abbrev types : List InstanceType
  types = old.instances.items ++ t ∷ []

  outer_long : length (id_at outer) ≡ length outer
  outer_long = scope_long (λ (s : FactScope). length s.types) outer

  child : (id : Id) → is_among (names_of b.exports) id ≡ true → (is_among (names_in new) id ≡ true) ⊎ IsChild place id
  child id h =
      elim (are id h) [
        | inl y ↦ inl y
        | inr y ↦ inr (open_child (length b.own.types) place id y.0 (omega (arith, y.1, outer_long)))
      ]

  closed_grown : IsGrown place table wide
  closed_grown = grown_then place table new wide grown (record {
    more = last ∷ [];
    is = refl;
    names = λ id h before.
        elim (names_then old.instances.items new t last long id h) [
          | inl y ↦ y
          | inr y ↦ elim (child id y) [ inl z ↦ z | inr c ↦ absurd (child_not_before place id c before) ]
        ];
    places = λ n h l.
        elim (live_cases old.instances.items new t last long n l) [
          | inl g ↦ absurd (omega (arith, g, h))
          | inr g ↦ subst (λ m. IsUnder (place_of wide m) place) (sym g)
              (subst (λ p. IsUnder p place) (sym (last_place old.instances.items new t last long)) (under_same place))
        ];
  })

  own_exact : refers_own types (length new) ≡ true → (id : Id) × (is_among (refers_of (externs_of wide (length new))) id ≡ true)
      × IsInside id (place_of wide (length new))
  own_exact o =
      let flag : is_below e.refers.innermost depth ≡ true =
      sym refers_own_is ∙ (sym (ap own_or (type_at_end old.instances.items new t last long)) ∙ o) in
      let deep = is_deeper e.refers.innermost depth flag in
      let inner = subst (λ i. AttainsInner (id_at (b.own ∷ own ∷ outer)) (refers_of b.exports) i) deep.1 role.refers_are.inner in
      let at = deep_inside (length b.own.types) deep.0 place inner.0 (omega (arith, deep.2, d, outer_long)) inner.2 in (
        inner.0,
        subst (λ xs. is_among (refers_of xs) inner.0 ≡ true) (sym (last_externs old.instances.items new t last long)) inner.1,
        subst (λ p. IsInside inner.0 p) (sym (last_place old.instances.items new t last long)) at,
      )

  last_exact : IsExact types wide (length new)
  last_exact = record {
    pieces = role.pieces;
    externs_are = last_externs old.instances.items new t last long
        ∙ (role.externs_are ∙ sym (externs_fit new (last ∷ []) (length new) place (omega arith) role.pieces role.fit));
    uses_are = ap uses_or (type_at_end old.instances.items new t last long) ∙ (uses ∙ role.uses_are);
    fit = subst (λ p. AllByRecursion (Fits wide (length new) p) role.pieces) (sym (last_place old.instances.items new t last long))
        (fit_more new (last ∷ []) (length new) place (omega arith) role.pieces role.fit);
    own = own_exact;
  }

  place_before : (n : ℕ) → IsLive wide n → (n < length new) ⊎ (n ≡ length new) → IsBefore 0 next (place_of wide n)
  place_before n l c =
      elim c [
        | inl h ↦ subst (λ p. IsBefore 0 next p) (sym (place_more new (last ∷ []) n h))
            (before_leave (length b.own.types) (length own.types) (id_at outer) 0 0 (place_of new n) (omega arith) (omega arith)
            (added.before n (live_before old.instances.items new t last long n h l)))
        | inr g ↦ subst (λ m. IsBefore 0 next (place_of wide m)) (sym g)
            (subst (λ p. IsBefore 0 next p) (sym (last_place old.instances.items new t last long))
            (open_before 0 next place (added_open (length own.types) (id_at outer)) (omega arith)))
      ]

  -- none of the earlier ones was added at the place
  not_place : (n : ℕ) → n < length new → IsLive wide n → place_of wide n ≡ place → ⊥
  not_place n h l e =
      let before = added.before n (live_before old.instances.items new t last long n h l) in
      not_around 0 (id_at (b.own ∷ own ∷ outer)) (place_of new n) before
      (inr (subst (λ p. IsUnder place p) (sym e ∙ place_more new (last ∷ []) n h) (under_same place)))

  last_is : (n : ℕ) → n ≡ length new → place_of wide n ≡ place
  last_is n g = ap (λ m. place_of wide m) g ∙ last_place old.instances.items new t last long

  distinct_now : AreDistinct wide
  distinct_now m n l k same =
      elim (live_cases old.instances.items new t last long m l) [
        | inl h ↦ elim (live_cases old.instances.items new t last long n k) [
          | inl g ↦ added.distinct m n (live_before old.instances.items new t last long m h l) (live_before old.instances.items new t last long n g k)
              (sym (place_more new (last ∷ []) m h) ∙ (same ∙ place_more new (last ∷ []) n g))
          | inr g ↦ absurd (not_place m h l (same ∙ last_is n g))
        ]
        | inr h ↦ elim (live_cases old.instances.items new t last long n k) [
          | inl g ↦ absurd (not_place n g k (sym same ∙ last_is m h))
          | inr g ↦ h ∙ sym g
        ]
      ]

  added_now : AreAdded next wide
  added_now = record {
    before = λ n l. place_before n l (live_cases old.instances.items new t last long n l);
    distinct = distinct_now;
    closed = λ id h.
        let left = (added_leave (length b.own.types) (length own.types) (id_at outer) new added).closed in
        elim (names_then old.instances.items new t last long id h) [
          | inl y ↦ left id y
          | inr y ↦ elim (child id y) [
            | inl z ↦ left id z
            | inr c ↦ child_closed (length b.own.types) (length own.types) (id_at outer) id c
          ]
        ];
  }

  less_named : Sub (named ++ names_in wide) ((names_of b.exports ++ named) ++ names_in new)
  less_named = λ id h.
      let N = names_of b.exports in
      let A = (N ++ named) ++ names_in new in
      elim (among_cases named (names_in wide) id h) [
        | inl y ↦ sub_left (N ++ named) (names_in new) id (sub_right N named id y)
        | inr y ↦ elim (names_then old.instances.items new t last long id y) [
          | inl z ↦ sub_right (N ++ named) (names_in new) id z
          | inr z ↦ sub_left (N ++ named) (names_in new) id (sub_left N named id z)
        ]
      ]

  pub closed_exactly : (k : Known) (number : ℕ) → k.instances.items ≡ types → number ≡ length new
      → IsDeclaredExactly own outer named table k (instance_facts (closed_needs e.refers depth) size number) (instance_plain place b)
  closed_exactly k number items n = record {
    new = wide;
    grown = closed_grown;
    instances_are = subst (λ ts. AreExact ts wide) (sym items) (exact_push old.instances.items new t last long exact last_exact);
    added = added_now;
    long = ap (λ (ts : List InstanceType). length ts) items
        ∙ (length-append old.instances.items (t ∷ []) ∙ (ap (λ m. m + 1) long ∙ sym (then_long old.instances.items new t last long)));
    is = record {
      nominal_is = refl;
      id_before = open_before 0 next place (added_open (length own.types) (id_at outer)) (omega arith);
      before = λ id h. before_leave (length b.own.types) (length own.types) (id_at outer) 0 0 id (omega arith) (omega arith) (role.before id h);
      refers_are = attains_closed (length b.own.types) (length own.types) (id_at outer) ((names_of b.exports ++ named) ++ names_in new)
          (named ++ names_in wide) less_named depth (d ∙ sym outer_long) e.refers (refers_of b.exports) role.refers_are;
      needs_are = λ none. absurd (role.some any none);
      number_is = (
        subst (λ m. m < length wide) (sym n) (let h = then_long old.instances.items new t last long in omega (arith, h)),
        subst (λ p. IsOpen next p) (sym (last_is number n)) (added_open (length own.types) (id_at outer)),
        sym (ap (λ m. externs_of wide m) n ∙ last_externs old.instances.items new t last long),
        ap refers_of (sym (ap (λ m. externs_of wide m) n ∙ last_externs old.instances.items new t last long)),
        role.some any,
      );
    };
  }
