-- What is imported or exported, and what is named then.
use Rattle.std.proofs.Common.{arith, ◌≡◌, inl, inr, ℕ, zero, suc, ◌+◌, ◌<◌, true, false, List, [], ◌∷◌, ◌++◌, length, map}
use Rattle.std.proofs.Common.{refl, sym, ap, ◌∙◌, subst, append-nil, Option, None, Some}
use Rattle.std.specs.List.{AllZip, flat_map}
use Rattle.std.specs.Option.{option_map, option_to_list}
use Rattle.std.specs.Prelude.{slice_get}
use Rattle.smith_input.specs.NewNames.{is_among}
use Rattle.smith_syntax.specs.declared.deftype.ComponentTypeRef.{ComponentTypeRef}
use Rattle.smith_syntax.specs.declared.deftype.ComponentTypeRef.TheVariants as to
use Rattle.smith_tree.specs.Bodies.{externs_at}
use Rattle.smith_tree.specs.Facts.{Extern, FactScope, Facts, Id, id_at}
use Rattle.smith_tree.specs.Validates.{RefersTo, names_of}
use Rattle.smith_validate.specs.Attained.{Attains, AttainsOuter}
use Rattle.smith_validate.specs.Deferring.{IsExposure}
use Rattle.smith_validate.specs.Exact.{IsKeptExactly, IsNumberOf, IsPieceExactly, placed_by}
use Rattle.smith_validate.specs.Exposing.{IsMet, named_after, number_of}
use Rattle.smith_validate.specs.Externs.{extern_of, kept_extern, kept_instance}
use Rattle.smith_validate.specs.Instances.{Surface, Piece, equal, externs_in, externs_of, place_of, refers_of, single, uses_in, whole}
use Rattle.smith_validate.specs.Marks.{is_nothing}
use Rattle.smith_validate.specs.Opening.{IsOpenable, IsReached}
use Rattle.smith_validate.specs.Places.{IsBefore, IsChild, IsOpen, IsUnder}
use Rattle.smith_validate.specs.Tables.{AreAdded, IsLive, IsSeen, names_in}
use Rattle.smith_validate.specs.declared.body.Extern.{Extern as KeptExtern}
use Rattle.smith_validate.specs.declared.facts.Facts.{Facts as KeptFacts}
use Rattle.smith_validate.specs.declared.facts.Outermost.{Outermost}
use Rattle.smith_validate.specs.declared.facts.Outermost.TheVariants.{Unnamed, Scope, Nothing}
use Rattle.smith_validate.specs.declared.exposure.Exposure.{Exposure}
use Rattle.smith_validate.specs.declared.instances.Exposed.{Exposed}
use Rattle.smith_validate.specs.declared.instances.Use.{Use}
use Rattle.smith_validate.specs.declared.instances.Use.TheVariants.{Instance, Equal}
use Rattle.smith_validate.proofs.Attaining.{not_both}
use Rattle.smith_validate.proofs.Ids.{closed_open, inside_under, not_around, not_under, open_before, open_long, under_same, under_then, under_up}
use Rattle.smith_validate.proofs.Names.{Sub, among_cases, among_one, refers_within, sub_left, sub_right, sub_within}
use Rattle.smith_validate.proofs.Zips.{beside, none_beside}

-- what one type of instances names is named by one of them
pub names_of_one : (table : List Surface) (n : ℕ) → Sub (names_of (externs_of table n)) (names_in table)
names_of_one [] n id h = absurd (let z : false ≡ true = h in cc)
names_of_one (e ∷ table) zero id h = sub_left (names_of e.externs) (names_in table) id h
names_of_one (e ∷ table) (suc n) id h = sub_right (names_of e.externs) (names_in table) id (names_of_one table n id h)

module _ (table : List Surface) (outer : List FactScope) (own : FactScope) (named : List Id) where
  abbrev place : Id
  place = id_at (own ∷ outer)

  abbrev around : Id
  around = id_at outer

  abbrev Kept : KeptFacts → Facts → Type 0
  Kept k f = IsKeptExactly table place named k f

  -- a type of instances that an open scope has is seen from there
  open_seen : (n : ℕ) → n < length table → IsOpen place (place_of table n) → IsSeen table (length table) around n
  open_seen n h o = grind (arith, under_same, under_up)

  open_live : (n : ℕ) → IsOpen place (place_of table n) → IsLive table n
  open_live n o = λ e. let z : o.index ∷ o.scope ≡ [] = sym o.id_is ∙ e in cc

  one_long : (n : ℕ) (u : Use) → Instance n ∷ [] ≡ u ∷ [] → number_of u ≡ n
  one_long n u e = let z : Instance n ≡ u = cc in ap number_of (sym z)

  one_equal : (n : ℕ) (u : Use) → Equal n ∷ [] ≡ u ∷ [] → number_of u ≡ n
  one_equal n u e = let z : Equal n ≡ u = cc in ap number_of (sym z)

  -- a function, or a type that is equal to that one
  of_equal : (k : KeptFacts) (f : Facts) (ids : List Id) → Kept k f → ((id : Id) → is_among ids id ≡ true → id ≡ place)
      → (i : Option ℕ) → i ≡ k.instance
      → IsPieceExactly table place around named (record { refers = k.refers; used = option_map (λ n. Equal n) i })
      (record { refers = f.refers; names = ids } ∷ [])
  of_equal k f ids h one None e =
      let rs : f.refers ++ [] ≡ f.refers = append-nil f.refers in
      record {
        piece = single (record { refers = f.refers; names = ids });
        externs_are = refl;
        used_is = refl;
        fit = λ id a. subst (λ x. IsChild around x) (sym (one id a)) refl;
        open_is = λ n g. absurd (let z : [] ≡ Instance n ∷ [] = g in cc);
        live = λ u g. absurd (let z : [] ≡ u ∷ [] = g in cc);
        before = λ id a. h.before id (subst (λ xs. is_among xs id ≡ true) rs a);
        refers_are = subst (λ xs. Attains place named k.refers xs) (sym rs) h.refers_are;
        names = λ id a. inr (one id (subst (λ xs. is_among xs id ≡ true) (append-nil ids) a));
        some = λ g. let z : record { refers = f.refers; names = ids } ∷ [] ≡ [] = g in cc;
        placed = one;
      }
  of_equal k f ids h one (Some n) e =
      let rs : f.refers ++ [] ≡ f.refers = append-nil f.refers in
      let i = subst (λ o. IsNumberOf table place o f) (sym e) h.number_is in
      record {
        piece = equal n ids;
        externs_are = ap (λ (xs : List Id). record { refers = xs; names = ids } ∷ []) i.3;
        used_is = refl;
        fit = (open_seen n i.0 i.1, λ id a. subst (λ x. IsChild around x) (sym (one id a)) refl);
        open_is = λ m g. absurd (let z : Equal n ∷ [] ≡ Instance m ∷ [] = g in let y : Equal n ≡ Instance m = cc in cc);
        live = λ u g. subst (λ m. IsLive table m) (sym (one_equal n u g)) (open_live n i.1);
        before = λ id a. h.before id (subst (λ xs. is_among xs id ≡ true) rs a);
        refers_are = subst (λ xs. Attains place named k.refers xs) (sym rs) h.refers_are;
        names = λ id a. inr (one id (subst (λ xs. is_among xs id ≡ true) (append-nil ids) a));
        some = λ g. let z : record { refers = f.refers; names = ids } ∷ [] ≡ [] = g in cc;
        placed = one;
      }

  -- what is kept, or that there is nothing
  abbrev pub Is : Option KeptExtern → List Extern → Type 0
  Is None xs = xs ≡ []
  Is (Some k) xs = IsPieceExactly table place around named k xs

  -- an instance
  of_instance : (k : KeptFacts) (f : Facts) → Kept k f → (i : Option ℕ) → i ≡ k.instance
      → Is (option_map (λ n. record { refers = k.refers; used = Some (Instance n) }) i) (f.exports ++ [])
  of_instance k f h None e = append-nil f.exports ∙ subst (λ o. IsNumberOf table place o f) (sym e) h.number_is
  of_instance k f h (Some n) e =
      let i = subst (λ o. IsNumberOf table place o f) (sym e) h.number_is in
      let same : f.exports ++ [] ≡ f.exports = append-nil f.exports in
      let refs : refers_of (f.exports ++ []) ≡ f.refers = ap refers_of (same ∙ i.2) ∙ sym i.3 in
      record {
        piece = whole n;
        externs_are = ap (λ xs. xs ++ []) i.2;
        used_is = refl;
        fit = open_seen n i.0 i.1;
        open_is = λ m g. subst (λ j. IsOpen place (place_of table j)) (sym (one_long n (Instance m) g)) i.1;
        live = λ u g. subst (λ m. IsLive table m) (sym (one_long n u g)) (open_live n i.1);
        before = λ id a. h.before id (subst (λ xs. is_among xs id ≡ true) refs a);
        refers_are = subst (λ xs. Attains place named k.refers xs) (sym refs) h.refers_are;
        names = λ id a. inl (names_of_one table n id (subst (λ xs. is_among (names_of xs) id ≡ true) (same ∙ i.2) a));
        some = λ g. i.4 (sym same ∙ g);
        placed = λ id h. absurd (let z : false ≡ true = h in cc);
      }

  module _ (ks : List KeptFacts) (are : AllZip Kept ks own.types) (i : ℕ) where
    equal_found : (ids : List Id) → ((id : Id) → is_among ids id ≡ true → id ≡ place) → (o : Option KeptFacts) → o ≡ slice_get ks i
        → Is (option_map kept_extern o) (map (λ f. record { refers = f.refers; names = ids }) (option_to_list (slice_get own.types i)))
    equal_found ids one None e =
        ap (λ o. map (λ (f : Facts). record { refers = f.refers; names = ids }) (option_to_list o)) (none_beside Kept ks own.types i are e)
    equal_found ids one (Some k) e =
        let b = beside Kept ks own.types i k are e in
        subst (λ o. IsPieceExactly table place around named (kept_extern k)
        (map (λ (f : Facts). record { refers = f.refers; names = ids }) (option_to_list o))) (sym b.at)
        (of_equal k b.item ids b.is one k.instance refl)

    instance_found : (o : Option KeptFacts) → o ≡ slice_get ks i
        → Is (elim o [ None ↦ None | Some k ↦ kept_instance k ]) (flat_map (λ f. f.exports) (option_to_list (slice_get own.types i)))
    instance_found None e = ap (λ o. flat_map (λ (f : Facts). f.exports) (option_to_list o)) (none_beside Kept ks own.types i are e)
    instance_found (Some k) e =
        let b = beside Kept ks own.types i k are e in
        subst (λ o. Is (kept_instance k) (flat_map (λ (f : Facts). f.exports) (option_to_list o))) (sym b.at)
        (of_instance k b.item b.is k.instance refl)

  pub piece_exact : (ks : List KeptFacts) → AllZip Kept ks own.types → (r : ComponentTypeRef) → Is (extern_of ks r) (externs_at own outer r)
  piece_exact ks are (to.Module i) = refl
  piece_exact ks are (to.Func i) = equal_found ks are i [] (λ id h. absurd (let z : false ≡ true = h in cc)) (slice_get ks i) refl
  piece_exact ks are (to.TypeEq i) = equal_found ks are i (place ∷ []) (λ id h. sym (among_one place id h)) (slice_get ks i) refl
  piece_exact ks are (to.Component i) = refl
  piece_exact ks are (to.Instance i) = instance_found ks are i (slice_get ks i) refl

module _ (table : List Surface) (place around : Id) (full : List Id) (k : KeptExtern) (xs : List Extern) (added : AreAdded place table)
    (i : IsPieceExactly table place around full k xs) where
  -- It may be opened.
  pub piece_openable : (s : Exposed) (u : Use) → k.used ≡ Some u → IsOpenable table s [] u
  piece_openable s u e =
      let is = i.used_is ∙ ap option_to_list e in
      record { live = i.live u is; after = tt; reached = by_use u is }
    where
      by_use : (v : Use) → uses_in (i.piece ∷ []) ≡ v ∷ [] → IsReached table s [] v
      by_use (Equal n) is = tt
      by_use (Instance n) is = λ m l u.
          let o = i.open_is n is in
          elim (subst (λ p. IsUnder p (place_of table m)) o.id_is u) [
            | inl g ↦ inl (added.distinct m n l (i.live (Instance n) is) (sym (o.id_is ∙ g)))
            | inr v ↦ absurd (not_around 0 place (place_of table m) (added.before m l)
                (under_then place o.scope (place_of table m) (under_up place o.scope o.count o.place_is) v))
          ]

  -- it is met if it refers to what is named
  pub piece_met : (u : Use) → k.used ≡ Some u → (named : List Id) → RefersTo named xs → IsMet table u named
  piece_met u e named r = by_piece i.piece (i.used_is ∙ ap option_to_list e) (subst (λ ys. RefersTo named ys) i.externs_are r)
    where
      by_piece : (p : Piece) → uses_in (p ∷ []) ≡ u ∷ [] → RefersTo named (externs_in table (p ∷ [])) → IsMet table u named
      by_piece (single x) is h = absurd (let z : [] ≡ u ∷ [] = is in cc)
      by_piece (whole n) is h =
          let z : Instance n ≡ u = cc in
          subst (λ v. IsMet table v named) z (subst (λ ys. RefersTo named ys) (append-nil (externs_of table n)) h)
      by_piece (equal n ns) is h = let z : Equal n ≡ u = cc in subst (λ v. IsMet table v named) z h.0

  -- what is named at the place is in no type of instances
  at_place : (s : Exposure) (named : List Id) (more : List Id) → ((id : Id) → is_among more id ≡ true → id ≡ place)
      → IsExposure table s named → IsExposure table s (named ++ more)
  at_place s named more one x = record {
    opened = λ n id l h w.
        elim (among_cases named more id h) [
          | inl y ↦ x.opened n id l y w
          | inr y ↦ absurd
              (not_around 0 place (place_of table n) (added.before n l)
              (subst (λ p. IsUnder p (place_of table n)) (one id y) (inside_under id (place_of table n) w)))
        ];
    within = x.within;
    reached = x.reached;
    live = x.live;
    names = λ n h. let y = x.names n h in (y.0, λ id a. sub_left named more id (y.1 id a));
  }

  -- what is named with it, if it is of no type of instances
  pub single_exposed : (s : Exposure) (named : List Id) → k.used ≡ None → IsExposure table s named → IsExposure table s (named ++ names_of xs)
  single_exposed s named e x =
      let is = i.used_is ∙ ap option_to_list e in
      subst (λ ys. IsExposure table s (named ++ names_of ys)) (sym i.externs_are) (by_piece i.piece is i.placed)
    where
      by_piece : (p : Piece) → uses_in (p ∷ []) ≡ [] → ((id : Id) → is_among (placed_by p) id ≡ true → id ≡ place)
          → IsExposure table s (named ++ names_of (externs_in table (p ∷ [])))
      by_piece (single y) is f = at_place s named (y.names ++ []) (λ id h. f id (subst (λ ys. is_among ys id ≡ true) (append-nil y.names) h)) x
      by_piece (whole n) is f = absurd (let z : Instance n ∷ [] ≡ [] = is in cc)
      by_piece (equal n ns) is f = absurd (let z : Equal n ∷ [] ≡ [] = is in cc)

  -- if it is of one
  pub used_exposed : (s : Exposure) (named : List Id) (u : Use) → k.used ≡ Some u → IsExposure table s (named_after table u named)
      → IsExposure table s (named ++ names_of xs)
  used_exposed s named u e x =
      subst (λ ys. IsExposure table s (named ++ names_of ys)) (sym i.externs_are)
      (by_piece i.piece (i.used_is ∙ ap option_to_list e) i.placed)
    where
      by_piece : (p : Piece) → uses_in (p ∷ []) ≡ u ∷ [] → ((id : Id) → is_among (placed_by p) id ≡ true → id ≡ place)
          → IsExposure table s (named ++ names_of (externs_in table (p ∷ [])))
      by_piece (single y) is f = absurd (let z : [] ≡ u ∷ [] = is in cc)
      by_piece (whole n) is f =
          let z : Instance n ≡ u = cc in
          let y = subst (λ v. IsExposure table s (named_after table v named)) (sym z) x in
          subst (λ ys. IsExposure table s (named ++ names_of ys)) (sym (append-nil (externs_of table n))) y
      by_piece (equal n ns) is f =
          let z : Equal n ≡ u = cc in
          let y = subst (λ v. IsExposure table s (named_after table v named)) (sym z) x in
          at_place s named (ns ++ []) (λ id h. f id (subst (λ ys. is_among ys id ≡ true) (append-nil ns) h)) y

  -- a child of the scope that types of instances name was closed there
  pub not_closed : (id : Id) → IsOpen place id → is_among (names_in table) id ≡ true → ⊥
  not_closed id o h = closed_open place id (added.closed id h) o

  -- as what is kept of it says
  abbrev pub AttainedBy : Outermost → Id → Type 0
  AttainedBy Unnamed id = IsBefore 0 place id × (is_among full id ≡ false)
  AttainedBy (Scope level) id = IsOpen place id × (length id ≡ level + 1)
  AttainedBy Nothing id = ⊥

  -- Some of what it refers to is not named.
  pub not_referred : (o : Outermost) → (named : List Id) → AttainsOuter place full (refers_of xs) o → (is_nothing o ≡ false)
      → Sub (names_in table) full
      → ((id : Id) → is_among named id ≡ true → AttainedBy o id → ⊥) → RefersTo named xs → ⊥
  not_referred Nothing named a h t f r = let z : true ≡ false = h in cc
  not_referred Unnamed named a h t f r = grind (arith, sub_within, refers_within, among_cases, not_both, not_under, under_same)
  not_referred (Scope level) named a h t f r =
      let w = sub_within (named ++ names_of xs) (refers_of xs) (refers_within named xs r) a.0 a.1 in
      elim (among_cases named (names_of xs) a.0 w) [
        | inl y ↦ f a.0 y (a.2, a.3)
        | inr y ↦ elim (i.names a.0 y) [
          | inl z ↦ not_closed a.0 a.2 z
          | inr z ↦ not_under 0 place a.0 (open_before 0 place a.0 a.2 (open_long place a.0 a.2)) (subst (λ p. IsUnder a.0 p) z (under_same a.0))
        ]
      ]
