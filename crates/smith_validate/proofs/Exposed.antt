-- Types of instances that are being judged, use by use.
use Rattle.std.proofs.Common.{◌≡◌, ◌⊎◌, inl, inr, ℕ, zero, suc, ◌+◌, ◌<◌, Bool, true, false, List, [], ◌∷◌, ◌++◌, length, get_or}
use Rattle.std.proofs.Common.{drop, reverse, refl, sym, ap, ◌∙◌, subst, arith, append_assoc}
use Rattle.std.proofs.Common.{Option, None, Some}
use Rattle.std.proofs.Math.Seq.{drop-nil}
use Rattle.std.proofs.lemmas.List.{reverse-append}
use Rattle.std.proofs.lemmas.Option.{get_or_from_slice_get, slice_get_within}
use Rattle.std.specs.List.{AllZip}
use Rattle.smith_input.proofs.Rests.{rest_at}
use Rattle.std.specs.Option.{option_map}
use Rattle.std.specs.Prelude.{slice_get}
use Rattle.smith_tree.specs.Facts.{Extern, Id}
use Rattle.smith_tree.specs.Validates.{RefersTo, names_of}
use Rattle.smith_validate.specs.Exposing.{IsMet, IsOnTheWay, IsPending, IsSettled, Meets, is_settled, named_after, number_of, refers_own, use_in, uses_of}
use Rattle.smith_validate.specs.Instances.{Surface, Follow, IsInstanceType, IsTable, Piece, Rest, equal, externs_in, externs_of, no_surface}
use Rattle.smith_validate.specs.Instances.{outside_of, refers_of, single, uses_in, whole}
use Rattle.smith_validate.specs.Marks.{Within}
use Rattle.smith_validate.specs.Numbers.{is_in}
use Rattle.smith_validate.specs.declared.instances.Exposed.{Exposed}
use Rattle.smith_validate.specs.declared.instances.InstanceType.{InstanceType}
use Rattle.smith_validate.specs.declared.instances.Use.{Use}
use Rattle.smith_validate.specs.declared.instances.Use.TheVariants.{Instance, Equal}
use Rattle.smith_validate.proofs.Names.{Sub, refers_of_append, refers_within, sub_left, sub_same, sub_within, within_append}
use Rattle.smith_validate.proofs.Names.{or_cases, or_left, or_right, within_refers}
use Rattle.smith_validate.proofs.Tables.{follow_sub, rest_sub}
use Rattle.smith_tree.proofs.Named.{refers_both as refers_append, names_of_both as names_append}

pub drop_at : {A : Type 0} (xs : List A) (i : ℕ) (x : A) → slice_get xs i ≡ Some x → drop i xs ≡ x ∷ drop (i + 1) xs
drop_at xs i x h = rest_at xs i x (slice_get_within xs i x h) (sym (get_or_from_slice_get xs i x x h))

pub drop_none : {A : Type 0} (xs : List A) (i : ℕ) → slice_get xs i ≡ None → drop i xs ≡ []
drop_none [] i h = drop-nil i
drop_none (x ∷ xs) zero h = absurd (let z : Some x ≡ None = h in cc)
drop_none (x ∷ xs) (suc i) h = drop_none xs i h

pub reverse_push : {A : Type 0} (xs ys : List A) (x : A) → ys ≡ xs ++ x ∷ [] → reverse ys ≡ x ∷ reverse xs
reverse_push xs ys x e = ap reverse e ∙ reverse-append xs (x ∷ [])

-- what is at a place of two lists
pub record Both {A B : Type 0} (R : A → B → Type 0) (xs : List A) (n : ℕ) (y : B) : Type 0 where
  pub item : A
  pub at : slice_get xs n ≡ Some item
  pub is : R item y

pub both_at : {A B : Type 0} (R : A → B → Type 0) (xs : List A) (ys : List B) (n : ℕ) (d : B) → AllZip R xs ys → n < length ys → Both R xs n (get_or ys n d)
both_at R [] [] n d a h = absurd (omega (arith, h))
both_at R [] (y ∷ ys) n d a h = absurd a
both_at R (x ∷ xs) [] n d a h = absurd a
both_at R (x ∷ xs) (y ∷ ys) zero d a h = record { item = x; at = refl; is = a.0 }
both_at R (x ∷ xs) (y ∷ ys) (suc n) d a h =
    let b = both_at R xs ys n d a.1 (omega (arith, h)) in record { item = b.item; at = b.at; is = b.is }

module _ (table : List Surface) where
  pub within_met : (u : Use) (named : List Id) → Within named (refers_of (externs_of table (number_of u))) → IsMet table u named
  within_met (Instance n) named w = within_refers named (externs_of table n) w
  within_met (Equal n) named w = w

  pub after_sub : (u : Use) (named : List Id) → Sub named (named_after table u named)
  after_sub (Instance n) named = sub_left named (names_of (externs_of table n))
  after_sub (Equal n) named = sub_same named

  module _ (all : List InstanceType) (Goal : List Id → Type 0) where
    abbrev Pending : List (Use × ℕ) → List Id → Type 0
    Pending us named = IsPending table all Goal us named

    -- a use that is opened
    module _ (n : ℕ) (named : List Id) (us : List (Use × ℕ)) (ts : IsTable all table) (h : n < length table) (w : Within named (outside_of table n)) where
      abbrev Entry : Type 0
      Entry = Both (IsInstanceType table) all n (get_or table n no_surface)

      entry : Entry
      entry = both_at (IsInstanceType table) all table n no_surface ts h

      uses_at : (e : Entry) → uses_in e.is.pieces ≡ drop 0 (uses_of all n)
      uses_at e = sym (ap (λ o. elim o as (λ x. List Use) [ None ↦ [] | Some t ↦ t.uses.items ]) e.at ∙ e.is.uses_are)

      pub instance_opened : (IsMet table (Instance n) named → Pending us (named_after table (Instance n) named)) → Pending ((Instance n, 0) ∷ us) named
      instance_opened f =
          let e : Entry = entry in
          let P : List Extern → Type 0 = λ xs. RefersTo named xs → Within (named ++ names_of xs) (refers_of (externs_of table n)) × Pending us
          (named ++ names_of xs) in
          let go : P (externs_of table n) = λ m. (refers_within named (externs_of table n) m, f m) in (
            e.is.pieces,
            h,
            uses_at e,
            follow_sub table (outside_of table n) named e.is.pieces (sub_within named (outside_of table n) w) e.is.follow,
            subst P e.is.externs_are go,
          )

      pub equal_opened : refers_own all n ≡ false → (IsMet table (Equal n) named → Pending us named) → Pending ((Equal n, 0) ∷ us) named
      equal_opened o f =
          let e : Entry = entry in
          let own : e.item.refers_to_own ≡ false = sym (ap (λ x. elim x as (λ y. Bool) [ None ↦ false | Some t ↦ t.refers_to_own ]) e.at) ∙ o in
          let P : List Extern → Type 0 = λ xs. Within named (refers_of xs) → Within named (refers_of (externs_of table n)) × Pending us named in
          let go : P (externs_of table n) = λ m. (m, f m) in (
            e.is.pieces,
            h,
            uses_at e,
            rest_sub table (outside_of table n) named e.is.pieces (sub_within named (outside_of table n) w) (e.is.rest own),
            subst P e.is.externs_are go,
          )

    -- The next of the uses of a use is known, and once it is met the others are pending.
    pub record Next (u v : Use) (done : ℕ) (us : List (Use × ℕ)) (named : List Id) : Type 0 where
      pub then : List Id
      pub grows : Sub named then
      pub known : number_of v < length table
      pub within : Within then (outside_of table (number_of v))
      pub goes_on : IsMet table v then → Pending ((u, done) ∷ us) (named_after table v then)

    module _ (n : ℕ) (h : n < length table) (us : List (Use × ℕ)) (done : ℕ) (v : Use) (left : List Use) (e : left ≡ drop done (uses_of all n)) where
      instance_next : (named : List Id) (ps : List Piece) → uses_in ps ≡ v ∷ left → Follow table named ps
          → (RefersTo named (externs_in table ps)
          → Within (named ++ names_of (externs_in table ps)) (refers_of (externs_of table n)) × Pending us (named ++ names_of (externs_in table ps)))
          → Next (Instance n) (use_in (Instance n) v) done us named
      instance_next named [] is f go = absurd (let z : [] ≡ v ∷ left = is in cc)
      instance_next named (single x ∷ ps) is f go =
          let S = named ++ x.names in
          let P : List Id → Type 0 = λ ids. Within ids (refers_of (externs_of table n)) × Pending us ids in
          let r = instance_next S ps is f.2
          (λ m. subst P (sym (append_assoc named x.names (names_of (externs_in table ps)))) (go (f.1, m))) in
          record { then = r.then; grows = λ id y. r.grows id (sub_left named x.names id y); known = r.known; within = r.within; goes_on = r.goes_on }
      instance_next named (whole m ∷ ps) is f go =
          let xs = externs_of table m in
          let first : Instance m ≡ v = cc in
          let rest : uses_in ps ≡ left = cc in
          let P : List Id → Type 0 = λ ids. Within ids (refers_of (externs_of table n)) × Pending us ids in
          let names : named ++ names_of (xs ++ externs_in table ps) ≡ (named ++ names_of xs) ++ names_of (externs_in table ps) =
          ap (λ ids. named ++ ids) (names_append xs (externs_in table ps)) ∙ sym (append_assoc named (names_of xs) (names_of (externs_in table ps))) in
          let N : Use → Type 0 = λ w. Next (Instance n) w done us named in
          let it : N (Instance m) = record {
            then = named;
            grows = sub_same named;
            known = f.0;
            within = f.1;
            goes_on = λ met. (ps, h, rest ∙ e, f.2, λ are. subst P names (go (refers_append named xs (externs_in table ps) met are)));
          } in
          subst N first it
      instance_next named (equal m ns ∷ ps) is f go =
          let first : Equal m ≡ v = cc in
          let rest : uses_in ps ≡ left = cc in
          let x : Extern = record { refers = refers_of (externs_of table m); names = ns } in
          let N : Use → Type 0 = λ w. Next (Instance n) w done us named in
          let it : N (Equal m) = record {
            then = named;
            grows = sub_same named;
            known = f.0;
            within = f.1;
            goes_on = λ met. (single x ∷ ps, h, rest ∙ e, (tt, met, f.2), go);
          } in
          subst N first it

      equal_next : (named : List Id) (ps : List Piece) → uses_in ps ≡ v ∷ left → Rest table named ps
          → (Within named (refers_of (externs_in table ps)) → Within named (refers_of (externs_of table n)) × Pending us named)
          → Next (Equal n) (use_in (Equal n) v) done us named
      equal_next named [] is f go = absurd (let z : [] ≡ v ∷ left = is in cc)
      equal_next named (single x ∷ ps) is f go =
          equal_next named ps is f.2 (λ m. go (within_append named x.refers (refers_of (externs_in table ps)) f.1 m))
      equal_next named (whole m ∷ ps) is f go =
          let xs = externs_of table m in
          let first : Instance m ≡ v = cc in
          let rest : uses_in ps ≡ left = cc in
          let N : Use → Type 0 = λ w. Next (Equal n) (Equal (number_of w)) done us named in
          let it : N (Instance m) = record {
            then = named;
            grows = sub_same named;
            known = f.0;
            within = f.1;
            goes_on = λ met. (
              ps,
              h,
              rest ∙ e,
              f.2,
              λ are.
                  go (subst (λ ids. Within named ids) (sym (refers_of_append xs (externs_in table ps)))
                  (within_append named (refers_of xs) (refers_of (externs_in table ps)) met are)),
            );
          } in
          subst N first it
      equal_next named (equal m ns ∷ ps) is f go =
          let xs = externs_of table m in
          let first : Equal m ≡ v = cc in
          let rest : uses_in ps ≡ left = cc in
          let N : Use → Type 0 = λ w. Next (Equal n) (Equal (number_of w)) done us named in
          let it : N (Equal m) = record {
            then = named;
            grows = sub_same named;
            known = f.0;
            within = f.1;
            goes_on = λ met. (ps, h, rest ∙ e, f.2, λ are. go (within_append named (refers_of xs) (refers_of (externs_in table ps)) met are));
          } in
          subst N first it

    -- no use is left
    instance_ends : (named : List Id) (ps : List Piece) → uses_in ps ≡ [] → Follow table named ps → RefersTo named (externs_in table ps)
    instance_ends named [] is f = tt
    instance_ends named (single x ∷ ps) is f = (f.1, instance_ends (named ++ x.names) ps is f.2)
    instance_ends named (whole m ∷ ps) is f = absurd (let z : Instance m ∷ uses_in ps ≡ [] = is in cc)
    instance_ends named (equal m ns ∷ ps) is f = absurd (let z : Equal m ∷ uses_in ps ≡ [] = is in cc)

    equal_ends : (named : List Id) (ps : List Piece) → uses_in ps ≡ [] → Rest table named ps → Within named (refers_of (externs_in table ps))
    equal_ends named [] is f = tt
    equal_ends named (single x ∷ ps) is f = within_append named x.refers (refers_of (externs_in table ps)) f.1 (equal_ends named ps is f.2)
    equal_ends named (whole m ∷ ps) is f = absurd (let z : Instance m ∷ uses_in ps ≡ [] = is in cc)
    equal_ends named (equal m ns ∷ ps) is f = absurd (let z : Equal m ∷ uses_in ps ≡ [] = is in cc)

    -- What a use refers to is named, and the uses around it are pending.
    pub record Ended (u : Use) (us : List (Use × ℕ)) (named : List Id) : Type 0 where
      pub then : List Id
      pub grows : Sub named then
      pub known : number_of u < length table
      pub within : Within then (refers_of (externs_of table (number_of u)))
      pub pending : Pending us then

    pub next_use : (u v : Use) (done : ℕ) (us : List (Use × ℕ)) (named : List Id) → slice_get (uses_of all (number_of u)) done ≡ Some v
        → Pending ((u, done) ∷ us) named → Next u (use_in u v) (done + 1) us named
    next_use (Instance n) v done us named at p = grind (arith, instance_next, drop_at)
    next_use (Equal n) v done us named at p = grind (arith, equal_next, drop_at)

    pub use_ended : (u : Use) (done : ℕ) (us : List (Use × ℕ)) (named : List Id) → slice_get (uses_of all (number_of u)) done ≡ None
        → Pending ((u, done) ∷ us) named → Ended u us named
    use_ended (Instance n) done us named at p =
        let r = p.4 (instance_ends named p.0 (p.2 ∙ drop_none (uses_of all n) done at) p.3) in
        record {
          then = named ++ names_of (externs_in table p.0);
          grows = sub_left named
              (names_of (externs_in table p.0));
          known = p.1;
          within = r.0;
          pending = r.1;
        }
    use_ended (Equal n) done us named at p =
        let r = p.4 (equal_ends named p.0 (p.2 ∙ drop_none (uses_of all n) done at) p.3) in
        record { then = named; grows = sub_same named; known = p.1; within = r.0; pending = r.1 }

  -- What is settled then.
  pub settled_one : (old new : Exposed) (n : ℕ) (named : List Id) → ((m : ℕ) → is_settled new m ≡ true → (is_settled old m ≡ true) ⊎ (m ≡ n))
      → IsSettled table old named → n < length table → Within named (refers_of (externs_of table n)) → IsSettled table new named
  settled_one old new n named has i h w = λ m is.
      elim (has m is)
      [ inl o ↦ i m o | inr e ↦ subst (λ k. (k < length table) × Within named (refers_of (externs_of table k))) (sym e) (h, w) ]

pub settled_gains : (old new : Exposed) (n : ℕ)
    → ((m : ℕ) → is_in new.named m ≡ true → (is_in old.named m ≡ true) ⊎ (m ≡ n))
    → ((m : ℕ) → is_in new.settled m ≡ true → (is_in old.settled m ≡ true) ⊎ (m ≡ n))
    → (m : ℕ) → is_settled new m ≡ true → (is_settled old m ≡ true) ⊎ (m ≡ n)
settled_gains old new n f g m h = grind (arith, or_cases, or_left, or_right)

-- what is found with an index

abbrev pub with_next : ℕ → Use → Use × ℕ
with_next i u = (u, i + 1)

pub use_found : (o : Option Use) (i : ℕ) (v : Use) (k : ℕ) (p : Use × ℕ) → p ≡ (v, k) → Some p ≡ option_map (with_next i) o → (o ≡ Some v) × (k ≡ i + 1)
use_found None i v k p is e = absurd (let z : Some p ≡ None = e in cc)
use_found (Some u) i v k p is e = grind (arith, is)

pub use_missing : (o : Option Use) (i : ℕ) → None ≡ option_map (with_next i) o → o ≡ None
use_missing None i e = refl
use_missing (Some u) i e = absurd (let z : None ≡ Some (with_next i u) = e in cc)

-- All uses are done.
pub reached : (table : List Surface) (all : List InstanceType) (u : Use) (before : List Id) (s : Exposed) → IsOnTheWay table all u before s []
    → Meets table u (IsSettled table s) before
reached table all u before s on = record {
  met = on.pending.met;
  settled = subst (λ ids. IsSettled table s ids) on.pending.named_is on.settled;
}
