-- Names: their form, and names after others.
use Rattle.std.proofs.Common.{◌≡◌, ℕ, Bool, true, false, cond, not, ◌&&◌, ◌||◌, List, [], ◌∷◌, ◌++◌, refl, sym, ap, ◌∙◌, bytes_eq, subst, append-nil}
use Rattle.std.proofs.Common.{append_assoc, nat_eq, ◌⊎◌, inl, inr, ⊎_elim, arith, ◌+◌, ◌<◌, ◌≤◌, length, get_or}
use Rattle.std.specs.Borrow.{Bor}
use Rattle.std.specs.BTreeSet.{BTreeSet, Updates, contains}
use Rattle.std.specs.Cmp.Lexicographic.{slice_cmp}
use Rattle.std.specs.List.{IsDistinct}
use Rattle.std.specs.Ordering.{is_eq, nat_cmp, ordering_then}
use Rattle.std.specs.declared.cmp.Ordering.{Ordering}
use Rattle.std.specs.declared.cmp.Ordering.TheVariants.{Equal, Greater, Less}
use Rattle.std.proofs.lemmas.Map.Text.{is_eq-slice_cmp}
use Rattle.std.proofs.lemmas.Bool.Decides.{nat_tests}
use Rattle.std.proofs.Math.ListN.{drop}
use Rattle.std.proofs.lemmas.List.{drop_more}
use Rattle.smith_input.specs.NewNames.{is_among}
use Rattle.smith_input.proofs.NewNames.{among_more}
use Rattle.smith_input.proofs.DistinctNames.{distinct_new, new_back, new_distinct, new_more, none_before}
use Rattle.smith_syntax.specs.WellFormed.{Named}
use Rattle.smith_input.proofs.Rests.{drop_past}
use Rattle.smith_input.specs.Kebab.{IsDigit, IsLetter, Kebab, hyphen, word}
use Rattle.smith_input.proofs.Kebab.{Follows, not_hyphen, begins_word, in_word, at_hyphen, is_hyphen}
use Rattle.smith_input.proofs.NameShapes.{Fits, Goes, kebab_goes, goes_kebab as goes_follows}
use Rattle.smith_check.specs.Taken.{Holds, has_pair}
use Rattle.smith_check.specs.declared.modules.ModuleNames.{ModuleNames}
use Rattle.smith_check.specs.Judges.{Decides}
use Rattle.smith_check.proofs.Judging.{Same, same_by, same_trans}
use Rattle.smith_input.proofs.NameSets.{cond_or}

-- names that are distinct, and one more
pub distinct_push : (before : List (List ℕ)) (n : List ℕ) → is_among before n ≡ false → IsDistinct bytes_eq before → IsDistinct bytes_eq (before ++ n ∷ [])
distinct_push before n new d = new_distinct [] (before ++ n ∷ []) (new_more [] before n (distinct_new [] before (none_before before) d) new)

pub distinct_last : (before : List (List ℕ)) (n : List ℕ) → IsDistinct bytes_eq (before ++ n ∷ []) → is_among before n ≡ false
distinct_last before n d = (new_back [] before (n ∷ []) (distinct_new [] (before ++ n ∷ []) (none_before (before ++ n ∷ [])) d)).0

-- the set with one more name
pub holds_more : (s n : BTreeSet (Bor (List ℕ))) (k : Bor (List ℕ)) (before : List (List ℕ)) → Holds (record { set = s }) before
    → Updates (λ x y. slice_cmp nat_cmp x.now y.now) s n k true → Holds (record { set = n }) (before ++ k.now ∷ [])
holds_more s n k before h u = record {
  has = λ q.
      let had = contains (λ x y. slice_cmp nat_cmp x.now y.now) s q in
      u.0 q ∙ cond_or (is_eq (slice_cmp nat_cmp k.now q.now)) had ∙ ap (λ b. b || had) (is_eq-slice_cmp k.now q.now)
      ∙ ap (λ b. bytes_eq k.now q.now || b) (h.has q) ∙ sym (among_more before k.now q.now);
}

-- it was new, or it was not
pub was_new : (a b : Bool) → a ≡ not b → a ≡ true → b ≡ false
was_new a true e f = let z : false ≡ true = sym e ∙ f in absurd cc
was_new a false e f = refl

pub was_there : (a b : Bool) → a ≡ not b → a ≡ false → b ≡ true
was_there a true e f = refl
was_there a false e f = let z : true ≡ false = sym e ∙ f in absurd cc

is_eq_then : (a b : Ordering) → is_eq (ordering_then a b) ≡ (is_eq a && is_eq b)
is_eq_then Less b = refl
is_eq_then Equal b = refl
is_eq_then Greater b = refl

-- the set of imports with one more
pub pair_more : (s n : ModuleNames) (m k : Bor (List ℕ))
    → Updates (λ x y. ordering_then (slice_cmp nat_cmp x.0.now y.0.now) (slice_cmp nat_cmp x.1.now y.1.now)) s.imports n.imports (m, k) true
    → (p q : Bor (List ℕ)) → has_pair n p q ≡ ((bytes_eq m.now p.now && bytes_eq k.now q.now) || has_pair s p q)
pair_more s n m k u p q =
    u.0 (p, q) ∙ cond_or (is_eq (ordering_then (slice_cmp nat_cmp m.now p.now) (slice_cmp nat_cmp k.now q.now))) (has_pair s p q)
    ∙ ap (λ b. b || has_pair s p q)
    (is_eq_then (slice_cmp nat_cmp m.now p.now) (slice_cmp nat_cmp k.now q.now)
    ∙ ap (λ b. b && is_eq (slice_cmp nat_cmp k.now q.now)) (is_eq-slice_cmp m.now p.now)
    ∙ ap (λ b. bytes_eq m.now p.now && b) (is_eq-slice_cmp k.now q.now))

-- names after others

-- names after one more
pub named_more : (names : List (List ℕ)) (name : List ℕ) (rest : List (List ℕ)) → Named ((names ++ name ∷ []) ++ rest) → Named (names ++ name ∷ rest)
named_more names name rest n = subst Named (append_assoc names (name ∷ []) rest) n

pub named_less : (names : List (List ℕ)) (name : List ℕ) (rest : List (List ℕ)) → Named (names ++ name ∷ rest) → Named ((names ++ name ∷ []) ++ rest)
named_less names name rest n = subst Named (sym (append_assoc names (name ∷ []) rest)) n

pub none_more : (names : List (List ℕ)) → Named names → Named (names ++ [])
none_more names n = subst Named (sym (append-nil names)) n

-- names in kebab case byte by byte

pub kebab_whole : (cs : List ℕ) → Same (Kebab cs) (Goes true cs)
kebab_whole cs = record { to = λ k. kebab_goes k; from = λ g. goes_follows true cs g }

pub fits_there : (b r : Bool) (c : ℕ) → (b ≡ true → Decides r (IsLetter c)) → (b ≡ false → Decides r ((IsLetter c ⊎ IsDigit c) ⊎ (c ≡ 45)))
    → Decides r (Fits b c)
fits_there true r c f g = f refl
fits_there false r c f g = g refl

pub decided : (r : Bool) {P : Type 0} → Decides r P → r ≡ true → P
decided true {P} d e = d
decided false {P} d e = absurd (let z : false ≡ true = e in cc)

pub refused : (r : Bool) {P : Type 0} → Decides r P → r ≡ false → P → ⊥
refused true {P} d e = absurd (let z : true ≡ false = e in cc)
refused false {P} d e = d

pub goes_at : (b : Bool) (c : ℕ) (cs : List ℕ) → Same (Goes b (c ∷ cs)) (Fits b c × Goes (nat_eq c 45) cs)
goes_at true c cs = record { to = λ g. g; from = λ g. g }
goes_at false c cs = record { to = λ g. g; from = λ g. g }

-- at the end of a name
pub goes_end : (b : Bool) → Decides (not b) (Goes b [])
goes_end true = λ g. g
goes_end false = tt

pub kebab_at : (name bs : List ℕ) (i : ℕ) (b : Bool) → bs ≡ name → i < length bs
    → Same (Goes b (drop i name)) (Fits b (get_or bs i 0) × Goes (nat_eq (get_or bs i 0) 45) (drop (i + 1) name))
kebab_at name bs i b e h =
    subst (λ (ns : List ℕ). Same (Goes b (drop i ns)) (Fits b (get_or bs i 0) × Goes (nat_eq (get_or bs i 0) 45) (drop (i + 1) ns))) e
    (same_trans (same_by (Goes b) (drop i bs) (get_or bs i 0 ∷ drop (i + 1) bs) (drop_more bs i 0 h)) (goes_at b (get_or bs i 0) (drop (i + 1) bs)))

pub kebab_done : (name bs : List ℕ) (i : ℕ) (b : Bool) → bs ≡ name → length bs ≤ i → Same (Kebab name) (Goes b (drop i name)) → Decides (not b) (Kebab name)
kebab_done name bs i b e h s =
    let past : length name ≤ i = omega (arith, ap (λ (ns : List ℕ). length ns) e, h) in
    by_both (not b) (subst (λ (cs : List ℕ). Same (Kebab name) (Goes b cs)) (drop_past name i past) s)
    (goes_end b)
  where
    by_both : (r : Bool) → Same (Kebab name) (Goes b []) → Decides r (Goes b []) → Decides r (Kebab name)
    by_both true t d = t.from d
    by_both false t d = λ k. d (t.to k)
