-- Names that are made from a text that can be read: the text before their digits, and their scripts.
use Rattle.std.proofs.Common.{◌≡◌, ℕ, zero, suc, ◌+◌, ◌-◌, ◌<◌, ◌≤◌, ◌^◌, Bool, true, false, if◌then◌else◌, List, ◌++◌, length}
use Rattle.std.proofs.Common.{take, refl, sym, ap, ◌∙◌, subst, arith}
use Rattle.std.specs.Fmt.{decimal}
use Rattle.std.specs.Str.{IsAscii, IsUtf8}
use Rattle.std.proofs.lemmas.List.{length-append, length-take, take_all, take_at}
use Rattle.std.proofs.lemmas.Str.{IsUtf8-append, IsUtf8-from_ascii, IsUtf8-take, IsCharBoundary-at_seam}
use Rattle.smith_input.specs.Kebab.{Kebab}
use Rattle.smith_input.specs.Names.{ReadsNew}
use Rattle.smith_input.specs.NewNames.{appended, IsMadeNew, is_among}
use Rattle.smith_input.specs.NameScript.{is_within, is_short, IsMadeOf, IsReachable, IsReachableText, first_readable, stem_of}
use Rattle.smith_input.specs.Texts.{ReadsNewText, ReadsText}
use Rattle.smith_input.specs.NameScript.{script_within, script_new, script_new_text}
use Rattle.smith_input.specs.Script.{script_name, script_text}
use Rattle.smith_input.proofs.Digits.{are_digits, digits_ascii, some_digits}
use Rattle.smith_input.proofs.NameShapes.{kebab_less, longer_read, kebab_within, short_within, within_read}
use Rattle.smith_input.proofs.ReadsTexts.{text_read}
use Rattle.std.proofs.lemmas.Bool.{leb-true, le-leb}

-- Texts with digits after them.

appended_more : (text ds : List ℕ) (n m : ℕ) → appended (appended text ds n) ds m ≡ appended text ds (n + m)
appended_more text ds n zero = let e : n ≡ n + 0 = omega arith in ap (appended text ds) e
appended_more text ds n (suc m) =
    let e : suc (n + m) ≡ n + suc m = omega arith in
    ap (λ z. z ++ ds) (appended_more text ds n m) ∙ ap (appended text ds) e

-- what holds of a text with digits, and of each without them, holds of the text alone
kept_less : (P : List ℕ → Type 0) (text ds : List ℕ) → ((front : List ℕ) → P (front ++ ds) → P front) → (n : ℕ) → P (appended text ds n) → P text
kept_less P text ds less zero p = p
kept_less P text ds less (suc n) p = kept_less P text ds less n (less (appended text ds n) p)

kept_more : (P : List ℕ → Type 0) (text ds : List ℕ) → ((front : List ℕ) → P front → P (front ++ ds)) → (n : ℕ) → P text → P (appended text ds n)
kept_more P text ds more zero p = p
kept_more P text ds more (suc n) p = more (appended text ds n) (kept_more P text ds more n p)

times_few : (text ds : List ℕ) → 0 < length ds → (n : ℕ) → n ≤ length (appended text ds n)
times_few text ds some zero = omega arith
times_few text ds some (suc n) = omega (arith, some, times_few text ds some n, length-append (appended text ds n) ds)

-- The first text that can be read: a nearer one has all its stages among the stages of one further off.
module _ (can_read : List ℕ → Bool) where
  -- it is found after no more digits than any other
  record Found (text ds : List ℕ) (fuel times : ℕ) : Type 0 where
    n : ℕ
    few : n ≤ times
    is : first_readable can_read (length ds) fuel (appended text ds times) ≡ appended text ds n
    reads : can_read (appended text ds n) ≡ true

  here : (text ds : List ℕ) (fuel times : ℕ) → can_read (appended text ds times) ≡ true → Found text ds (suc fuel) times
  here text ds fuel times c =
      let all = appended text ds times in
      record {
        n = times;
        few = omega arith;
        is = ap (λ b. if b then all else first_readable can_read (length ds) fuel (take (length all - length ds) all)) c;
        reads = c;
      }

  later : (text ds : List ℕ) (fuel times : ℕ) → can_read (appended text ds (suc times)) ≡ false → Found text ds fuel times
      → Found text ds (suc fuel) (suc times)
  later text ds fuel times c f =
      let all = appended text ds times in
      let n = length (all ++ ds) - length ds in
      let cut : take n (all ++ ds) ≡ all = take_at all ds n (omega (arith, length-append all ds)) in
      record {
        n = f.n;
        few = omega (arith, f.few);
        is =
            ap (λ b. if b then all ++ ds else first_readable can_read (length ds) fuel (take n (all ++ ds))) c
            ∙ (ap (first_readable can_read (length ds) fuel) cut ∙ f.is);
        reads = f.reads;
      }

  found : (text ds : List ℕ) (fuel times : ℕ) → times ≤ fuel → can_read text ≡ true → Found text ds fuel times
  found text ds zero zero l c = record { n = 0; few = omega arith; is = refl; reads = c }
  found text ds zero (suc times) l c = absurd (omega (arith, l))
  found text ds (suc fuel) zero l c = here text ds fuel zero c
  found text ds (suc fuel) (suc times) l c = by_test (can_read (appended text ds (suc times))) refl (found text ds fuel times (omega (arith, l)) c)
    where
      by_test : (b : Bool) → can_read (appended text ds (suc times)) ≡ b → Found text ds fuel times → Found text ds (suc fuel) (suc times)
      by_test true e f = here text ds fuel (suc times) e
      by_test false e f = later text ds fuel times e f

  -- the text from which a name is made, for its script
  pub made_of : (names : List (List ℕ)) (name : List ℕ) → IsMadeOf can_read names name
      → (can_read (stem_of can_read (length names) name) ≡ true) × IsMadeNew names (stem_of can_read (length names) name) name
  made_of names name (text, c, u) =
      let ds = decimal (length names) in
      let few : u.times ≤ length name = omega (arith, ap length u.name_is, times_few text ds (some_digits (length names)) u.times) in
      let f = found text ds (length name) u.times few c in
      let is : stem_of can_read (length names) name ≡ appended text ds f.n = ap (first_readable can_read (length ds) (length name)) u.name_is ∙ f.is in
      let more : f.n + (u.times - f.n) ≡ u.times = omega (arith, f.few) in
      let made : IsMadeNew names (appended text ds f.n) name = record {
        times = u.times - f.n;
        name_is = u.name_is ∙ (ap (appended text ds) (sym more) ∙ sym (appended_more text ds f.n (u.times - f.n)));
        taken = λ k b. ap (is_among names) (appended_more text ds f.n k) ∙ u.taken (f.n + k) (omega (arith, b, f.few));
        is_new = u.is_new;
      } in
      (ap can_read is ∙ f.reads, subst (λ t. IsMadeNew names t name) (sym is) made)

-- A text that can be read is the one that its script is of.
pub stem_is_read : (can_read : List ℕ → Bool) (count : ℕ) (name : List ℕ) → can_read name ≡ true → stem_of can_read count name ≡ name
stem_is_read can_read count name c = by_fuel (length (decimal count)) (length name)
  where
    by_fuel : (n fuel : ℕ) → first_readable can_read n fuel name ≡ name
    by_fuel n zero = refl
    by_fuel n (suc fuel) = ap (λ b. if b then name else first_readable can_read n fuel (take (length name - n) name)) c

pub short_script : (max count : ℕ) (name : List ℕ) → length name ≤ max → script_new max count name ≡ script_name max name
short_script max count name l =
    ap (script_within max) (stem_is_read (is_within max) count name (short_within max name l)) ∙ ap (script_name max) (take_all max name l)

pub short_text_script : (max count : ℕ) (name : List ℕ) → length name ≤ max → script_new_text max count name ≡ script_text max name
short_text_script max count name l = ap (script_text max) (stem_is_read (is_short max) count name (le-leb (length name) max l))

-- Names in kebab case.

pub made_kebab_less : (names : List (List ℕ)) {text name : List ℕ} → IsMadeNew names text name → Kebab name → Kebab text
made_kebab_less names {text} u k =
    let ds = decimal (length names) in
    kept_less Kebab text ds (λ front. kebab_less front ds (are_digits (length names))) u.times (subst Kebab u.name_is k)

pub new_script_read : (max : ℕ) (names : List (List ℕ)) (name rest : List ℕ) → max < 2 ^ 64 → Kebab name → IsReachable max names name
    → ReadsNew max names (script_new max (length names) name ++ rest) name rest
new_script_read max names name rest h k made =
    let text = stem_of (is_within max) (length names) name in
    let m = made_of (is_within max) names name made in
    record { text = text; reads = within_read max text rest h (made_kebab_less names m.1 k) m.0; unique = m.1 }

pub longer_new : (n m : ℕ) (names : List (List ℕ)) (name rest : List ℕ) → 1 ≤ n → n ≤ m → m < 256 → Kebab name → IsReachable n names name
    → ReadsNew m names (script_new n (length names) name ++ rest) name rest
longer_new n m names name rest one more few k made =
    let text = stem_of (is_within n) (length names) name in
    let r = made_of (is_within n) names name made in
    record { text = text; reads = longer_read n m text rest one more few (made_kebab_less names r.1 k) r.0; unique = r.1 }

pub new_reachable : {max : ℕ} {names : List (List ℕ)} {bytes name rest : List ℕ} → ReadsNew max names bytes name rest → IsReachable max names name
new_reachable r = (r.text, kebab_within r.reads, r.unique)

-- Texts.

utf8_less : (front ds : List ℕ) → IsAscii ds → IsUtf8 (front ++ ds) → IsUtf8 front
utf8_less front ds a u =
    let cut = IsCharBoundary-at_seam (front ++ ds) front ds refl (IsUtf8-from_ascii ds a) in
    subst IsUtf8 (take_at front ds (length front) refl) (IsUtf8-take (front ++ ds) (length front) u cut)

pub made_utf8_less : (names : List (List ℕ)) {text name : List ℕ} → IsMadeNew names text name → IsUtf8 name → IsUtf8 text
made_utf8_less names {text} u k =
    let ds = decimal (length names) in
    let a : IsAscii ds = digits_ascii ds (are_digits (length names)) in
    kept_less IsUtf8 text ds (λ front. utf8_less front ds a) u.times (subst IsUtf8 u.name_is k)

pub made_utf8_more : (names : List (List ℕ)) {text name : List ℕ} → IsMadeNew names text name → IsUtf8 text → IsUtf8 name
made_utf8_more names {text} u k =
    let ds = decimal (length names) in
    let a : IsAscii ds = digits_ascii ds (are_digits (length names)) in
    subst IsUtf8 (sym u.name_is) (kept_more IsUtf8 text ds (λ front f. IsUtf8-append front ds f (IsUtf8-from_ascii ds a)) u.times k)

pub new_text_read : (max : ℕ) (names : List (List ℕ)) (name rest : List ℕ) → max < 2 ^ 64 → IsUtf8 name → IsReachableText max names name
    → ReadsNewText max names (script_new_text max (length names) name ++ rest) name rest
new_text_read max names name rest h k made =
    let text = stem_of (is_short max) (length names) name in
    let m = made_of (is_short max) names name made in
    record { text = text; reads = text_read max text rest h (made_utf8_less names m.1 k) (leb-true (length text) max m.0); unique = m.1 }

-- a text that is read is short
pub text_short : {max : ℕ} {bytes text rest : List ℕ} → ReadsText max bytes text rest → is_short max text ≡ true
text_short {max} {text = text} r =
    let front = take r.count r.after_count in
    le-leb (length text) max
    (omega (arith, r.counted.below, ap length r.longest.front, length-take (length text) front, length-take r.count r.after_count))

pub new_text_utf8 : {max : ℕ} {names : List (List ℕ)} {bytes name rest : List ℕ} → ReadsNewText max names bytes name rest → IsUtf8 name
new_text_utf8 {names = names} r = made_utf8_more names r.unique r.reads.longest.utf8

pub new_text_reachable : {max : ℕ} {names : List (List ℕ)} {bytes name rest : List ℕ} → ReadsNewText max names bytes name rest → IsReachableText max names name
new_text_reachable r = (r.text, text_short r.reads, r.unique)
