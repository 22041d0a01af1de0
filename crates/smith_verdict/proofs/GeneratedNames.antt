-- How long names are that are made new: a text of at most 101 bytes, and behind it how many names there were, in decimal digits, perhaps several times.
-- The names with the digits of one number behind them are few, since the names before them ended with the digits of smaller numbers.
use Rattle.std.proofs.Common.{◌≡◌, ◌⊎◌, inl, inr, ℕ, zero, suc, ◌+◌, ◌*◌, ◌/◌, ◌%◌, ◌<◌, ◌≤◌, ◌^◌, Bool, true, false, ◌||◌, if◌then◌else◌, List, [], ◌∷◌, ◌++◌}
use Rattle.std.proofs.Common.{length, bytes_eq, drop, refl, sym, ap, ◌∙◌, subst, arith, append_assoc, append-nil}
use Rattle.std.proofs.Math.Seq.{drop-append_seam}
use Rattle.std.proofs.lemmas.Bool.{cases_lt, leb-true}
use Rattle.std.proofs.lemmas.Fmt.{decimal_digit, decimal_injective, decimal_step, length-decimal-le}
use Rattle.std.proofs.lemmas.List.{length-append}
use Rattle.std.proofs.lemmas.Slice.Eq.{bytes_eq-Decides}
use Rattle.std.specs.Fmt.{decimal}
use Rattle.std.specs.List.{AllByRecursion}
use Rattle.smith_input.specs.NameScript.{AreReachable, IsReachable, IsReachableText, last_word_is_a}
use Rattle.smith_input.specs.NewNames.{IsMadeNew, appended, is_among}
use Rattle.smith_input.proofs.Digits.{some_digits, one_digit, more_digits as digit_more}
use Rattle.smith_input.proofs.Lists.{all_both}

-- A greater number has no fewer digits.

digits_rise_by : (fuel j k : ℕ) → k ≤ fuel → j ≤ k → k < 2 ^ 64 → length (decimal j) ≤ length (decimal k)
digits_rise_by zero j k enough h small = omega (arith, one_digit j (omega (arith, h, enough)), one_digit k (omega (arith, enough)))
digits_rise_by (suc fuel) j k enough h small = elim (cases_lt j 10) [
  | inl low ↦ omega (arith, one_digit j low, some_digits k)
  | inr high ↦
      let less : length (decimal (j / 10)) ≤ length (decimal (k / 10)) =
      digits_rise_by fuel (j / 10) (k / 10) (omega (arith, enough, high, h)) (omega (arith, h)) (omega (arith, small)) in
      omega (arith, less, digit_more j high (omega (arith, h, small)), digit_more k (omega (arith, h, high)) small)
]

digits_rise : (j k : ℕ) → j ≤ k → k < 2 ^ 64 → length (decimal j) ≤ length (decimal k)
digits_rise j k h small = digits_rise_by k j k (omega arith) h small

few_digits : (n : ℕ) → n < 2 ^ 32 → length (decimal n) ≤ 10
few_digits n h = length-decimal-le 10 n (omega arith) (omega (arith, h)) (omega (arith, h))

same_back : (a b x y : List ℕ) → a ++ x ≡ b ++ y → length x ≡ length y → x ≡ y
same_back a b x y e same =
    let fronts : length a ≡ length b = omega (arith, ap length e, same, length-append a x, length-append b y) in
    sym (drop-append_seam a x) ∙ (λ i. drop (fronts i) (e i)) ∙ drop-append_seam b y

-- The name ends with the digits of a number below that many, and is so much longer at most than a short one.
pub record Numbered (many : ℕ) (name : List ℕ) : Type 0 where
  number : ℕ
  before : number < many
  front : List ℕ
  is : name ≡ front ++ decimal number
  within : length name ≤ 101 + 10 * length (decimal number)

-- a name that may be among so many
abbrev pub HasOrigin : ℕ → List ℕ → Type 0
HasOrigin many name = (length name ≤ 101) ⊎ Numbered many name

-- so may each of these, of which there are as many
abbrev pub HaveOrigins : List (List ℕ) → Type 0
HaveOrigins names = AllByRecursion (HasOrigin (length names)) names

-- A short text is made a new name.
abbrev pub IsMadeShort : List (List ℕ) → List ℕ → Type 0
IsMadeShort names name = (text : List ℕ) × (length text ≤ 101) × IsMadeNew names text name

among_holds : (P : List ℕ → Type 0) (names : List (List ℕ)) (q : List ℕ) → is_among names q ≡ true → AllByRecursion P names → P q
among_holds P [] q among all = absurd (cc)
among_holds P (n ∷ ns) q among all = by_test (bytes_eq n q) refl (λ more. among_holds P ns q more all.1)
  where
    by_test : (b : Bool) → bytes_eq n q ≡ b → (is_among ns q ≡ true → P q) → P q
    by_test true e later = subst P ((bytes_eq-Decides n q).0 e) all.0
    by_test false e later = later (ap (λ b. b || is_among ns q) (sym e) ∙ among)

-- What gets the digits of a number behind it ends with the digits of a shorter one, if it was long: numbers of one length are told apart there.
fewer_digits : (many : ℕ) (text : List ℕ) (times : ℕ) → many < 2 ^ 32 → (n : Numbered many (appended text (decimal many) (suc times)))
    → length (decimal n.number) < length (decimal many)
fewer_digits many text times small n = elim (cases_lt (length (decimal n.number)) (length (decimal many))) [
  | inl less ↦ less
  | inr no_less ↦
      let rise : length (decimal n.number) ≤ length (decimal many) = digits_rise n.number many (omega (arith, n.before)) (omega (arith, small)) in
      let same : decimal many ≡ decimal n.number =
      same_back (appended text (decimal many) times) n.front (decimal many) (decimal n.number) n.is (omega (arith, rise, no_less)) in
      let number : many ≡ n.number = decimal_injective many n.number (omega (arith, small)) (omega (arith, small, n.before)) same in
      absurd (omega (arith, number, n.before))
]

grown : (many : ℕ) (text : List ℕ) (times : ℕ) → many < 2 ^ 32 → length text ≤ 101 → HasOrigin many (appended text (decimal many) times)
    → length (appended text (decimal many) times) + length (decimal many) ≤ 101 + 10 * length (decimal many)
grown many text zero small short origin = omega (arith, short, some_digits many)
grown many text (suc times) small short (inl low) = omega (arith, low, some_digits many)
grown many text (suc times) small short (inr n) = omega (arith, n.within, fewer_digits many text times small n, few_digits many small)

origin_next : (names : List (List ℕ)) (name : List ℕ) → length names < 2 ^ 32 → HaveOrigins names → IsMadeShort names name
    → HasOrigin (suc (length names)) name
origin_next names name small all (text, short, made) = by_times made.times made.name_is made.taken
  where
    ds : List ℕ
    ds = decimal (length names)

    by_times : (times : ℕ) → name ≡ appended text ds times → ((n : ℕ) → n < times → is_among names (appended text ds n) ≡ true)
        → HasOrigin (suc (length names)) name
    by_times zero is taken = inl (omega (arith, ap length is, short))
    by_times (suc times) is taken =
        let origin = among_holds (HasOrigin (length names)) names (appended text ds times) (taken times (omega arith)) all in
        inr (record {
          number = length names;
          before = omega arith;
          front = appended text ds times;
          is = is;
          within = omega (arith, ap length is, length-append (appended text ds times) ds, grown (length names) text times small short origin);
        })

origins_later : (many : ℕ) (names : List (List ℕ)) → AllByRecursion (HasOrigin many) names → AllByRecursion (HasOrigin (suc many)) names
origins_later many [] all = tt
origins_later many (n ∷ ns) all = (later all.0, origins_later many ns all.1)
  where
    later : HasOrigin many n → HasOrigin (suc many) n
    later (inl low) = inl low
    later (inr c) = inr (record { number = c.number; before = omega (arith, c.before); front = c.front; is = c.is; within = c.within })

origin_short : (many : ℕ) (name : List ℕ) → many ≤ 2 ^ 32 → HasOrigin many name → length name ≤ 1000
origin_short many name small (inl low) = omega (arith, low)
origin_short many name small (inr c) = omega (arith, c.within, few_digits c.number (omega (arith, small, c.before)))

-- Names that may be made new one after another, of which there are at most that many.
pub record AreMade (most : ℕ) (names : List (List ℕ)) : Type 0 where
  origins : HaveOrigins names
  few : length names ≤ most

pub none_made : AreMade 0 []
none_made = record { origins = tt; few = omega arith }

pub made_among : {m n : ℕ} {names : List (List ℕ)} → m ≤ n → AreMade m names → AreMade n names
made_among h made = record { origins = made.origins; few = omega (arith, h, made.few) }

-- and none behind them
pub none_more : {m n : ℕ} (names : List (List ℕ)) → m ≤ n → AreMade m names → AreMade n (names ++ [])
none_more {m} {n} names h made = made_among h (subst (AreMade m) (sym (append-nil names)) made)

-- a name that is made new, and all names after it is
pub one_made : (most : ℕ) (names : List (List ℕ)) (name : List ℕ) → most < 2 ^ 32 → AreMade most names → IsMadeShort names name
    → (length name ≤ 1000) × AreMade (suc most) (names ++ name ∷ [])
one_made most names name small all made =
    let few : length names < 2 ^ 32 = omega (arith, small, all.few) in
    let next = origin_next names name few all.origins made in
    let count : suc (length names) ≡ length (names ++ name ∷ []) = omega (arith, length-append names (name ∷ [])) in (
      origin_short (suc (length names)) name (omega (arith, few)) next,
      record {
        origins =
            subst (λ many. AllByRecursion (HasOrigin many) (names ++ name ∷ [])) count
            (all_both (HasOrigin (suc (length names))) names (name ∷ []) (origins_later (length names) names all.origins) (next, tt));
        few = omega (arith, count, all.few);
      },
    )

-- Names in kebab case, and texts.

pub short_read : (max : ℕ) → max ≤ 100 → (names : List (List ℕ)) (name : List ℕ) → IsReachable max names name → IsMadeShort names name
short_read max few names name (text, read, made) = (text, within (last_word_is_a text) (leb-true (length text) _ read), made)
  where
    within : (b : Bool) → length text ≤ (if b then max + 1 else max) → length text ≤ 101
    within true h = omega (arith, h, few)
    within false h = omega (arith, h, few)

pub short_text_read : (max : ℕ) → max ≤ 100 → (names : List (List ℕ)) (name : List ℕ) → IsReachableText max names name → IsMadeShort names name
short_text_read max few names name (text, read, made) = (text, omega (arith, leb-true (length text) max read, few), made)

-- names after those before them
pub all_made : (max : ℕ) → max ≤ 100 → (most : ℕ) (before ns : List (List ℕ)) → most + length ns ≤ 2 ^ 32 → AreMade most before → AreReachable max before ns
    → AllByRecursion (λ n. length n ≤ 1000) ns × AreMade (most + length ns) (before ++ ns)
all_made max short most before [] few all read = (tt, none_more before (omega arith) all)
all_made max short most before (n ∷ ns) few all read =
    let one = one_made most before n (omega (arith, few)) all (short_read max short before n read.0) in
    let more = all_made max short (suc most) (before ++ n ∷ []) ns (omega (arith, few)) one.1 read.1 in
    ((one.0, more.0), made_among (omega arith) (subst (AreMade (suc most + length ns)) (append_assoc before (n ∷ []) ns) more.1))
