-- The scripts of choices, loops, bytes, texts and names are bytes.
use Rattle.std.proofs.Common.{◌≡◌, ℕ, zero, suc, ◌+◌, ◌-◌, ◌/◌, ◌%◌, ◌<◌, ◌≤◌, ◌^◌, Bool, true, false, nat_eq, nat_le, nat_lt, if◌then◌else◌, List, [], ◌∷◌}
use Rattle.std.proofs.Common.{◌++◌, length, take, ap, refl, sym, subst, arith, Decides, Some, IsUtf8}
use Rattle.std.proofs.Math.Nat.{pow-suc}
use Rattle.std.proofs.lemmas.Bool.Decides.{nat_tests}
use Rattle.std.proofs.lemmas.List.{length-take}
use Rattle.std.proofs.lemmas.Nat.{div_below, mod_below}
use Rattle.std.proofs.lemmas.Option.{slice_get_within}
use Rattle.std.specs.Fmt.{decimal}
use Rattle.std.specs.List.{AllByRecursion}
use Rattle.std.specs.Prelude.{slice_get}
use Rattle.smith_input.specs.Kebab.{Kebab}
use Rattle.smith_input.specs.Loops.{Along}
use Rattle.smith_input.specs.NameScript.{first_readable, is_short, is_within, script_new, script_new_text, script_within, stem_of, IsReachableText}
use Rattle.smith_input.specs.Script.{AreBytes, big_endian, code, pick, rank_of, script_among, script_bytes, script_characters, script_end, script_loop}
use Rattle.smith_input.specs.Script.{script_more, script_name, script_text, width_within}
use Rattle.smith_input.proofs.Choices.{rank_found}
use Rattle.smith_input.proofs.NameScript.{made_of}
use Rattle.smith_input.proofs.NameShapes.{Goes, has_code, kebab_goes}
use Rattle.smith_input.proofs.Picks.{pick-byte, powers_positive, width_within-is}
use Rattle.smith_input.proofs.Utf8Bytes.{joined_bytes, utf8_bytes}
use Rattle.std.proofs.lemmas.Bool.{leb-true}

-- that these numbers are bytes, as a fact by itself
pub record Small (bs : List ℕ) : Type 0 where
  pub are : AreBytes bs

pub small_none : Small []
small_none = record { are = tt }

pub small_more : (x : ℕ) {xs : List ℕ} → x < 256 → Small xs → Small (x ∷ xs)
small_more x h s = record { are = (h, s.are) }

pub small_join : {a b : List ℕ} → Small a → Small b → Small (a ++ b)
small_join {a = a} {b = b} f g = record { are = joined_bytes a b f.are g.are }

pub small_if : (x : Bool) {a b : List ℕ} → Small a → Small b → Small (if x then a else b)
small_if true f g = f
small_if false f g = g

-- Choices.

small_big_endian : (w k : ℕ) → k < 256 ^ w → Small (big_endian w k)
small_big_endian zero k h = small_none
small_big_endian (suc w) k h =
    let some : 0 < 256 ^ w = powers_positive w in
    small_more (k / 256 ^ w) (div_below k (256 ^ w) 256 some (omega (arith, pow-suc 256 w))) (small_big_endian w (k % 256 ^ w) (mod_below k (256 ^ w) some))

-- a choice of one that is there
pub small_pick : (n k : ℕ) → n ≤ 2 ^ 64 → k < n → Small (pick n k)
unfolding pick
small_pick n k few below =
    let w = width_within-is 8 n (omega arith) in
    small_big_endian (width_within 8 n) k (omega (arith, w.enough))

-- A choice among few is no more than a byte, whether it is of one that is there or not.
pub small_byte : (n k : ℕ) → n ≤ 256 → k < 256 → Small (pick n k)
unfolding pick
small_byte n k few below = by_test (nat_le n 1) refl
  where
    by_test : (b : Bool) → nat_le n 1 ≡ b → Small (pick n k)
    by_test true e = subst Small (sym (ap (λ b. big_endian (if b then 0 else suc (width_within 7 ((n + 255) / 256))) k) e)) small_none
    by_test false e = let some : 2 ≤ n = grind (arith, nat_tests) in subst Small (sym (pick-byte n k some few)) (small_more k below small_none)

module _ {A : Type 0} (eq : A → A → Bool) where
  rank_most : (xs : List A) (x : A) → rank_of eq xs x ≤ length xs
  rank_most [] x = omega arith
  rank_most (y ∷ ys) x = by_test (eq y x) (rank_most ys x)
    where
      by_test : (b : Bool) → rank_of eq ys x ≤ length ys → (if b then zero else suc (rank_of eq ys x)) ≤ suc (length ys)
      by_test true h = omega arith
      by_test false h = omega arith

  pub small_few : (xs : List A) (x : A) → length xs ≤ 255 → Small (script_among eq xs x)
  small_few xs x few = small_byte (length xs) (rank_of eq xs x) (omega (arith, few)) (omega (arith, few, rank_most xs x))

  -- a choice of an item that is among these
  pub small_found : ((a b : A) → Decides (eq a b) (a ≡ b)) → (xs : List A) (k : ℕ) (x : A) → length xs ≤ 2 ^ 64 → slice_get xs k ≡ Some x
      → Small (script_among eq xs x)
  small_found decides xs k x few stands =
      small_pick (length xs) (rank_of eq xs x) few (slice_get_within xs (rank_of eq xs x) x (rank_found eq decides xs x k stands))

-- Loops.

pub small_end : (done max : ℕ) → Small (script_end done max)
small_end done max = small_if (nat_lt done max) (small_more 0 (omega arith) small_none) small_none

pub small_asked : (min done : ℕ) → Small (script_more min done)
small_asked min done = small_if (nat_lt done min) small_none (small_more 1 (omega arith) small_none)

pub small_loop : {S A : Type 0} (script : S → A → List ℕ) (next : S → A → S) (min max done : ℕ) (s : S) (xs : List A)
    → Along (λ s x. Small (script s x)) next s xs → Small (script_loop script next min max done s xs)
small_loop script next min max done s [] all = small_end done max
small_loop script next min max done s (x ∷ xs) all =
    small_join (small_join (small_asked min done) all.0) (small_loop script next min max (done + 1) (next s x) xs all.1)

-- if the state does not matter
pub small_turns : {S A : Type 0} (script : S → A → List ℕ) (next : S → A → S) (min max done : ℕ) (s : S) (xs : List A)
    → AllByRecursion (λ x. (t : S) → Small (script t x)) xs → Small (script_loop script next min max done s xs)
small_turns script next min max done s [] all = small_end done max
small_turns script next min max done s (x ∷ xs) all =
    small_join (small_join (small_asked min done) (all.0 s)) (small_turns script next min max (done + 1) (next s x) xs all.1)

-- Bytes and texts.

pub small_bytes : (xs : List ℕ) → AreBytes xs → Small (script_bytes xs)
small_bytes [] all = small_more 0 (omega arith) small_none
small_bytes (x ∷ xs) all = small_more 1 (omega arith) (small_more x all.0 (small_bytes xs all.1))

short_text : (max : ℕ) (t : List ℕ) → max < 2 ^ 64 → AreBytes t → length t ≤ max → Small (script_text max t)
short_text max t h all short = small_join (small_pick (max + 1) (length t) (omega arith) (omega (arith, short))) (record { are = all })

pub small_text : (max : ℕ) (t : List ℕ) → max < 2 ^ 64 → IsUtf8 t → length t ≤ max → Small (script_text max t)
small_text max t h utf8 short = short_text max t h (utf8_bytes t utf8) short

-- Names.

-- What holds of each character of a name holds of each of its text.
module _ (P : ℕ → Type 0) where
  taken : (n : ℕ) (xs : List ℕ) → AllByRecursion P xs → AllByRecursion P (take n xs)
  taken zero xs all = tt
  taken (suc n) [] all = tt
  taken (suc n) (x ∷ xs) all = (all.0, taken n xs all.1)

  of_first : (can_read : List ℕ → Bool) (digits fuel : ℕ) (name : List ℕ) → AllByRecursion P name → AllByRecursion P (first_readable can_read digits fuel name)
  of_first can_read digits zero name all = all
  of_first can_read digits (suc fuel) name all = by_test (can_read name) (of_first can_read digits fuel shorter (taken (length name - digits) name all))
    where
      shorter : List ℕ
      shorter = take (length name - digits) name

      by_test : (b : Bool) → AllByRecursion P (first_readable can_read digits fuel shorter)
          → AllByRecursion P (if b then name else first_readable can_read digits fuel shorter)
      by_test true later = all
      by_test false later = later

  of_text : (can_read : List ℕ → Bool) (count : ℕ) (name : List ℕ) → AllByRecursion P name → AllByRecursion P (stem_of can_read count name)
  of_text can_read count name all = of_first can_read (length (decimal count)) (length name) name all

abbrev HasCode : ℕ → Type 0
HasCode c = code c < 37

have_codes : (begins : Bool) (cs : List ℕ) → Goes begins cs → AllByRecursion HasCode cs
have_codes begins [] g = tt
have_codes begins (c ∷ cs) g = ((has_code begins c g.0).0, have_codes (nat_eq c 45) cs g.1)

small_characters : (cs : List ℕ) → AllByRecursion HasCode cs → Small (script_characters cs)
small_characters [] all = small_none
small_characters (c ∷ cs) all = small_join (small_pick 37 (code c) (omega arith) all.0) (small_characters cs all.1)

counted : (max : ℕ) (cs : List ℕ) → max < 2 ^ 64 → AllByRecursion HasCode cs → length cs ≤ max → Small (script_name max cs)
counted max cs h all short = small_join (small_pick (max + 1) (length cs) (omega arith) (omega (arith, short))) (small_characters cs all)

pub small_name : (max : ℕ) (name : List ℕ) → max < 2 ^ 64 → Kebab name → length name ≤ max → Small (script_name max name)
small_name max name h k short = counted max name h (have_codes true name (kebab_goes k)) short

pub small_within : (max : ℕ) (name : List ℕ) → max < 2 ^ 64 → Kebab name → Small (script_within max name)
small_within max name h k =
    counted max (take max name) h (taken HasCode max name (have_codes true name (kebab_goes k))) (omega (arith, length-take max name))

pub small_new : (max count : ℕ) (name : List ℕ) → max < 2 ^ 64 → Kebab name → Small (script_new max count name)
small_new max count name h k =
    let text = stem_of (is_within max) count name in
    let all : AllByRecursion HasCode (take max text) =
    taken HasCode max text (of_text HasCode (is_within max) count name (have_codes true name (kebab_goes k))) in
    counted max (take max text) h all (omega (arith, length-take max text))

pub small_new_text : (max : ℕ) (names : List (List ℕ)) (name : List ℕ) → max < 2 ^ 64 → AreBytes name → IsReachableText max names name
    → Small (script_new_text max (length names) name)
small_new_text max names name h all made =
    let text = stem_of (is_short max) (length names) name in
    short_text max text h (of_text (λ b. b < 256) (is_short max) (length names) name all)
    (leb-true (length text) max (made_of (is_short max) names name made).0)
