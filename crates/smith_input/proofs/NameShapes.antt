-- Which names in kebab case can be read at a length of at most max, and the choices of each.
use Rattle.std.proofs.Common.{◌≡◌, ℕ, zero, suc, ◌+◌, ◌-◌, ◌<◌, ◌≤◌, ◌^◌, ◌⊎◌, inl, inr, Bool, true, false, nat_eq, nat_le, if◌then◌else◌, List, [], ◌∷◌, ◌++◌}
use Rattle.std.proofs.Common.{length, take, drop, map, refl, sym, ap, ◌∙◌, subst, arith, append_assoc, append-nil, ⊎_elim}
use Rattle.std.proofs.lemmas.Bool.Decides.{nat_tests}
use Rattle.std.proofs.lemmas.Bool.{cases_lt, leb-true, le-leb}
use Rattle.std.proofs.lemmas.List.{length-append, length-map, length-take, take-append-drop, take_all, drop_at}
use Rattle.std.proofs.lemmas.Slice.Eq.{bytes_eq-Decides}
use Rattle.smith_input.specs.Reading.{Reads}
use Rattle.smith_input.specs.Script.{pick, code, script_characters, script_name}
use Rattle.smith_input.specs.Kebab.{IsLetter, IsDigit, AreInWord, IsWord, Kebab, word, hyphen}
use Rattle.smith_input.specs.Names.{character, characters, ReadsEach, none, next, ReadsKebab}
use Rattle.smith_input.specs.NameScript.{last_word_is_a, is_within, script_within}
use Rattle.smith_input.proofs.Digits.{AreDigits}
pub use Rattle.smith_input.proofs.Kebab.{Fits}
use Rattle.smith_input.proofs.Kebab.{Follows, not_hyphen, step_name}
use Rattle.smith_input.proofs.Picks.{pick-byte, reads-pick}

-- a name in kebab case from a place on, where a word must begin or goes on
abbrev pub Goes : Bool → List ℕ → Type 0
Goes true [] = ⊥
Goes false [] = Unit {0}
Goes begins (c ∷ cs) = Fits begins c × Goes (nat_eq c 45) cs

goes_word : (cs ds : List ℕ) → AreInWord cs → Goes false ds → Goes false (cs ++ ds)
goes_word [] ds w g = g
goes_word (c ∷ cs) ds w g = (inl w.0, subst (λ b. Goes b (cs ++ ds)) (sym (not_hyphen c w.0)) (goes_word cs ds w.1 g))

goes_begun : (cs ds : List ℕ) → IsWord cs → Goes false ds → Goes true (cs ++ ds)
goes_begun [] ds w g = absurd w
goes_begun (c ∷ cs) ds w g = (w.0, subst (λ b. Goes b (cs ++ ds)) (sym (not_hyphen c (inl w.0))) (goes_word cs ds w.1 g))

pub kebab_goes : {cs : List ℕ} → Kebab cs → Goes true cs
kebab_goes (word {cs = cs} w) = subst (Goes true) (append-nil cs) (goes_begun cs [] w tt)
kebab_goes (hyphen cs ds w k) = goes_begun cs (45 ∷ ds) w (inr refl, kebab_goes k)

-- each character has a choice that produces it

letter_code : (begins : Bool) (c : ℕ) → IsLetter c → (code c < 37) × (character begins (code c) ≡ c)
letter_code begins c l = (grind (arith, nat_tests), grind (arith, nat_tests))

digit_code : (c : ℕ) → IsDigit c → (code c < 37) × (character false (code c) ≡ c)
digit_code c d = (grind (arith, nat_tests), grind (arith, nat_tests))

pub has_code : (begins : Bool) (c : ℕ) → Fits begins c → (code c < 37) × (character begins (code c) ≡ c)
has_code true c l = letter_code true c l
has_code false c (inl (inl l)) = letter_code false c l
has_code false c (inl (inr d)) = digit_code c d
has_code false c (inr e) = subst (λ k. (code k < 37) × (character false (code k) ≡ k)) (sym e) (omega arith, refl)

-- that many choices produce the whole name: no more characters are left, or an `a` if a word must begin
abbrev Suffices : ℕ → Bool → List ℕ → Type 0
Suffices zero begins cs = cs ≡ characters begins []
Suffices (suc n) begins [] = Unit {0}
Suffices (suc n) begins (c ∷ cs) = Suffices n (nat_eq c 45) cs

spelt : (n : ℕ) (begins : Bool) (cs : List ℕ) → Goes begins cs → Suffices n begins cs → characters begins (map code (take n cs)) ≡ cs
spelt zero begins cs g s = sym s
spelt (suc n) true [] g s = absurd g
spelt (suc n) false [] g s = refl
spelt (suc n) begins (c ∷ cs) g s =
    let same : character begins (code c) ≡ c = (has_code begins c g.0).1 in
    ap (λ k. k ∷ characters (nat_eq k 45) (map code (take n cs))) same ∙ ap (λ ds. c ∷ ds) (spelt n (nat_eq c 45) cs g.1 s)

each_read : (n : ℕ) (begins : Bool) (cs rest : List ℕ) → Goes begins cs → ReadsEach 37 (script_characters (take n cs) ++ rest) (map code (take n cs)) rest
each_read zero begins cs rest g = none
each_read (suc n) begins [] rest g = none
each_read (suc n) begins (c ∷ cs) rest g =
    rw (append_assoc (pick 37 (code c)) (script_characters (take n cs)) rest)
    (next (reads-pick 37 (code c) (script_characters (take n cs) ++ rest) (omega arith) (has_code begins c g.0).0) (each_read n (nat_eq c 45) cs rest g.1))

-- names that are short enough

short_suffices : (n : ℕ) (begins : Bool) (cs : List ℕ) → Goes begins cs → length cs ≤ n → Suffices n begins cs
short_suffices zero true [] g l = absurd g
short_suffices zero false [] g l = refl
short_suffices zero begins (c ∷ cs) g l = absurd (omega (arith, l))
short_suffices (suc n) begins [] g l = tt
short_suffices (suc n) begins (c ∷ cs) g l = short_suffices n (nat_eq c 45) cs g.1 (omega (arith, l))

-- names that end in `-a`, after the character p

a_suffices : (n p : ℕ) (cs front : List ℕ) → p ∷ cs ≡ front ++ 45 ∷ 97 ∷ [] → length front ≡ n → Suffices n (nat_eq p 45) cs
a_suffices zero p cs [] e l =
    let first : p ≡ 45 = cc in let more : cs ≡ 97 ∷ [] = cc in more ∙ ap (λ q. characters (nat_eq q 45) []) (sym first)
a_suffices zero p cs (f ∷ front) e l = absurd (omega (arith, l))
a_suffices (suc n) p cs [] e l = absurd (omega (arith, l))
a_suffices (suc n) p [] (f ∷ front) e l = tt
a_suffices (suc n) p (c ∷ cs) (f ∷ front) e l =
    let more : c ∷ cs ≡ front ++ 45 ∷ 97 ∷ [] = cc in a_suffices n c cs front more (omega (arith, l))

-- last_word_is_a says that there is such a front
a_front : (name : List ℕ) → last_word_is_a name ≡ true → (front : List ℕ) × (45 ∷ name ≡ front ++ 45 ∷ 97 ∷ [])
a_front name e =
    let all = 45 ∷ name in
    let n = length all - 2 in
    let tail : 45 ∷ 97 ∷ [] ≡ drop n all = (bytes_eq-Decides (45 ∷ 97 ∷ []) (drop n all)).0 e in
    (take n all, sym (ap (λ z. take n all ++ z) tail ∙ take-append-drop n all))

front_a : (name front : List ℕ) → 45 ∷ name ≡ front ++ 45 ∷ 97 ∷ [] → last_word_is_a name ≡ true
front_a name front e =
    let all = 45 ∷ name in
    let n = length all - 2 in
    let long : length front ≡ n = omega (arith, ap length e, length-append front (45 ∷ 97 ∷ [])) in
    (bytes_eq-Decides (45 ∷ 97 ∷ []) (drop n all)).1 (sym (ap (drop n) e ∙ drop_at front (45 ∷ 97 ∷ []) n long))

-- a name that is within has enough choices

within_suffices : (max : ℕ) (name : List ℕ) → Goes true name → is_within max name ≡ true → Suffices max true name
within_suffices max name g w =
    ⊎_elim
    (λ (long : max < length name). by_end long (last_word_is_a name) refl w)
    (λ (short : length name ≤ max). short_suffices max true name g short)
    (cases_lt max (length name))
  where
    by_end : max < length name → (b : Bool) → last_word_is_a name ≡ b → nat_le (length name) (if b then max + 1 else max) ≡ true → Suffices max true name
    by_end long true e few =
        let all = a_front name e in
        let most : length name ≤ max + 1 = leb-true (length name) (max + 1) few in
        let many : length all.0 ≡ max = omega (arith, long, most, ap length all.1, length-append all.0 (45 ∷ 97 ∷ [])) in
        a_suffices max 45 name all.0 all.1 many
    by_end long false e few = absurd (omega (arith, long, leb-true (length name) max few))

-- the script of a name that is within
pub within_read : (max : ℕ) (name rest : List ℕ) → max < 2 ^ 64 → Kebab name → is_within max name ≡ true
    → ReadsKebab max (script_within max name ++ rest) name rest
within_read max name rest h k w =
    let g : Goes true name = kebab_goes k in
    let cs = take max name in
    let few : length cs ≤ max = omega (arith, length-take max name) in
    let counted : Reads (max + 1) (pick (max + 1) (length cs) ++ (script_characters cs ++ rest)) (length cs) (script_characters cs ++ rest) =
    reads-pick (max + 1) (length cs) (script_characters cs ++ rest) (omega arith) (omega (arith, few)) in
    record {
      after_count = script_characters cs ++ rest;
      choices = map code cs;
      counted = rw (append_assoc (pick (max + 1) (length cs)) (script_characters cs) rest, length-map cs code) counted;
      chosen = each_read max true name rest g;
      spelt = sym (spelt max true name g (within_suffices max name g w));
    }

-- its length takes one byte, within each greater length too
pub longer_read : (n m : ℕ) (name rest : List ℕ) → 1 ≤ n → n ≤ m → m < 256 → Kebab name → is_within n name ≡ true
    → ReadsKebab m (script_within n name ++ rest) name rest
longer_read n m name rest one more few k w =
    let cs = take n name in
    let tail : List ℕ = script_characters cs ++ rest in
    let short : length cs ≤ n = omega (arith, length-take n name) in
    let same : pick (m + 1) (length cs) ≡ pick (n + 1) (length cs) =
    pick-byte (m + 1) (length cs) (omega (arith, one, more)) (omega (arith, few))
    ∙ sym (pick-byte (n + 1) (length cs) (omega (arith, one)) (omega (arith, more, few))) in
    let counted : Reads (m + 1) (pick (n + 1) (length cs) ++ tail) (length cs) tail =
    subst (λ b. Reads (m + 1) (b ++ tail) (length cs) tail) same
    (reads-pick (m + 1) (length cs) tail (omega (arith, few)) (omega (arith, short, more))) in
    record {
      after_count = tail;
      choices = map code cs;
      counted = rw (append_assoc (pick (n + 1) (length cs)) (script_characters cs) rest, length-map cs code) counted;
      chosen = each_read n true name rest (kebab_goes k);
      spelt = sym (spelt n true name (kebab_goes k) (within_suffices n name (kebab_goes k) w));
    }

-- a name that is short enough is within, and spelled as it is

pub short_within : (max : ℕ) (name : List ℕ) → length name ≤ max → is_within max name ≡ true
short_within max name l = by_end (last_word_is_a name)
  where
    by_end : (b : Bool) → nat_le (length name) (if b then max + 1 else max) ≡ true
    by_end true = le-leb (length name) (max + 1) (omega (arith, l))
    by_end false = le-leb (length name) max l

pub name_read : (max : ℕ) (name rest : List ℕ) → max < 2 ^ 64 → Kebab name → length name ≤ max → ReadsKebab max (script_name max name ++ rest) name rest
name_read max name rest h k l =
    subst
    (λ s. ReadsKebab max (s ++ rest) name rest)
    (ap (script_name max) (take_all max name l))
    (within_read max name rest h k (short_within max name l))

-- What choices produce is as long as they are, or has one more `a` after a hyphen; p is in front.
abbrev Shaped : ℕ → List ℕ → Type 0
Shaped p ks =
    (length (characters (nat_eq p 45) ks) ≡ length ks)
    ⊎ ((front : List ℕ) × (p ∷ characters (nat_eq p 45) ks ≡ front ++ 45 ∷ 97 ∷ []) × (length (characters (nat_eq p 45) ks) ≡ length ks + 1))

is_hyphen : (p : ℕ) → nat_eq p 45 ≡ true → p ≡ 45
is_hyphen p e = grind (arith, nat_tests)

shaped : (p : ℕ) (ks : List ℕ) → Shaped p ks
shaped p [] = by_test (nat_eq p 45) refl
  where
    by_test : (b : Bool) → nat_eq p 45 ≡ b
        → (length (characters b []) ≡ 0) ⊎ ((front : List ℕ) × (p ∷ characters b [] ≡ front ++ 45 ∷ 97 ∷ []) × (length (characters b []) ≡ 1))
    by_test true e = inr ([], ap (λ q. q ∷ 97 ∷ []) (is_hyphen p e), refl)
    by_test false e = inl refl
shaped p (k ∷ ks) =
    elim (shaped (character (nat_eq p 45) k) ks) [
      | inl l ↦ inl (ap suc l)
      | inr (front, e, l) ↦ inr (p ∷ front, ap (λ cs. p ∷ cs) e, omega (arith, l))
    ]

-- a name that is read is within
pub kebab_within : {max : ℕ} {bytes name rest : List ℕ} → ReadsKebab max bytes name rest → is_within max name ≡ true
kebab_within {max} {name = name} r =
    let few : length r.choices ≤ max = omega (arith, r.counted.below) in
    subst (λ cs. is_within max cs ≡ true) (sym r.spelt) (by_shape r.choices few (shaped 45 r.choices))
  where
    by_shape : (ks : List ℕ) → length ks ≤ max → Shaped 45 ks → is_within max (characters true ks) ≡ true
    by_shape ks few (inl l) = short_within max (characters true ks) (omega (arith, l, few))
    by_shape ks few (inr (front, e, l)) =
        let cs = characters true ks in
        subst (λ b. nat_le (length cs) (if b then max + 1 else max) ≡ true) (sym (front_a cs front e)) (le-leb (length cs) (max + 1) (omega (arith, l, few)))

-- a name in kebab case that ends in digits is one without them

goes_less : (begins : Bool) (cs ds : List ℕ) → AreDigits ds → Goes begins (cs ++ ds) → Goes begins cs
goes_less true [] [] d g = g
goes_less true [] (c ∷ ds) d g = absurd (omega (arith, d.0.1, g.0.0))
goes_less false [] ds d g = tt
goes_less begins (c ∷ cs) ds d g = (g.0, goes_less (nat_eq c 45) cs ds d g.1)

pub goes_kebab : (begins : Bool) (cs : List ℕ) → Goes begins cs → Follows begins cs
goes_kebab true [] g = absurd g
goes_kebab false [] g = inl tt
goes_kebab begins (c ∷ cs) g = step_name begins c cs g.0 (goes_kebab (nat_eq c 45) cs g.1)

pub kebab_less : (cs ds : List ℕ) → AreDigits ds → Kebab (cs ++ ds) → Kebab cs
kebab_less cs ds d k = goes_kebab true cs (goes_less true cs ds d (kebab_goes k))
