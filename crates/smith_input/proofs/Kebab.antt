-- Names in kebab case that are read, and that are made unique.
use Rattle.std.proofs.Common.{◌≡◌, nat_eq, ℕ, zero, suc, ◌+◌, ◌-◌, ◌<◌, ◌≤◌, ◌⊎◌, Bool, true, false, List, [], ◌∷◌, ◌++◌, length, refl, sym, ap, subst}
use Rattle.std.proofs.Common.{◌∙◌, arith, cond, get_or, inl, inr, ⊎_elim, append_assoc}
use Rattle.std.proofs.lemmas.Bool.Decides.{nat_tests}
use Rattle.std.proofs.lemmas.Bool.{cases_lt, eqb-true}
use Rattle.std.specs.Fmt.{decimal}
use Rattle.std.specs.Str.{IsAscii}
use Rattle.std.proofs.lemmas.Str.{IsAscii-append}
use Rattle.smith_input.specs.Reading.{Reads, IsTail}
use Rattle.smith_input.specs.Kebab.{IsLetter, IsDigit, AreInWord, IsWord, Kebab, word, hyphen}
use Rattle.smith_input.specs.Names.{character, characters, ReadsEach, none, next, ReadsKebab}
use Rattle.smith_input.specs.NewNames.{appended, IsMadeUnique}
use Rattle.smith_input.proofs.Digits.{are_digits, digits_in_word}
use Rattle.smith_input.proofs.Reading.{tail_same, tail_trans, reads_tail, reads_unique}

-- a character where a word must begin, or goes on
abbrev pub Fits : Bool → ℕ → Type 0
Fits true c = IsLetter c
Fits false c = (IsLetter c ⊎ IsDigit c) ⊎ (c ≡ 45)

-- what may follow a prefix of a name, where a word must begin or goes on
abbrev pub Follows : Bool → List ℕ → Type 0
Follows true cs = Kebab cs
Follows false cs = AreInWord cs ⊎ ((ds : List ℕ) × (es : List ℕ) × (cs ≡ ds ++ 45 ∷ es) × AreInWord ds × Kebab es)

pub begins_word : (c : ℕ) (cs : List ℕ) → IsLetter c → Follows false cs → Follows true (c ∷ cs)
begins_word c cs l (inl w) = word (l, w)
begins_word c cs l (inr s) = rw s.2 (hyphen (c ∷ s.0) s.1 (l, s.3) s.4)

pub in_word : (c : ℕ) (cs : List ℕ) → (IsLetter c ⊎ IsDigit c) → Follows false cs → Follows false (c ∷ cs)
in_word c cs l (inl w) = inl (l, w)
in_word c cs l (inr s) = inr (c ∷ s.0, s.1, ap (λ k. c ∷ k) s.2, (l, s.3), s.4)

pub at_hyphen : (cs : List ℕ) → Follows true cs → Follows false (45 ∷ cs)
at_hyphen cs k = inr ([], cs, refl, tt, k)

pub not_hyphen : (c : ℕ) → (IsLetter c ⊎ IsDigit c) → nat_eq c 45 ≡ false
not_hyphen c l = ⊎_elim (λ (a : IsLetter c). grind (arith, nat_tests)) (λ (d : IsDigit c). grind (arith, nat_tests)) l

pub is_hyphen : (c : ℕ) → c ≡ 45 → nat_eq c 45 ≡ true
is_hyphen c h = grind (arith, nat_tests)

-- one character in front
pub step_name : (begins : Bool) (c : ℕ) (cs : List ℕ) → Fits begins c → Follows (nat_eq c 45) cs → Follows begins (c ∷ cs)
step_name true c cs l f = begins_word c cs l (subst (λ b. Follows b cs) (not_hyphen c (inl l)) f)
step_name false c cs (inl w) f = in_word c cs w (subst (λ b. Follows b cs) (not_hyphen c w) f)
step_name false c cs (inr h) f = subst (λ k. Follows false (k ∷ cs)) (sym h) (at_hyphen cs (subst (λ b. Follows b cs) (is_hyphen c h) f))

letter_is : (begins : Bool) (k : ℕ) → k < 26 → character begins k ≡ 97 + k
letter_is begins k h = grind (arith, nat_tests)

digit_is : (k : ℕ) → 26 ≤ k → k < 36 → character false k ≡ 48 + (k - 26)
digit_is k g h = grind (arith, nat_tests)

hyphen_is : (k : ℕ) → 36 ≤ k → character false k ≡ 45
hyphen_is k h = grind (arith, nat_tests)

begun_is_letter : (k : ℕ) → k < 37 → IsLetter (character true k)
begun_is_letter k h = (grind (arith, nat_tests), grind (arith, nat_tests))

inside_is : (k : ℕ) → k < 37 → (IsLetter (character false k) ⊎ IsDigit (character false k)) ⊎ (character false k ≡ 45)
inside_is k h =
    ⊎_elim
    (λ (lt : k < 26). let e = letter_is false k lt in inl (inl (omega (arith, e), omega (arith, e))))
    (λ (ge : 26 ≤ k).
    ⊎_elim
    (λ (lt : k < 36). let e = digit_is k ge lt in inl (inr (omega (arith, e), omega (arith, e))))
    (λ (above : 36 ≤ k). inr (hyphen_is k above))
    (cases_lt k 36))
    (cases_lt k 26)

-- an ASCII character after others
pub ascii_one : (b : ℕ) → b < 128 → IsAscii (b ∷ [])
ascii_one b h zero = h
ascii_one b h (suc i) = omega arith

pub character_small : (begins : Bool) (k : ℕ) → k < 37 → character begins k < 128
character_small true k h = let l = begun_is_letter k h in omega (arith, l.1)
character_small false k h = elim (inside_is k h) [
  | inl w ↦ elim w [ inl l ↦ omega (arith, l.1) | inr d ↦ omega (arith, d.1) ]
  | inr e ↦ omega (arith, e)
]

pub ascii_pushed : (name pushed : List ℕ) (c : ℕ) → c < 128 → IsAscii name → pushed ≡ name ++ c ∷ [] → IsAscii pushed
ascii_pushed name pushed c h a p = rw p (IsAscii-append name (c ∷ []) a (ascii_one c h))

characters_follow : (begins : Bool) {bytes ks rest : List ℕ} → ReadsEach 37 bytes ks rest → Follows begins (characters begins ks)
characters_follow true none = word {cs = 97 ∷ []} ((omega arith, omega arith), tt)
characters_follow false none = inl tt
characters_follow true (next {k = k} {ks = ks} r rs) =
    step_name true (character true k) (characters (nat_eq (character true k) 45) ks) (begun_is_letter k r.below)
    (characters_follow (nat_eq (character true k) 45) rs)
characters_follow false (next {k = k} {ks = ks} r rs) =
    step_name false (character false k) (characters (nat_eq (character false k) 45) ks) (inside_is k r.below)
    (characters_follow (nat_eq (character false k) 45) rs)

-- one character after
pub spelt_pushed : (name pushed ks : List ℕ) (c r : ℕ) → r ≡ c → pushed ≡ name ++ r ∷ []
    → name ++ c ∷ characters (nat_eq c 45) ks ≡ pushed ++ characters (nat_eq r 45) ks
spelt_pushed name pushed ks c r e p =
    sym (ap (λ b. b ++ characters (nat_eq r 45) ks) p ∙ (append_assoc name (r ∷ []) (characters (nat_eq r 45) ks)
    ∙ ap (λ d. name ++ d ∷ characters (nat_eq d 45) ks) e))

pub kebab_counted : {max count place k : ℕ} {bytes after name rest choices : List ℕ} → count ≡ 0 + k → Reads (max - 0 + 1) bytes k after
    → length choices ≡ place + 0 → place ≡ count → ReadsEach 37 after choices rest → name ≡ characters true choices → ReadsKebab max bytes name rest
kebab_counted {max} {count} {place} {k} {bytes} {after} {choices = choices} c r l p each n =
    let same : max - 0 ≡ max = omega arith in
    let many : k ≡ length choices = omega arith in
    record {
      after_count = after;
      choices = choices;
      counted = subst (λ m. Reads (m + 1) bytes (length choices) after) same (subst (λ j. Reads (max - 0 + 1) bytes j after) many r);
      chosen = each;
      spelt = n;
    }

-- a name that is read
pub kebab_is_read : {max : ℕ} {bytes name rest : List ℕ} → ReadsKebab max bytes name rest → Kebab name
kebab_is_read r = rw (r.spelt) (characters_follow true r.chosen)

word_more : (cs ds : List ℕ) → AreInWord cs → AreInWord ds → AreInWord (cs ++ ds)
word_more [] ds a b = b
word_more (c ∷ cs) ds a b = (a.0, word_more cs ds a.1 b)

begun_more : (cs ds : List ℕ) → IsWord cs → AreInWord ds → IsWord (cs ++ ds)
begun_more [] ds a b = elim a [ ]
begun_more (c ∷ cs) ds a b = (a.0, word_more cs ds a.1 b)

-- a name goes on with digits
pub kebab_more : (ds : List ℕ) {cs : List ℕ} → AreInWord ds → Kebab cs → Kebab (cs ++ ds)
kebab_more ds b (word {cs = cs} w) = word (begun_more cs ds w b)
kebab_more ds b (hyphen cs es w k) = rw append_assoc (hyphen cs (es ++ ds) w (kebab_more ds b k))

kebab_appended : (text ds : List ℕ) → AreInWord ds → Kebab text → (n : ℕ) → Kebab (appended text ds n)
kebab_appended text ds a k zero = k
kebab_appended text ds a k (suc n) = kebab_more ds a (kebab_appended text ds a k n)

-- a name that is made unique
pub kebab_is_kept : (has : List ℕ → Bool) (size : ℕ) (text name : List ℕ) → Kebab text → IsMadeUnique has size text name → Kebab name
kebab_is_kept has size text name k u = rw (u.name_is) (kebab_appended text (decimal size) (digits_in_word (decimal size) (are_digits size)) k u.times)

-- the rest, and that all is determined
each_tail : {n : ℕ} {bytes ks rest : List ℕ} → ReadsEach n bytes ks rest → IsTail rest bytes
each_tail (none {bytes = bytes}) = tail_same bytes
each_tail (next r rs) = tail_trans (each_tail rs) (reads_tail r)

pub kebab_tail : {max : ℕ} {bytes name rest : List ℕ} → ReadsKebab max bytes name rest → IsTail rest bytes
kebab_tail r = tail_trans (each_tail r.chosen) (reads_tail r.counted)

each_unique : {n : ℕ} {bytes other ks js left rest : List ℕ} → ReadsEach n bytes ks left → ReadsEach n other js rest → bytes ≡ other → length ks ≡ length js
    → (ks ≡ js) × (left ≡ rest)
each_unique none none e l = (refl, e)
each_unique none (next r rs) e l = absurd (omega (arith, l))
each_unique (next r rs) none e l = absurd (omega (arith, l))
each_unique {n = n} (next {bytes = bytes} {mid = mid} {k = k} {ks = ks} r rs) (next {bytes = other} {mid = amid} {k = j} {ks = js} s ss) e l =
    let same = reads_unique r (subst (λ b. Reads n b j amid) (sym e) s) in
    let first : k ≡ j = same.0 in
    let others = each_unique rs ss same.1 (omega (arith, l)) in
    let more : ks ≡ js = others.0 in
    (cc, others.1)

pub kebab_unique : {max : ℕ} {bytes a b left rest : List ℕ} → ReadsKebab max bytes a left → ReadsKebab max bytes b rest → (a ≡ b) × (left ≡ rest)
kebab_unique r s =
    let c = reads_unique r.counted s.counted in
    let same = each_unique r.chosen s.chosen c.1 c.0 in
    (r.spelt ∙ (ap (characters true) same.0 ∙ sym s.spelt), same.1)

both : (a b : Bool) → cond a b false ≡ true → (a ≡ true) × (b ≡ true)
both true b e = (refl, e)
both false b e = cc

-- whether a list has what f computes at each place from n on
unfoldable pub same_from : (ℕ → ℕ) → List ℕ → ℕ → Bool
same_from f [] n = true
same_from f (x ∷ xs) n = cond (nat_eq x (f n)) (same_from f xs (suc n)) false

read_at : (f : ℕ → ℕ) (xs : List ℕ) (n k : ℕ) → same_from f xs n ≡ true → k < length xs → get_or xs k 0 ≡ f (k + n)
unfolding same_from
read_at f [] n k same h = absurd (omega arith)
read_at f (x ∷ xs) n zero same h = eqb-true x (f n) (both (nat_eq x (f n)) (same_from f xs (suc n)) same).0
    ∙ ap f (let e : n ≡ 0 + n = omega arith in e)
read_at f (x ∷ xs) n (suc k) same h =
    read_at f xs (suc n) k (both (nat_eq x (f n)) (same_from f xs (suc n)) same).1 (omega arith)
    ∙ ap f (let e : k + suc n ≡ suc k + n = omega arith in e)

-- what is at a place of such a table, which x holds
pub tabled : {X : Type 0} (list : X → List ℕ) (f : ℕ → ℕ) {x y : X} (k : ℕ) → x ≡ y → same_from f (list y) 0 ≡ true → k < length (list y)
    → get_or (list x) k 0 ≡ f k
tabled list f {y = y} k e same h =
    ap (λ s. get_or (list s) k 0) e ∙ read_at f (list y) 0 k same h ∙ ap f (let z : k + 0 ≡ k = omega arith in z)
