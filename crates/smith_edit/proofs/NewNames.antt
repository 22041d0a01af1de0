-- Names that are known, and names that are new.
use Rattle.std.proofs.Common.{◌≡◌, ℕ, zero, suc, ◌+◌, ◌-◌, ◌<◌, ◌≤◌, ◌||◌, Bool, true, false, bytes_eq, List, [], ◌∷◌, ◌++◌, append_assoc}
use Rattle.std.proofs.Common.{length, append-nil, length-append, drop, get_or, map, refl, string_bytes, sym, ap, ◌∙◌, arith, nat_lt, ⊎_elim, ◌/◌, ◌%◌}
use Rattle.std.proofs.lemmas.List.{map-append}
use Rattle.std.specs.BTreeSet.{BTreeSet, UpdatesBy, contains_text}
use Rattle.std.specs.Cmp.Lexicographic.{slice_cmp}
use Rattle.std.specs.Ordering.{nat_cmp}
use Rattle.std.specs.String.{string_cmp}
use Rattle.std.specs.declared.alloc.Global.{Global}
use Rattle.std.specs.declared.string.String.{String}
use Rattle.std.proofs.lemmas.Map.Text.{btree_set_updates_text}
use Rattle.std.proofs.lemmas.Bool.{cases_lt}
use Rattle.std.proofs.lemmas.Bool.Decides.{nat_tests}
use Rattle.std.proofs.lemmas.Slice.Eq.{bytes_eq-Decides}
use Rattle.std.specs.Fmt.{decimal}
use Rattle.std.specs.List.{AllByRecursion, IsDistinct}
use Rattle.std.specs.Prelude.{if◌then◌else◌}
use Rattle.smith_input.specs.NewNames.{is_among}
use Rattle.smith_input.proofs.NewNames.{among_more}
use Rattle.smith_input.specs.Kebab.{Kebab}
use Rattle.smith_input.proofs.Digits.{are_digits, digits_in_word, some_digits}
use Rattle.smith_input.proofs.Kebab.{kebab_more}
use Rattle.smith_syntax.specs.WellFormed.{Named}
use Rattle.smith_edit.specs.Edits.{all_renamed, made_new, new_name}
use Rattle.smith_edit.specs.Names.{Knows}
use Rattle.smith_edit.specs.declared.names.Names.{Names}
use Rattle.smith_edit.specs.ShortNames.{letters, new_from, short_name}
use Rattle.smith_input.proofs.NameSets.{cond_or}
use Rattle.smith_input.proofs.Lists.{map_drop, map_dropped}

pub knows_more : (old new : Names) (names : List (List ℕ)) (name : List ℕ) → Knows old names
    → ((q : List ℕ) → contains_text new.set q ≡ (bytes_eq name q || contains_text old.set q)) → new.count ≡ old.count + 1 → Knows new (names ++ name ∷ [])
knows_more old new names name known has count = grind (arith, among_more, length-append)

-- a set into which a key is put
pub set_gains : (key : String Global) (name : List ℕ) (old new : BTreeSet (String Global)) → string_bytes key ≡ name
    → UpdatesBy string_cmp (λ k. slice_cmp nat_cmp (string_bytes key) (string_bytes k)) old new true
    → (q : List ℕ) → contains_text new q ≡ (bytes_eq name q || contains_text old q)
set_gains key name old new e updates q =
    btree_set_updates_text (string_bytes key) old new true updates q
    ∙ (cond_or (bytes_eq (string_bytes key) q) (contains_text old q) ∙ ap (λ bs. bytes_eq bs q || contains_text old q) e)

-- one try of a new name, and the last

pub made_more : (n k : ℕ) (names : List (List ℕ)) (digits text : List ℕ) → k < n → is_among names text ≡ true
    → made_new (n - k) names digits text ≡ made_new (n - (k + 1)) names digits (text ++ digits)
made_more n k names digits text h t = grind arith

pub made_there : (n : ℕ) (names : List (List ℕ)) (digits text : List ℕ) → is_among names text ≡ false → made_new n names digits text ≡ text
made_there zero names digits text t = refl
made_there (suc n) names digits text t = rw t refl

-- items that are renamed one by one
module _ {X A : Type 0} (shown : X → A) (name : A → List ℕ) where
  module _ (rename : A → List ℕ → A) (law : (x : A) (text : List ℕ) → name (rename x text) ≡ text) where
    pub renamed_names : (names : List (List ℕ)) (done : List X) (x y : X) (new : List ℕ) → shown y ≡ rename (shown x) new
        → names ++ map name (map shown (done ++ y ∷ [])) ≡ names ++ map name (map shown done) ++ new ∷ []
    renamed_names names done x y new is = grind (arith, map-append, append_assoc)

    pub renamed_step : (names : List (List ℕ)) (whole : List A) (xs done : List X) (i : ℕ) (x y : X) (new : List ℕ) → i < length xs → x ≡ get_or xs i x
        → new ≡ new_name (names ++ map name (map shown done)) (name (shown x)) → shown y ≡ rename (shown x) new
        → map shown done ++ all_renamed name rename (names ++ map name (map shown done)) (map shown (drop i xs)) ≡ whole
        → map shown (done ++ y ∷ []) ++ all_renamed name rename (names ++ map name (map shown (done ++ y ∷ []))) (map shown (drop (i + 1) xs)) ≡ whole
    renamed_step names whole xs done i x y new lt at made is h = grind (arith, renamed_names, map-append, append_assoc, map_drop)

    pub renamed_end : (known : List (List ℕ)) (whole left : List A) (xs : List X) (i : ℕ) → length xs ≤ i
        → left ++ all_renamed name rename known (map shown (drop i xs)) ≡ whole → left ≡ whole
    renamed_end known whole left xs i h e = sym (append-nil left) ∙ (sym (ap (λ ys. left ++ all_renamed name rename known ys) (map_dropped shown xs i h)) ∙ e)

-- names that are made new

-- how many names are that long, or longer

abbrev pub is_long : ℕ → ℕ → ℕ
is_long k n = if nat_lt n k then 0 else 1

abbrev pub long : ℕ → List (List ℕ) → ℕ
long k [] = 0
long k (n ∷ ns) = is_long k (length n) + long k ns

short_is : (k n : ℕ) → n < k → is_long k n ≡ 0
short_is k n h = let t : nat_lt n k ≡ true = grind (arith, nat_tests) in rw t refl

long_is : (k n : ℕ) → k ≤ n → is_long k n ≡ 1
long_is k n h = let t : nat_lt n k ≡ false = grind (arith, nat_tests) in rw t refl

one_at_most : (k n : ℕ) → is_long k n ≤ 1
one_at_most k n = ⊎_elim (λ lt. omega (arith, short_is k n lt)) (λ ge. omega (arith, long_is k n ge)) (cases_lt n k)

is_long_less : (k j n : ℕ) → k ≤ j → is_long j n ≤ is_long k n
is_long_less k j n h =
    ⊎_elim (λ lt. omega (arith, short_is j n lt)) (λ ge. omega (arith, long_is j n ge, long_is k n (omega (arith, h, ge)))) (cases_lt n j)

long_less : (k j : ℕ) (ns : List (List ℕ)) → k ≤ j → long j ns ≤ long k ns
long_less k j [] h = omega arith
long_less k j (n ∷ ns) h = omega (arith, is_long_less k j (length n) h, long_less k j ns h)

long_most : (k : ℕ) (ns : List (List ℕ)) → long k ns ≤ length ns
long_most k [] = omega arith
long_most k (n ∷ ns) = omega (arith, one_at_most k (length n), long_most k ns)

-- one of the names is as long as itself

among_by : (text n : List ℕ) (ns : List (List ℕ)) (b c : Bool) → bytes_eq n text ≡ b → (c ≡ true → long (length text + 1) ns + 1 ≤ long (length text) ns)
    → (b || c) ≡ true
    → is_long (length text + 1) (length n) + long (length text + 1) ns + 1 ≤ is_long (length text) (length n) + long (length text) ns
among_by text n ns true c e h is = grind (arith, bytes_eq-Decides, short_is, long_is, long_less)
among_by text n ns false c e h is = omega (arith, h is, is_long_less (length text) (length text + 1) (length n) (omega arith))

among_long : (text : List ℕ) (ns : List (List ℕ)) → is_among ns text ≡ true → long (length text + 1) ns + 1 ≤ long (length text) ns
among_long text [] h = absurd cc
among_long text (n ∷ ns) h = among_by text n ns (bytes_eq n text) (is_among ns text) refl (among_long text ns) h

none_by : (text : List ℕ) (ns : List (List ℕ)) (b : Bool) → is_among ns text ≡ b → long (length text) ns ≡ 0 → b ≡ false
none_by text ns true e h = absurd (omega (arith, h, among_long text ns e))
none_by text ns false e h = refl

none_among : (text : List ℕ) (ns : List (List ℕ)) → long (length text) ns ≡ 0 → is_among ns text ≡ false
none_among text ns h = none_by text ns (is_among ns text) refl h

-- a name that is made new is none of the names

made_by : (n : ℕ) (ns : List (List ℕ)) (digits text : List ℕ) (b : Bool) → is_among ns text ≡ b → 0 < length digits → long (length text) ns ≤ suc n
    → ((longer : List ℕ) → long (length longer) ns ≤ n → is_among ns (made_new n ns digits longer) ≡ false)
    → is_among ns (if b then made_new n ns digits (text ++ digits) else text) ≡ false
made_by n ns digits text true e some few more =
    more (text ++ digits)
    (omega (arith, among_long text ns e, few, long_less (length text + 1) (length (text ++ digits)) ns (omega (arith, some, length-append text digits))))
made_by n ns digits text false e some few more = e

made_is_new : (n : ℕ) (ns : List (List ℕ)) (digits text : List ℕ) → 0 < length digits → long (length text) ns ≤ n → is_among ns (made_new n ns digits text)
    ≡ false
made_is_new zero ns digits text some few = none_among text ns (omega (arith, few))
made_is_new (suc n) ns digits text some few =
    made_by n ns digits text (is_among ns text) refl some few (λ longer less. made_is_new n ns digits longer some less)

kebab_by : (n : ℕ) (ns : List (List ℕ)) (digits text : List ℕ) (b : Bool) → Kebab text → Kebab (made_new n ns digits (text ++ digits))
    → Kebab (if b then made_new n ns digits (text ++ digits) else text)
kebab_by n ns digits text true h more = more
kebab_by n ns digits text false h more = h

made_kebab : (n : ℕ) (ns : List (List ℕ)) (digits text : List ℕ) → ((t : List ℕ) → Kebab t → Kebab (t ++ digits)) → Kebab text
    → Kebab (made_new n ns digits text)
made_kebab zero ns digits text more h = h
made_kebab (suc n) ns digits text more h =
    kebab_by n ns digits text (is_among ns text) h (made_kebab n ns digits (text ++ digits) more (more text h))

pub new_is_new : (ns : List (List ℕ)) (text : List ℕ) → is_among ns (new_name ns text) ≡ false
new_is_new ns text = made_is_new (length ns) ns (decimal (length ns)) text (some_digits (length ns)) (long_most (length text) ns)

pub new_kebab : (ns : List (List ℕ)) (text : List ℕ) → Kebab text → Kebab (new_name ns text)
new_kebab ns text h = grind (arith, made_kebab, kebab_more, digits_in_word, are_digits)

-- one more name

or_none : (a b : Bool) → (a || b) ≡ false → (a ≡ false) × (b ≡ false)
or_none true b h = absurd cc
or_none false b h = (refl, h)

module _ {A : Type 0} (P : A → Type 0) where
  all_push : (xs : List A) (x : A) → AllByRecursion P xs → P x → AllByRecursion P (xs ++ x ∷ [])
  all_push [] x h p = (p, tt)
  all_push (y ∷ ys) x h p = (h.0, all_push ys x h.1 p)

distinct_push : (ns : List (List ℕ)) (n : List ℕ) → IsDistinct bytes_eq ns → is_among ns n ≡ false → IsDistinct bytes_eq (ns ++ n ∷ [])
unfolding IsDistinct
distinct_push [] n h new = (tt, tt)
distinct_push (m ∷ ms) n h new =
    let apart = or_none (bytes_eq m n) (is_among ms n) new in
    (all_push (λ y. bytes_eq m y ≡ false) ms n h.0 apart.0, distinct_push ms n h.1 apart.1)

pub named_push : (ns : List (List ℕ)) (n : List ℕ) → Named ns → Kebab n → is_among ns n ≡ false → Named (ns ++ n ∷ [])
named_push ns n h kebab new = (all_push Kebab ns n h.0 kebab, distinct_push ns n h.1 new)

pub named_none : Named []
unfolding IsDistinct
named_none = (tt, tt)

-- the names a, b, .., z, aa, ab,

letters_few : (m n : ℕ) → n < 26 → letters (suc m) n ≡ (0x61 + n) ∷ []
letters_few m n h = let t : nat_lt n 26 ≡ true = grind (arith, nat_tests) in rw t refl

letters_many : (m n : ℕ) → 26 ≤ n → letters (suc m) n ≡ letters m (n / 26 - 1) ++ (0x61 + n % 26) ∷ []
letters_many m n h = let t : nat_lt n 26 ≡ false = grind (arith, nat_tests) in rw t refl

-- how many letters there may be counts no more, once there are enough
letters_same : (m k n : ℕ) → n < m → n < k → letters m n ≡ letters k n
letters_same zero k n h j = absurd (omega arith)
letters_same (suc m) zero n h j = absurd (omega arith)
letters_same (suc m) (suc k) n h j =
    ⊎_elim
    (λ lt. letters_few m n lt ∙ sym (letters_few k n lt))
    (λ ge. letters_many m n ge ∙ (ap (λ w. w ++ (0x61 + n % 26) ∷ []) (letters_same m k (n / 26 - 1) (omega (arith, ge, h)) (omega (arith, ge, j)))
    ∙ sym (letters_many k n ge)))
    (cases_lt n 26)

short_few : (n : ℕ) → n < 26 → short_name n ≡ (0x61 + n) ∷ []
unfolding short_name
short_few n h = letters_few n n h

short_many : (n : ℕ) → 26 ≤ n → short_name n ≡ short_name (n / 26 - 1) ++ (0x61 + n % 26) ∷ []
unfolding short_name
short_many n h =
    letters_many n n h ∙ ap (λ w. w ++ (0x61 + n % 26) ∷ []) (letters_same n (suc (n / 26 - 1)) (n / 26 - 1) (omega (arith, h)) (omega arith))

-- the last letter is appended

pub pushed_few : (n : ℕ) (old new : List ℕ) → n < 26 → new ≡ old ++ (0x61 + n % 26) ∷ [] → new ≡ old ++ short_name n
pushed_few n old new h is = grind (arith, short_few)

pub pushed_many : (n : ℕ) (old mid new : List ℕ) → 26 ≤ n → mid ≡ old ++ short_name (n / 26 - 1) → new ≡ mid ++ (0x61 + n % 26) ∷ []
    → new ≡ old ++ short_name n
pushed_many n old mid new h front is = grind (arith, append_assoc, short_many)

-- one try of a new name, and the last

pub new_more : (n k : ℕ) (names : List (List ℕ)) → k < n → is_among names (short_name k) ≡ true
    → new_from (n - k) k names ≡ new_from (n - (k + 1)) (k + 1) names
new_more n k names h t = let less : n - k ≡ suc (n - (k + 1)) = omega arith in rw less (rw t refl)

pub new_there : (n k : ℕ) (names : List (List ℕ)) → is_among names (short_name k) ≡ false → new_from n k names ≡ short_name k
new_there zero k names t = refl
new_there (suc n) k names t = rw t refl
