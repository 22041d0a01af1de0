-- Names in kebab case, as they are read, and made unique among the existing names.
use Rattle.std.specs.Prelude.{◌≡◌, ℕ, ◌+◌, ◌-◌, ◌||◌, Bool, true, nat_eq, nat_lt, if◌then◌else◌, List, [], ◌∷◌, ◌++◌, length, bytes_eq, codes}
use Rattle.std.specs.BTreeSet.{BTreeSet, contains_text, btree_set_len}
use Rattle.std.specs.declared.string.String.{String}
use Rattle.smith_input.specs.Kebab.{Kebab}
use Rattle.smith_input.specs.NewNames.{IsMadeUnique, IsMadeNew, is_among}
use Rattle.smith_input.specs.Reading.{Reads}

-- Choices among n, one read after another.
pub data ReadsEach (n : ℕ) : List ℕ → List ℕ → List ℕ → Type 0 where
  none : {bytes : List ℕ} → ReadsEach n bytes [] bytes
  next : {bytes mid rest : List ℕ} {k : ℕ} {ks : List ℕ} → Reads n bytes k mid → ReadsEach n mid ks rest → ReadsEach n bytes (k ∷ ks) rest

-- The character of a choice among 37, where a word must begin or goes on: 0 to 25 are a to z; 26 to 35 are
-- 0 to 9, or a to j where a word must begin; 36 is a hyphen, or an a where a word must begin.
abbrev pub character : Bool → ℕ → ℕ
character begins k =
    if nat_lt k 26 then 97 + k else (if nat_lt k 36 then (if begins then 97 + (k - 26) else 48 + (k - 26)) else (if begins then 97 else 45))

-- The characters of the choices, where a word must begin or goes on at the first. A word must begin after each hyphen;
-- if one must begin after the last choice, an a is there.
abbrev pub characters : Bool → List ℕ → List ℕ
characters begins [] = if begins then 97 ∷ [] else []
characters begins (k ∷ ks) = character begins k ∷ characters (nat_eq (character begins k) 45) ks

-- A name in kebab case: a length of at most max is read, and a choice for each place. A word must begin at the first.
-- The length is not cut to the remaining bytes.
pub record ReadsKebab (max : ℕ) (bytes name rest : List ℕ) : Type 0 where
  pub after_count : List ℕ
  pub choices : List ℕ
  pub counted : Reads (max + 1) bytes (length choices) after_count
  pub chosen : ReadsEach 37 after_count choices rest
  pub spelt : name ≡ characters true choices

-- The text is made unique among the names of a set.
abbrev pub IsUniqueIn : {A : Type 0} → BTreeSet (String A) → List ℕ → List ℕ → Type 0
IsUniqueIn set text name = IsMadeUnique (contains_text set) (btree_set_len set) text name

-- A text is read, and made unique among the names of a set.
abbrev pub ReadsUnique : {A : Type 0} → (List ℕ → List ℕ → List ℕ → Type 0) → BTreeSet (String A) → List ℕ → List ℕ → List ℕ → Type 0
ReadsUnique Read set bytes name rest = (text : List ℕ) × Read bytes text rest × IsUniqueIn set text name

-- The set gains the name, and nothing else changes.
pub record GainsName {A : Type 0} (old new : BTreeSet (String A)) (name : List ℕ) : Type 0 where
  pub has : (q : List ℕ) → contains_text new q ≡ (bytes_eq name q || contains_text old q)
  pub size : btree_set_len new ≡ btree_set_len old + 1

-- A URL: the host, and a name in kebab case that is read, made unique among the names of a set, and gained by the set.
abbrev pub ReadsUrl : {A : Type 0} → ℕ → BTreeSet (String A) → BTreeSet (String A) → List ℕ → List ℕ → List ℕ → Type 0
ReadsUrl max old new bytes url rest =
    (text name : List ℕ) × (url ≡ codes "https://example.com/" ++ name) × ReadsKebab max bytes text rest × IsUniqueIn old text name × Kebab name
    × GainsName old new name

-- A set has these names, each once, and no others.
pub record Holds {A : Type 0} (set : BTreeSet (String A)) (names : List (List ℕ)) : Type 0 where
  pub has : (q : List ℕ) → contains_text set q ≡ is_among names q
  pub size : btree_set_len set ≡ length names

-- A name in kebab case that is read, and made unique among the names read before it.
pub record ReadsNew (max : ℕ) (names : List (List ℕ)) (bytes name rest : List ℕ) : Type 0 where
  pub text : List ℕ
  pub reads : ReadsKebab max bytes text rest
  pub unique : IsMadeNew names text name
