-- Bytes of any length and texts of a limited length, as they are read, and how they are spelled.
use Rattle.std.specs.Prelude.{◌≡◌, ℕ, ◌+◌, ◌<◌, ◌≤◌, true, false, List, [], ◌∷◌, length, take, drop, slice_index}
use Rattle.std.specs.Str.{IsUtf8}
use Rattle.smith_input.specs.NewNames.{IsMadeNew}
use Rattle.smith_input.specs.Reading.{Reads, Flips}

-- One byte is read, zero past the end.
pub record ReadsByte (bytes : List ℕ) (value : ℕ) (rest : List ℕ) : Type 0 where
  pub value_is : value ≡ slice_index bytes 0
  pub left : rest ≡ drop 1 bytes

-- Bytes of any length: a byte follows each boolean that is true, up to the first that is false.
pub data ReadsBytes : List ℕ → List ℕ → List ℕ → Type 0 where
  ends : {bytes rest : List ℕ} → Flips bytes false rest → ReadsBytes bytes [] rest
  follows : {bytes mid low rest : List ℕ} {value : ℕ} {values : List ℕ} → Flips bytes true mid → ReadsByte mid value low → ReadsBytes low values rest
      → ReadsBytes bytes (value ∷ values) rest

-- The text is the longest prefix of the bytes that is UTF-8.
pub record IsLongestText (bytes text : List ℕ) : Type 0 where
  pub utf8 : IsUtf8 text
  pub front : text ≡ take (length text) bytes
  pub longest : (n : ℕ) → length text < n → n ≤ length bytes → ¬ (IsUtf8 (take n bytes))

-- A text of at most max bytes: a length is read, and the longest text that begins that many next bytes, or all the
-- remaining bytes if they are fewer, is taken. The others stay unread.
pub record ReadsText (max : ℕ) (bytes text rest : List ℕ) : Type 0 where
  pub count : ℕ
  pub after_count : List ℕ
  pub counted : Reads (max + 1) bytes count after_count
  pub longest : IsLongestText (take count after_count) text
  pub left : rest ≡ drop (length text) after_count

-- A text of at most max bytes that is read, and made unique among names.
pub record ReadsNewText (max : ℕ) (names : List (List ℕ)) (bytes name rest : List ℕ) : Type 0 where
  pub text : List ℕ
  pub reads : ReadsText max bytes text rest
  pub unique : IsMadeNew names text name
