-- Which names can be read, and a script for each: a text that can be read becomes the name.
use Rattle.std.specs.Prelude.{◌≡◌, ℕ, zero, suc, ◌+◌, ◌-◌, Bool, true, nat_eq, nat_le, if◌then◌else◌, List, [], ◌∷◌, ◌++◌, length, take, codes}
use Rattle.std.specs.Fmt.{decimal}
use Rattle.std.specs.List.{ends_with}
use Rattle.smith_input.specs.NewNames.{IsMadeNew}
use Rattle.smith_input.specs.Script.{script_name, script_text}

-- Is `a` the last word of a name in kebab case?
abbrev pub last_word_is_a : List ℕ → Bool
last_word_is_a name = ends_with nat_eq (codes "-" ++ name) (codes "-a")

-- Can a name in kebab case be read at a length of at most max? Nothing is chosen for an `a` that is the last word, so one more byte is possible
-- there.
abbrev pub is_within : ℕ → List ℕ → Bool
is_within max name = nat_le (length name) (if last_word_is_a name then max + 1 else max)

-- Can a text, which is UTF-8, be read at a length of at most max?
abbrev pub is_short : ℕ → List ℕ → Bool
is_short max text = nat_le (length text) max

-- A text that can be read becomes the name.
abbrev pub IsMadeOf : (List ℕ → Bool) → List (List ℕ) → List ℕ → Type 0
IsMadeOf can_read names name = (text : List ℕ) × (can_read text ≡ true) × IsMadeNew names text name

-- A name in kebab case that can be read becomes the name.
abbrev pub IsReachable : ℕ → List (List ℕ) → List ℕ → Type 0
IsReachable max names name = IsMadeOf (is_within max) names name

-- Each of these names is reachable after the names there and the ones before it.
abbrev pub AreReachable : ℕ → List (List ℕ) → List (List ℕ) → Type 0
AreReachable max before [] = Unit {0}
AreReachable max before (n ∷ ns) = IsReachable max before n × AreReachable max (before ++ n ∷ []) ns

-- A text of at most max bytes becomes the name.
abbrev pub IsReachableText : ℕ → List (List ℕ) → List ℕ → Type 0
IsReachableText max names name = IsMadeOf (is_short max) names name

-- the first that can be read: the name, or the name without that many bytes at its end, again and again
abbrev pub first_readable : (List ℕ → Bool) → ℕ → ℕ → List ℕ → List ℕ
first_readable can_read digits zero name = name
first_readable can_read digits (suc fuel) name =
    if can_read name then name else first_readable can_read digits fuel (take (length name - digits) name)

-- the longest text that can be read and becomes the name, if there are that many names
abbrev pub stem_of : (List ℕ → Bool) → ℕ → List ℕ → List ℕ
stem_of can_read count name = first_readable can_read (length (decimal count)) (length name) name

-- the script of a name in kebab case that can be read, with max below 2 ^ 64: at most max characters are chosen
abbrev pub script_within : ℕ → List ℕ → List ℕ
script_within max name = script_name max (take max name)

-- the script of a name in kebab case that is made new among that many names
abbrev pub script_new : ℕ → ℕ → List ℕ → List ℕ
script_new max count name = script_within max (stem_of (is_within max) count name)

-- the script of a text that is made new among that many texts
abbrev pub script_new_text : ℕ → ℕ → List ℕ → List ℕ
script_new_text max count name = script_text max (stem_of (is_short max) count name)
