-- How choices, loops, bytes, texts and names are spelled, so that they are read as themselves.
use Rattle.std.specs.List.{AllByRecursion}
use Rattle.std.specs.Prelude.{ℕ, zero, suc, ◌+◌, ◌-◌, ◌/◌, ◌^◌, ◌%◌, ◌<◌, Bool, List, [], ◌∷◌, ◌++◌, length, nat_le, nat_lt, if◌then◌else◌}

-- These numbers are bytes.
abbrev pub AreBytes : List ℕ → Type 0
AreBytes bs = AllByRecursion (λ b. b < 256) bs

-- k in w bytes, most significant first, with k below 256 ^ w
abbrev pub big_endian : ℕ → ℕ → List ℕ
big_endian zero k = []
big_endian (suc w) k = (k / 256 ^ w) ∷ big_endian w (k % 256 ^ w)

-- how many bytes distinguish n things, with n at most 256 ^ fuel
abbrev pub width_within : ℕ → ℕ → ℕ
width_within zero n = 0
width_within (suc fuel) n = if nat_le n 1 then 0 else suc (width_within fuel ((n + 255) / 256))

-- The bytes of a choice of k among n, with n at most 2 ^ 64: the fewest that distinguish n things.
unfoldable pub pick : ℕ → ℕ → List ℕ
pick n k = big_endian (width_within 8 n) k

-- the place of the first that is equal to x
abbrev pub rank_of : {A : Type 0} → (A → A → Bool) → List A → A → ℕ
rank_of eq [] x = zero
rank_of eq (y ∷ ys) x = if eq y x then zero else suc (rank_of eq ys x)

-- the bytes of a choice of x among the items of a list, of which there are at most 2 ^ 64
abbrev pub script_among : {A : Type 0} → (A → A → Bool) → List A → A → List ℕ
script_among eq xs x = pick (length xs) (rank_of eq xs x)

-- the end of a loop that has made that many turns: a byte if it might make another
abbrev pub script_end : ℕ → ℕ → List ℕ
script_end done max = if nat_lt done max then 0 ∷ [] else []

-- a byte before each turn of a loop, except the turns that its minimum forces
abbrev pub script_more : ℕ → ℕ → List ℕ
script_more min done = if nat_lt done min then [] else 1 ∷ []

-- the turns of a loop that has made that many: script s x produces the item x in the state s, and next s x is the state
-- then
abbrev pub script_loop : {S A : Type 0} → (S → A → List ℕ) → (S → A → S) → ℕ → ℕ → ℕ → S → List A → List ℕ
script_loop script next min max done s [] = script_end done max
script_loop script next min max done s (x ∷ xs) = script_more min done ++ script s x ++ script_loop script next min max (done + 1) (next s x) xs

-- a boolean before each byte, and one at the end
abbrev pub script_bytes : List ℕ → List ℕ
script_bytes [] = 0 ∷ []
script_bytes (x ∷ xs) = 1 ∷ x ∷ script_bytes xs

-- the text after its length, with max below 2 ^ 64
abbrev pub script_text : ℕ → List ℕ → List ℕ
script_text max text = pick (max + 1) (length text) ++ text

-- the choice that produces a character of a name in kebab case where it is: a to z are 0 to 25, 0 to 9 are 26 to 35,
-- and a hyphen is 36
abbrev pub code : ℕ → ℕ
code c = if nat_le 97 c then c - 97 else (if nat_le 48 c then 26 + (c - 48) else 36)

-- the choices of a name's characters
abbrev pub script_characters : List ℕ → List ℕ
script_characters [] = []
script_characters (c ∷ cs) = pick 37 (code c) ++ script_characters cs

-- a name's length and the choices of its characters, with max below 2 ^ 64
abbrev pub script_name : ℕ → List ℕ → List ℕ
script_name max name = pick (max + 1) (length name) ++ script_characters name
