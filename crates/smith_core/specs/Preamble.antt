-- What a core module begins with (core specification, Binary Format, Modules).
use Rattle.std.specs.Prelude.{ℕ, List, [], ◌∷◌}

-- the magic word and the version
abbrev pub core_preamble : List ℕ
core_preamble = 0x00 ∷ 0x61 ∷ 0x73 ∷ 0x6d ∷ 0x01 ∷ 0x00 ∷ 0x00 ∷ 0x00 ∷ []
