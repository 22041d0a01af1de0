-- The offsets of the items of a component, in order: how many of its bytes precede each (Binary.md, component definitions). `offset_in` of `smith_read`
-- says it of one item.
use Rattle.std.specs.Prelude.{ℕ, ◌+◌, List, [], ◌∷◌, ◌++◌, length}
use Rattle.smith_format.specs.Piece.{Piece, u}
use Rattle.smith_format.specs.Writing.{piece_length}
use Rattle.smith_syntax.specs.Grammar.{core_entry, entry, import_entry}
use Rattle.smith_tree.specs.Grammar.{canon, export_entry, part, preamble}
use Rattle.smith_tree.specs.Tree.{Part, Tree, canons, component, core_module, core_types, custom, ends, exports, first, imports, types}
use Rattle.smith_read.specs.Places.{contents_in}

-- entries from an offset on, one after another
abbrev pub each_at : {A : Type 0} → (A → Piece) → ℕ → List A → List ℕ
each_at f offset [] = []
each_at f offset (x ∷ xs) = offset ∷ each_at f (offset + piece_length (f x)) xs

-- a list of them after its count
abbrev pub many_at : {A : Type 0} → (A → Piece) → ℕ → List A → List ℕ
many_at f offset xs = each_at f (offset + piece_length (u (length xs))) xs

-- how many bytes of a section precede what it holds
abbrev pub head_length : Part → ℕ
head_length p = 1 + piece_length (u (piece_length (contents_in p)))

abbrev mutual
  -- of sections from an offset on
  pub parts_at : ℕ → Tree → List ℕ
  parts_at offset ends = []
  parts_at offset (first p t) = contents_at (offset + head_length p) p ++ parts_at (offset + piece_length (part p)) t

  -- of what a section holds, from an offset on
  pub contents_at : ℕ → Part → List ℕ
  contents_at offset (custom name contents) = offset ∷ []
  contents_at offset (core_module bs) = offset ∷ []
  contents_at offset (core_types ts) = many_at core_entry offset ts
  contents_at offset (component t) = offset ∷ parts_at (offset + length preamble) t
  contents_at offset (types ts) = many_at entry offset ts
  contents_at offset (canons fs) = many_at canon offset fs
  contents_at offset (imports is) = many_at import_entry offset is
  contents_at offset (exports es) = many_at export_entry offset es

abbrev pub offsets_of : Tree → List ℕ
offsets_of t = parts_at (length preamble) t
