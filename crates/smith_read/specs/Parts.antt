-- How components are read, and spelled, whose scopes are at most that deep.
use Rattle.std.specs.Prelude.{ℕ, zero, suc, List, [], ◌∷◌, length, drop, Option, Some, None, option_map, nat_eq, ◌==◌, if◌then◌else◌}
use Rattle.std.specs.List.{starts_with}
use Rattle.smith_format.specs.Piece.{Piece, ◌⊕◌, bytes, raw, text, many, sized}
use Rattle.smith_syntax.specs.Grammar.{core_entry, import_entry}
use Rattle.smith_syntax.specs.Entries.{ImportEntry}
use Rattle.smith_tree.specs.Grammar.{preamble, embedded, canon, export_entry}
use Rattle.smith_tree.specs.Tree.{Part, Tree, ends, first, custom, core_module, core_types, component, types, canons}
use Rattle.smith_tree.specs.Tree.{imports, exports, tree_of}
use Rattle.smith_read.specs.CoreTypes.{core_entry_at}
use Rattle.smith_read.specs.Externs.{named_at}
use Rattle.smith_read.specs.Levels.{entry_in, types_at}
use Rattle.smith_read.specs.Reading.{Found, ◌>>=◌, seen, byte_at, many_at, text_at, all_of, framed_at}
use Rattle.smith_read.specs.SectionEntries.{canon_at, export_at}
use Rattle.smith_read.specs.PartNodes.{import_of}

-- an import: a name, and what it is of
unfoldable pub import_at : List ℕ → Found ImportEntry
import_at bs = seen import_of (named_at bs)

-- the contents of sections
unfoldable pub custom_all : List ℕ → Option (List ℕ × List ℕ)
custom_all bs = text_at bs >>= λ n. raw n.1 >>= λ c. Some (n.0, c)

unfoldable pub list_all_at : {A : Type 0} → (List ℕ → Found A) → List ℕ → Option (List A)
list_all_at reading bs = all_of (many_at reading bs)

unfoldable pub preamble_at : List ℕ → Option (List ℕ)
preamble_at bs = if starts_with nat_eq bs preamble then Some (drop 8 bs) else None

module _ (levels : ℕ) (inner : List ℕ → Option Tree) where
  -- what fills a section of that id
  unfoldable pub section_at : ℕ → List ℕ → Option Part
  section_at id bs =
      if id == 0 then option_map (λ x. custom x.0 x.1) (custom_all bs)
      else if id == 1 then option_map core_module (embedded bs)
      else if id == 3 then option_map core_types (list_all_at core_entry_at bs)
      else if id == 4 then option_map component (inner bs)
      else if id == 7 then option_map types (types_at levels bs)
      else if id == 8 then option_map canons (list_all_at canon_at bs)
      else if id == 10 then option_map imports (list_all_at import_at bs)
      else if id == 11 then option_map exports (list_all_at export_at bs)
      else None

  unfoldable pub part_at : List ℕ → Found Part
  part_at bs = byte_at bs >>= λ t. framed_at (section_at t.0) t.1

  -- at most that many parts
  unfoldable pub parts_at : ℕ → List ℕ → Option (List Part)
  parts_at most [] = Some []
  parts_at zero (b ∷ bs) = None
  parts_at (suc n) (b ∷ bs) = part_at (b ∷ bs) >>= λ p. parts_at n p.1 >>= λ ps. Some (p.0 ∷ ps)

  unfoldable pub contents_at : List ℕ → Option Tree
  contents_at bs = preamble_at bs >>= λ rest. parts_at (length rest) rest >>= λ ps. Some (tree_of ps)

abbrev pub no_tree : List ℕ → Option Tree
no_tree bs = None

-- a component whose scopes are at most that deep
unfoldable pub component_at : ℕ → List ℕ → Option Tree
component_at zero = no_tree
component_at (suc n) = contents_at n (component_at n)

-- Spellings, of components that hold components spelled by `inner`.
module _ (levels : ℕ) (inner : Tree → Piece) where
  abbrev pub part_in : Part → Piece
  part_in (custom name contents) = sized 0 (text name ⊕ raw contents)
  part_in (core_module bs) = sized 1 (embedded bs)
  part_in (core_types ts) = sized 3 (many core_entry ts)
  part_in (component t) = sized 4 (inner t)
  part_in (types ts) = sized 7 (many (entry_in levels) ts)
  part_in (canons fs) = sized 8 (many canon fs)
  part_in (imports is) = sized 10 (many import_entry is)
  part_in (exports es) = sized 11 (many export_entry es)

  abbrev pub parts_in : Tree → Piece
  parts_in ends = Some []
  parts_in (first p t) = part_in p ⊕ parts_in t

  abbrev pub text_in : Tree → Piece
  text_in t = bytes preamble ⊕ parts_in t

abbrev pub no_piece : Tree → Piece
no_piece t = None

-- the spelling of a component whose scopes are at most that deep
unfoldable pub component_in : ℕ → Tree → Piece
component_in zero = no_piece
component_in (suc n) = text_in n (component_in n)
