-- Where an item of a component is in its bytes: what precedes it (Binary.md, component definitions).
use Rattle.std.specs.Prelude.{◌≡◌, ℕ, zero, suc, ◌-◌, List, [], length, take, Option, None, Some, option_map, slice_get, nat_lt, if◌then◌else◌}
use Rattle.smith_format.specs.Piece.{Piece, ◌⊕◌, byte, bytes, each, many, raw, text, u}
use Rattle.smith_syntax.specs.Grammar.{core_entry, entry, import_entry}
use Rattle.smith_tree.specs.Grammar.{canon, component_text, embedded, export_entry, part, preamble}
use Rattle.smith_tree.specs.Tree.{Part, Tree, canons, component, core_module, core_types, custom, ends, exports, first, imports, types}
use Rattle.smith_read.specs.Items.{items_in}
use Rattle.smith_read.specs.Reading.{◌>>=◌}

-- the id of a section, and what it holds

abbrev pub id_of : Part → ℕ
id_of (custom name contents) = 0
id_of (core_module text) = 1
id_of (core_types ts) = 3
id_of (component t) = 4
id_of (types ts) = 7
id_of (canons fs) = 8
id_of (imports is) = 10
id_of (exports es) = 11

abbrev pub contents_in : Part → Piece
contents_in (custom name contents) = text name ⊕ raw contents
contents_in (core_module text) = embedded text
contents_in (core_types ts) = many core_entry ts
contents_in (component t) = component_text t
contents_in (types ts) = many entry ts
contents_in (canons fs) = many canon fs
contents_in (imports is) = many import_entry is
contents_in (exports es) = many export_entry es

-- as much of a list as precedes an entry in it: its count, and the entries before that one
abbrev pub list_before : {A : Type 0} → (A → Piece) → List A → ℕ → Piece
list_before f xs index = if nat_lt index (length xs) then u (length xs) ⊕ each f (take index xs) else None

-- as much of what is one item as precedes an item in it: nothing precedes the first, and there is no other
abbrev pub sole_before : ℕ → Piece
sole_before zero = Some []
sole_before (suc index) = None

-- a section up to something in it: its id, the length of what it holds, and as much of that
abbrev pub opened : Piece → Part → Piece
opened inner p = byte (id_of p) ⊕ (contents_in p >>= λ c. u (length c)) ⊕ inner

-- As much of the sections of a component as precedes the item of that number, and as much of what a section holds as precedes the item in it.
-- None if there is no such item.
abbrev mutual
  pub front : ℕ → Tree → Piece
  front n ends = None
  front n (first p t) = if nat_lt n (items_in p) then opened (front_in n p) p else part p ⊕ front (n - items_in p) t

  pub front_in : ℕ → Part → Piece
  front_in n (custom name contents) = sole_before n
  front_in n (core_module bs) = sole_before n
  front_in n (core_types ts) = list_before core_entry ts n
  front_in zero (component t) = Some []
  front_in (suc n) (component t) = bytes preamble ⊕ front n t
  front_in n (types ts) = list_before entry ts n
  front_in n (canons fs) = list_before canon fs n
  front_in n (imports is) = list_before import_entry is n
  front_in n (exports es) = list_before export_entry es n

-- as much of a component
abbrev pub before : ℕ → Tree → Piece
before n t = bytes preamble ⊕ front n t

-- how many bytes precede it
abbrev pub offset_in : ℕ → Tree → Option ℕ
offset_in n t = option_map length (before n t)

-- The encoding of that item.

abbrev pub sole_text : Piece → ℕ → Piece
sole_text p zero = p
sole_text p (suc n) = None

abbrev mutual
  pub item_text : ℕ → Tree → Piece
  item_text n ends = None
  item_text n (first p t) = if nat_lt n (items_in p) then text_in n p else item_text (n - items_in p) t

  pub text_in : ℕ → Part → Piece
  text_in n (custom name contents) = sole_text (text name ⊕ raw contents) n
  text_in n (core_module bs) = sole_text (embedded bs) n
  text_in n (core_types ts) = slice_get ts n >>= core_entry
  text_in zero (component t) = component_text t
  text_in (suc n) (component t) = item_text n t
  text_in n (types ts) = slice_get ts n >>= entry
  text_in n (canons fs) = slice_get fs n >>= canon
  text_in n (imports is) = slice_get is n >>= import_entry
  text_in n (exports es) = slice_get es n >>= export_entry

-- the bytes begin with it
abbrev pub IsAtFront : Piece → List ℕ → Type 0
IsAtFront p b = (rest : List ℕ) × (p ⊕ Some rest ≡ Some b)
