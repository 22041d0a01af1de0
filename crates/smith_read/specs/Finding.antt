-- How an item is found in the bytes of a component: section after section, into each component.
use Rattle.std.specs.Prelude.{◌≡◌, ℕ, zero, suc, ◌+◌, ◌-◌, List, length, Option, None, Some, nat_lt, ◌==◌, if◌then◌else◌}
use Rattle.smith_read.specs.CoreTypes.{core_entry_at}
use Rattle.smith_read.specs.Levels.{entry_at}
use Rattle.smith_read.specs.Parts.{import_at, preamble_at}
use Rattle.smith_read.specs.Reading.{Found, ◌>>=◌, byte_at, frame_at, times_at, u_at}
use Rattle.smith_read.specs.Reads.{most_depth}
use Rattle.smith_read.specs.declared.offsets.Passing.{Passing as PassingNode}
use Rattle.smith_read.specs.declared.offsets.Passing.TheVariants as node
use Rattle.smith_read.specs.SectionEntries.{canon_at, export_at}

-- how many bytes precede what counts as one entry: none, and there is no other than the first
abbrev pub sole_at : ℕ → Option ℕ
sole_at index = if index == 0 then Some 0 else None

-- how many of the bytes of a list precede an entry of it
unfoldable pub listed_at : {A : Type 0} → (List ℕ → Found A) → ℕ → List ℕ → Option ℕ
listed_at reading index bs =
    u_at bs >>= λ n. if nat_lt index n.0 then (times_at reading index n.1 >>= λ x. Some (length bs - length x.1)) else None

-- how many of the contents of a section of that id precede an entry of it
unfoldable pub within_at : ℕ → ℕ → List ℕ → Option ℕ
within_at index id bs =
    if id == 0 then sole_at index
    else if id == 1 then sole_at index
    else if id == 3 then listed_at core_entry_at index bs
    else if id == 7 then listed_at (entry_at most_depth) index bs
    else if id == 8 then listed_at canon_at index bs
    else if id == 10 then listed_at import_at index bs
    else if id == 11 then listed_at export_at index bs
    else None

-- how many items there are in a section of that id that holds no component
abbrev pub counted_at : List ℕ → Option ℕ
counted_at bs = u_at bs >>= λ n. Some n.0

unfoldable pub items_of : ℕ → List ℕ → Option ℕ
items_of id bs =
    if id == 0 then Some 1
    else if id == 1 then Some 1
    else if id == 3 then counted_at bs
    else if id == 7 then counted_at bs
    else if id == 8 then counted_at bs
    else if id == 10 then counted_at bs
    else if id == 11 then counted_at bs
    else None

-- The item is found, with that many bytes from its beginning on; or it is that one of those in these bytes.
pub data Passing : Type 0 where
  reached : ℕ → Passing
  passed : ℕ → List ℕ → Passing

abbrev pub shown_passing : PassingNode → Passing
shown_passing (node.Found k) = reached k
shown_passing (node.Passed n bs) = passed n bs.now

-- past the header of a component, or past another section

unfoldable pub into_at : ℕ → List ℕ → Option Passing
into_at n bs = u_at bs >>= λ s. if n == 0 then Some (reached (length s.1)) else preamble_at s.1 >>= λ rest. Some (passed (n - 1) rest)

unfoldable pub past_at : ℕ → ℕ → List ℕ → Option Passing
past_at n id bs = frame_at bs >>= λ s. items_of id s.0 >>= λ count.
    if nat_lt n count then (within_at n id s.0 >>= λ k. Some (reached (length s.0 - k + length s.1)))
    else Some (passed (n - count) s.1)

unfoldable pub pass_at : ℕ → List ℕ → Option Passing
pass_at n bs = byte_at bs >>= λ t. if t.0 == 4 then into_at n t.1 else past_at n t.0 t.1

-- how many bytes there are from that item on, if at most so many sections and headers are passed
abbrev pub passing : (ℕ → List ℕ → Option ℕ) → Passing → Option ℕ
passing walk (reached k) = Some k
passing walk (passed n bs) = walk n bs

unfoldable pub walk_at : ℕ → ℕ → List ℕ → Option ℕ
walk_at zero n bs = None
walk_at (suc most) n bs = pass_at n bs >>= passing (walk_at most)

-- how many of a component's bytes precede an item
unfoldable pub found_at : ℕ → List ℕ → Option ℕ
found_at n bs = preamble_at bs >>= λ rest. walk_at (length rest) n rest >>= λ left. Some (length bs - left)

-- What is found is there; and what is there is found, if that holds.
pub record Finds (condition : Type 0) (found there : Option ℕ) : Type 0 where
  pub right : (n : ℕ) → found ≡ Some n → there ≡ Some n
  pub whole : condition → found ≡ there
