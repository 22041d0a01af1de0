-- The changes of a component: in each, one token or one list of entries is another.
use Rattle.std.specs.Prelude.{◌≡◌, ℕ, ◌*◌, ◌/◌, ◌%◌, ◌≤◌, ◌<◌, Bool, true, false, List, Option, Some, None, bytes_eq, if◌then◌else◌}
use Rattle.smith_format.specs.Piece.{Piece}
use Rattle.smith_tree.specs.Grammar.{Spells, component_text}
use Rattle.smith_tree.specs.Tree.{Tree}
use Rattle.smith_change.specs.Parts.{places, sections_changed}

-- how many alternatives a place may have
abbrev pub alternatives : ℕ
alternatives = 16

-- How many changes there are. The number of one is 16 times that of its place, in the order of the bytes, and the number of the alternative.
abbrev pub changes : Tree → ℕ
changes t = alternatives * places t

-- the same bytes, or none
abbrev pub same_piece : Piece → Piece → Bool
same_piece None None = true
same_piece (Some a) (Some b) = bytes_eq a b
same_piece _ _ = false

-- the component that a change leads to, if it is another one
abbrev pub if_other : Tree → Option Tree → Option Tree
if_other t None = None
if_other t (Some r) = if same_piece (component_text t) (component_text r) then None else Some r

-- The component with one token or one list of entries changed. There is none if the place is none of the component's, if it has no such
-- alternative, or if that is what stands there.
abbrev pub changed : ℕ → Tree → Option Tree
changed number t = if_other t (sections_changed (number % alternatives) (number / alternatives) t)

-- The change leads to a component that has an encoding, and these are its bytes.
pub record LeadsTo (t : Tree) (number : ℕ) (bytes : List ℕ) : Type 0 where
  pub other : Tree
  pub is : changed number t ≡ Some other
  pub spelled : Spells other bytes

abbrev pub Leads : Tree → ℕ → Type 0
Leads t number = (bytes : List ℕ) × LeadsTo t number bytes

-- the bytes to which a change leads, or none if it leads to nothing
abbrev pub IsLead : Tree → ℕ → Option (List ℕ) → Type 0
IsLead t number (Some bytes) = LeadsTo t number bytes
IsLead t number None = ¬ Leads t number

-- This is the first change from that number on that leads to a component, by its number, and these are the component's bytes. There is none if no
-- change from there on leads to one.
abbrev pub IsNext : Tree → ℕ → Option (ℕ × List ℕ) → Type 0
IsNext t from (Some step) = (from ≤ step.0) × LeadsTo t step.0 step.1 × ((n : ℕ) → from ≤ n → n < step.0 → ¬ Leads t n)
IsNext t from None = (n : ℕ) → from ≤ n → ¬ Leads t n
