-- What reading returns.
use Rattle.std.specs.Prelude.{◌≡◌, ◌≤◌, ◌+◌, ◌-◌, ℕ, List, Result, Ok, Err, IfOk, IfErr, length, min}
use Rattle.smith_tree.specs.Grammar.{Spells}
use Rattle.smith_tree.specs.Tree.{Tree}
use Rattle.smith_tree.specs.Depths.{scope_depth}
use Rattle.smith_read.specs.PartNodes.{shown_tree}
use Rattle.smith_read.specs.declared.error.ReadError.{ReadError}
use Rattle.smith_read.specs.declared.error.ReadError.TheVariants as error
use Rattle.smith_read.specs.declared.nodes.ComponentTree.{ComponentTree}
use Rattle.smith_read.specs.declared.unread.Unread.{Unread}
use Rattle.smith_read.specs.declared.unread.Unread.TheVariants as inner

-- how deep scopes may be in what is read
abbrev pub most_depth : ℕ
most_depth = 1001

-- What is read is spelled by the bytes, and is no deeper than that. If they spell a tree that is no deeper, nothing is
-- refused, except when out of memory.
pub record Reads (result : Result ComponentTree ReadError) (bytes : List ℕ) : Type 0 where
  pub spelled : IfOk result (λ t. Spells (shown_tree t) bytes)
  pub shallow : IfOk result (λ t. scope_depth (shown_tree t) ≤ most_depth)
  pub answers : (t : Tree) → scope_depth t ≤ most_depth → Spells t bytes → IfErr result (λ e. e ≡ error.OutOfMemory)

-- They spell a component that is no deeper than that and has the property.
abbrev pub AreRead : List ℕ → (Tree → Type 0) → Type 0
AreRead bytes P = (t : Tree) × Spells t bytes × (scope_depth t ≤ most_depth) × P t

-- They spell no component that is no deeper than that; and the offset is in them or at their end.
abbrev pub AreUnread : List ℕ → ℕ → Type 0
AreUnread bytes offset = ((t : Tree) → Spells t bytes → ¬ (scope_depth t ≤ most_depth)) × (offset ≤ length bytes)

-- what is wrong was seen at no offset past that length
abbrev pub IsWithin : ℕ → ReadError → Type 0
IsWithin length error.OutOfMemory = Unit {0}
IsWithin length (error.Malformed offset reason) = offset ≤ length

-- the same result, with that many more bytes left
abbrev pub behind : {A : Type 0} → ℕ → Result A Unread → Result A Unread
behind more (Ok x) = Ok x
behind more (Err inner.OutOfMemory) = Err inner.OutOfMemory
behind more (Err (inner.Malformed left reason)) = Err (inner.Malformed (min (left + more) 18446744073709551615) reason)

-- what is refused, of that many bytes
abbrev pub at_offset : ℕ → Unread → ReadError
at_offset length inner.OutOfMemory = error.OutOfMemory
at_offset length (inner.Malformed left reason) = error.Malformed (length - left) reason
