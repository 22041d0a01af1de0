-- What becomes of the entries of an index space (Explainer.md, index spaces).
use Rattle.std.specs.Prelude.{ℕ, ◌+◌, Bool, List, [], ◌∷◌, ◌++◌, Option, None, Some, slice_get, if◌then◌else◌}
use Rattle.smith_edit.specs.declared.renumbering.Fate.{Fate}
use Rattle.smith_edit.specs.declared.renumbering.Fate.TheVariants.{Kept, Changed, Removed}
use Rattle.smith_edit.specs.declared.renumbering.Renumbered.{Renumbered}

-- What became of each entry so far, and the new index of the next one that is not removed.
pub record Renumbering : Type 0 where
  pub next : ℕ
  pub entries : List Renumbered

-- no entries yet
abbrev pub from : ℕ → Renumbering
from n = record { next = n; entries = [] }

-- the next new index after an entry with that fate
abbrev pub after : ℕ → Fate → ℕ
after n Kept = n + 1
after n Changed = n + 1
after n Removed = n

-- with one more entry
abbrev pub with_entry : Renumbering → Fate → Renumbering
with_entry s f = record { next = after s.next f; entries = s.entries ++ (record { index = s.next; fate = f }) ∷ [] }

-- the entry with that old index; an index of nothing remains
abbrev pub entry_at : Renumbering → ℕ → Renumbered
entry_at s i = elim (slice_get s.entries i) [ None ↦ record { index = i; fate = Kept } | Some e ↦ e ]

-- the new index, if the entry is not removed

abbrev pub index_left : Renumbered → Option ℕ
index_left e = elim e.fate [ Kept ↦ Some e.index | Changed ↦ Some e.index | Removed ↦ None ]

abbrev pub new_index : Renumbering → ℕ → Option ℕ
new_index s i = index_left (entry_at s i)

-- the new index, if the entry is neither removed nor changed

abbrev pub index_kept : Renumbered → Option ℕ
index_kept e = elim e.fate [ Kept ↦ Some e.index | Changed ↦ None | Removed ↦ None ]

abbrev pub kept_index : Renumbering → ℕ → Option ℕ
kept_index s i = index_kept (entry_at s i)

-- the fate of what remains or is removed
abbrev pub fate_if : Bool → Fate → Fate
fate_if remains f = if remains then f else Removed

-- with one more entry of the same fate as that with the old index, if there is one
abbrev pub with_like : Renumbering → ℕ → Bool → Renumbering
with_like s i remains = elim (slice_get s.entries i) [ None ↦ s | Some e ↦ with_entry s (fate_if remains e.fate) ]
