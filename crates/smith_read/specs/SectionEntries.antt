-- How canonical functions and exports are read.
use Rattle.std.specs.Prelude.{ℕ, List, Some, None, ◌==◌, if◌then◌else◌}
use Rattle.smith_tree.specs.Tree.{Canon, ExportEntry, lift, lower}
use Rattle.smith_read.specs.Reading.{Found, ◌>>=◌, seen, byte_at, behind, both_at, u_at, skip_at, text_at}

-- a value, and then that byte
abbrev pub ended_at : {A : Type 0} → (List ℕ → Found A) → ℕ → List ℕ → Found A
ended_at reading n bs = reading bs >>= λ x. skip_at n x.1 >>= λ rest. Some (x.0, rest)

abbrev pub export_of : List ℕ × ℕ → ExportEntry
export_of x = record { name = x.0; func = x.1 }

-- an export: a name, and the index of a component function
unfoldable pub export_at : List ℕ → Found ExportEntry
export_at bs = seen export_of (behind 0x00 (both_at text_at (behind 0x01 (ended_at u_at 0x00))) bs)

unfoldable pub canon_after : ℕ → List ℕ → Found Canon
canon_after tag bs =
    if tag == 0x00 then seen (λ x. lift x.0 x.1) (behind 0x00 (both_at u_at (behind 0x00 u_at)) bs)
    else if tag == 0x01 then seen lower (behind 0x00 (ended_at u_at 0x00) bs)
    else None

unfoldable pub canon_at : List ℕ → Found Canon
canon_at bs = byte_at bs >>= λ t. canon_after t.0 t.1
