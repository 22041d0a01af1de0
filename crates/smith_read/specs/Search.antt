-- Where what is sought is, seen from a place in a component.
use Rattle.std.specs.Prelude.{ℕ, ◌-◌, Bool, false, Option, Some, None, nat_eq, nat_lt, if◌then◌else◌}
use Rattle.smith_read.specs.declared.search.Search.{Search}
use Rattle.smith_read.specs.declared.search.Search.TheVariants.{Ahead, Over}

-- Is it the place here?
abbrev pub is_here : Search → Bool
is_here (Ahead n) = nat_eq n 0
is_here Over = false

-- where it is, seen from that many places further on
abbrev pub past : ℕ → Search → Search
past n (Ahead m) = if nat_lt m n then Over else Ahead (m - n)
past n Over = Over

-- which of the next that many places it is, if it is one of them
abbrev pub among : ℕ → Search → Option ℕ
among n (Ahead m) = if nat_lt m n then Some m else None
among n Over = None

-- what has that many places: as it is, or by the number of the one that is sought, if that is one of them
abbrev pub sought : {A : Type 0} → ℕ → Search → (ℕ → Option A) → A → Option A
sought n s changed x = elim (among n s) [ None ↦ Some x | Some k ↦ changed k ]
