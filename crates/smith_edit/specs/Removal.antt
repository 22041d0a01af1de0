-- What is removed of the items from a place on.
use Rattle.std.specs.Prelude.{ℕ, ◌-◌, Bool, true, false, nat_eq, nat_lt, if◌then◌else◌}
use Rattle.smith_edit.specs.declared.walk.Removal.{Removal}
use Rattle.smith_edit.specs.declared.walk.Removal.TheVariants.{Nothing, Items, Everything}

-- Is the item here removed?
abbrev pub removes : Removal → Bool
removes Nothing = false
removes (Items first last) = nat_eq first 0
removes Everything = true

-- what is removed from that many items further on
abbrev pub past : ℕ → Removal → Removal
past n Nothing = Nothing
past n (Items first last) = if nat_lt last n then Nothing else Items (first - n) (last - n)
past n Everything = Everything

-- what is removed inside the item here: all of it with the item
abbrev pub inside : Removal → Removal
inside r = if removes r then Everything else past 1 r
