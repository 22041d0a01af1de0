-- Why there is no changed component.
use Rattle.std.specs.Prelude.{ℕ, List}
use Rattle.smith_read.specs.Reads.{AreUnread}
use Rattle.smith_read.specs.declared.error.ReadError.{ReadError}
use Rattle.smith_read.specs.declared.error.ReadError.TheVariants as read_error
use Rattle.smith_change.specs.declared.error.ChangeError.{ChangeError}
use Rattle.smith_change.specs.declared.error.ChangeError.TheVariants as error

-- what a refusal to read is
abbrev pub unread : ReadError → ChangeError
unread read_error.OutOfMemory = error.OutOfMemory
unread (read_error.Malformed offset reason) = error.Unread reason offset

-- why these bytes have no changes
abbrev pub IsRefusal : List ℕ → ChangeError → Type 0
IsRefusal bytes error.OutOfMemory = Unit {0}
IsRefusal bytes (error.Unread reason offset) = AreUnread bytes offset
