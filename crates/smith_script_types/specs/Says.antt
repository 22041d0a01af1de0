-- What a writer of a script did to a buffer.
use Rattle.std.specs.Prelude.{◌≡◌, ℕ, List, ◌++◌, Result, Ok, Err}
use Rattle.std.specs.declared.vec.Vec.{Vec}
use Rattle.std.specs.declared.alloc.Global.{Global}
use Rattle.smith_input.specs.Script.{AreBytes}
use Rattle.smith_input.specs.declared.error.Error.{Error}
use Rattle.smith_input.specs.declared.error.Error.TheVariants.{OutOfMemory}

-- new holds what old held, and then the script
pub record Adds (old new : Vec ℕ Global) (script : List ℕ) : Type 0 where
  pub is : new.items ≡ old.items ++ script

-- A writer of the script fails with this error. Other than when out of memory it does so only if the script is not bytes, as when a
-- choice takes more of them than it has: that is TooLong.
pub record IsUnsaid (e : Error) (script : List ℕ) : Type 0 where
  pub is : ¬ (e ≡ OutOfMemory) → ¬ AreBytes script

-- A writer put the script after what was there. After an error any bytes may be in the buffer.
abbrev pub Says : {A : Type 0} → Result A Error → Vec ℕ Global → Vec ℕ Global → List ℕ → Type 0
Says (Ok _) old new script = Adds old new script
Says (Err e) old new script = IsUnsaid e script
