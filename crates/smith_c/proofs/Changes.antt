-- What is found among the changes, and why there is none.
use Rattle.std.proofs.Common.{ℕ, List, Option, Some, None, Result, Ok, Err, IfOk, IfErr}
use Rattle.std.specs.Option.{option_map}
use Rattle.smith_change.specs.Refusals.{IsRefusal}
use Rattle.smith_change.specs.declared.error.ChangeError.{ChangeError}
use Rattle.smith_change.specs.declared.error.ChangeError.TheVariants.{OutOfMemory, Unread}
use Rattle.smith_c.specs.Changes.{LacksChange, found, status_of}

pub lacks : (none : Type 0) (bytes : List ℕ) (e : ChangeError) → IsRefusal bytes e → LacksChange none bytes (status_of e)
lacks none bytes OutOfMemory refused = tt
lacks none bytes (Unread reason offset) refused = (offset, refused)

module _ {V W : Type 0} (shown : V → W) (P : Option W → Type 0) where
  pub found_some : (made : Result (Option V) ChangeError) → IfOk made (λ r. P (option_map shown r)) → IfOk (found made) (λ b. P (Some (shown b)))
  found_some (Ok (Some b)) is = is
  found_some (Ok None) is = tt
  found_some (Err e) is = tt

  pub found_none : (bytes : List ℕ) (made : Result (Option V) ChangeError) → IfOk made (λ r. P (option_map shown r)) → IfErr made (IsRefusal bytes)
      → IfErr (found made) (λ s. LacksChange (P None) bytes s)
  found_none bytes (Ok (Some b)) is refused = tt
  found_none bytes (Ok None) is refused = is
  found_none bytes (Err e) is refused = lacks (P None) bytes e refused
