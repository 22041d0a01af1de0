-- What is written wrongly, wherever the search for it began.
use Rattle.std.proofs.Common.{ℕ, List, Option, Some, None}
use Rattle.std.specs.Option.{option_map}
use Rattle.smith_change.specs.Miswritten.{AreMiswritten, IsMisstep}
use Rattle.smith_change.specs.declared.miswritten.Misstep.{Misstep}
use Rattle.smith_corpus.specs.NearMisses.{IsSomeMisstep}

pub found_from : (given : List ℕ) (from : ℕ) (m : Misstep) → IsMisstep given from (Some (m.number, m.what, m.bytes.items)) → IsSomeMisstep given (Some m)
found_from given from m is = is.1

pub found_of_all : (given : List ℕ) (r : Option Misstep) → IsMisstep given 0 (option_map (λ m. (m.number, m.what, m.bytes.items)) r) → IsSomeMisstep given r
found_of_all given None is = is
found_of_all given (Some m) is = is.1

pub ruleset wrong = (found_from, found_of_all)
