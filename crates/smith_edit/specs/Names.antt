-- What the names of the program are.
use Rattle.std.specs.Prelude.{◌≡◌, ℕ, List, length}
use Rattle.std.specs.BTreeSet.{contains_text}
use Rattle.smith_input.specs.NewNames.{is_among}
use Rattle.smith_edit.specs.declared.names.Names.{Names}
use Rattle.smith_edit.specs.declared.names.Taken.{Taken}

-- These are all of them.
pub record Knows (known : Names) (names : List (List ℕ)) : Type 0 where
  pub has : (name : List ℕ) → contains_text known.set name ≡ is_among names name
  pub count : known.count ≡ length names

-- the names of imports, and the names of exports
pub record KnowsBoth (taken : Taken) (imports exports : List (List ℕ)) : Type 0 where
  pub of_imports : Knows taken.imports imports
  pub of_exports : Knows taken.exports exports
