-- Components that differ in one token, or by one edit of one list.
use Rattle.std.specs.Prelude.{◌≡◌, ◌≢◌, ◌⊎◌, ℕ, List, [], ◌∷◌, ◌++◌, Some}
use Rattle.smith_core.specs.StandInText.{StandIn, stand_in_text}
use Rattle.smith_tree.specs.Tree.{Tree}
use Rattle.smith_read.specs.ModuleSections.{stand_in_at}
use Rattle.smith_change.specs.Tokens.{Token, list_tokens, stand_in_tokens, tokens}

-- one token is another, or may be
pub record InOneToken (ts us : List Token) : Type 0 where
  pub before : List Token
  pub old : Token
  pub new : Token
  pub after : List Token
  pub was : ts ≡ before ++ old ∷ after
  pub is : us ≡ before ++ new ∷ after

-- The second list is the first with one entry left out, one added, two neighbours exchanged, none, or some at its end.
pub data IsEdit {A : Type 0} : List A → List A → Type 0 where
  left_out : (before after : List A) (x : A) → IsEdit (before ++ x ∷ after) (before ++ after)
  added : (before after : List A) (x : A) → IsEdit (before ++ after) (before ++ x ∷ after)
  exchanged : (before after : List A) (x y : A) → IsEdit (before ++ x ∷ y ∷ after) (before ++ y ∷ x ∷ after)
  emptied : (xs : List A) → IsEdit xs []
  extended : (xs ys : List A) → IsEdit xs (xs ++ ys)

-- entries by their tokens
abbrev pub entries_tokens : List (List Token) → List Token
entries_tokens = list_tokens (λ entry. entry)

-- the entries of one list are others, and so may their number be
pub record InOneList (ts us : List Token) : Type 0 where
  pub before : List Token
  pub old : List (List Token)
  pub new : List (List Token)
  pub after : List Token
  pub was : ts ≡ before ++ entries_tokens old ++ after
  pub is : us ≡ before ++ entries_tokens new ++ after
  pub edited : IsEdit old new

-- One token is another.
abbrev pub DiffersInOneToken : Tree → Tree → Type 0
DiffersInOneToken t r = (d : InOneToken (tokens t) (tokens r)) × (d.old ≢ d.new)

-- One list has other entries.
abbrev pub DiffersInOneList : Tree → Tree → Type 0
DiffersInOneList t r = InOneList (tokens t) (tokens r) × (¬ (t ≡ r))

-- The first bytes are a core module of the two sections that are generated, and the second are one that differs from it so. A token is another only
-- if the bytes are.
pub record IsModuleChange (text new_text : List ℕ) : Type 0 where
  pub old : StandIn
  pub new : StandIn
  pub was : stand_in_at text ≡ Some old
  pub is : stand_in_text new ≡ Some new_text
  pub differ : InOneToken (stand_in_tokens old) (stand_in_tokens new) ⊎ InOneList (stand_in_tokens old) (stand_in_tokens new)
